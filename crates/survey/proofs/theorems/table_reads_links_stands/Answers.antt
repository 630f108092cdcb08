use Rattle.survey.proofs.ReadOut.{table_reads_links}
use Rattle.survey.proofs.theorems.table_reads_links_stands.Goals as goal

pub returns : goal.returns
returns c = table_reads_links
