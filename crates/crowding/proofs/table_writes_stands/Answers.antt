use Rattle.crowding.proofs.Tables.{table_writes}
use Rattle.crowding.proofs.table_writes_stands.Goals as goal

pub returns : goal.returns
returns c = table_writes
