use Rattle.book.proofs.Lawful.{book_is_lawful}
use Rattle.book.proofs.book_is_lawful_stands.Goals as goal

pub returns : goal.returns
returns c = book_is_lawful
