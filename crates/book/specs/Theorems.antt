-- What is proved of runs that a plain book leads. Assumes nothing.
use Rattle.std.specs.Prelude.{ℕ, List}
use Rattle.book.specs.Answers.{Leads}
use Rattle.book.specs.Book.{Book, new_book}
use Rattle.book.specs.Calls.{Memory, Call, Reply}
use Rattle.book.specs.Law.{Law}

-- Whatever replies a plain book leads to, kept from a new one on, they obey the law.
abbrev pub BookIsLawful : Type 0
BookIsLawful =
    (width : ℕ) (mem : Memory) (calls : List Call) (replies : List Reply) (b : Book)
    → Leads width mem new_book calls replies b → Law width mem calls replies
