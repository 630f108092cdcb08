-- What a board is asked and what it replies. Assumes nothing.
use Rattle.std.specs.Prelude.{ℕ, Bool, List, ℤ, Option}
use Rattle.maps.specs.Links.{Link, Meaning}

-- the columns of a value
abbrev pub Columns : Type 0
Columns = List ℤ

-- memory that a board lies in, by its lengths: records of spaces, cells of the table, places of the ledger, totals
pub record Memory : Type 0 where
  pub records : ℕ
  pub table : ℕ
  pub ledger : ℕ
  pub totals : ℕ

-- memory that is handed in for one call, by its lengths: set bytes and mark bytes
pub record Lent : Type 0 where
  pub members : ℕ
  pub marks : ℕ

-- a call with its arguments: a map by its meaning, a value by its columns, memory by its length
pub data Call : Type 0 where
  set_up : (map : Meaning) (depth : ℕ) (lent : Lent) → Call
  opening : (l : Link) (owner : ℕ) (value : Columns) (lent : Lent) → Call
  closing : (l : Link) → Call
  look_up : (l : Link) → Call
  total : (owner : ℕ) → Call
  counts : (owner : ℕ) → Call

-- A reply. A refusal has its number, the place of a link in the list if it names one, and the bytes of a set if it reports one. A look-up tells how many cells were read.
pub data Reply : Type 0 where
  refused : (number : ℕ) (place : Option ℕ) (members : Option (List ℕ)) → Reply
  done : Reply
  closed_for : (owner : ℕ) → Reply
  linked : (answer : Bool) (cells : ℕ) → Reply
  sum : (value : Columns) → Reply
  counted : (standing opened closed : ℕ) → Reply
