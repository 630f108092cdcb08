-- The plain book of a board, as one would keep it in pencil. Assumes nothing.
use Rattle.std.specs.Prelude.{◌≡◌, ℕ, ◌+◌, ◌≤◌, Bool, cond, not, ◌⊎◌, List, [], ◌∷◌, ◌++◌, map, replicate, pos, ◌+ℤ◌, count_by, filter, ◌==◌, nat_eq}
use Rattle.maps.specs.Links.{Link, Meaning, same, some_same}
use Rattle.values.specs.Columns.{by_column}
use Rattle.book.specs.Calls.{Columns}

-- a link, its owner and its value
pub record Entry : Type 0 where
  pub link : Link
  pub owner : ℕ
  pub value : Columns

-- How many spaces, how many cells to each, the entries in any order, and for each owner how many links were opened and closed. A link stands while it has an entry.
pub record Book : Type 0 where
  pub spaces : ℕ
  pub depth : ℕ
  pub entries : List Entry
  pub opened : ℕ → ℕ
  pub closed : ℕ → ℕ

abbrev pub new_book : Book
new_book = record { spaces = 0; depth = 0; entries = []; opened = λ _. 0; closed = λ _. 0 }

abbrev pub links_of : List Entry → List Link
links_of es = map (λ e. e.link) es

-- one of the entries has this link
abbrev pub stands_in : Link → List Entry → Bool
stands_in l es = some_same l (links_of es)

-- the entry is one of them
abbrev pub On : List Entry → Entry → Type 0
On [] e = ⊥
On (x ∷ xs) e = (x ≡ e) ⊎ On xs e

-- no link has two entries
abbrev pub Apart : List Entry → Type 0
Apart es = (l : Link) → count_by (λ e. same l e.link) es ≤ 1

abbrev pub of_owner : ℕ → List Entry → List Entry
of_owner o es = filter (λ e. nat_eq e.owner o) es

-- the entries without that of a link
abbrev pub without : Link → List Entry → List Entry
without l es = filter (λ e. not (same l e.link)) es

-- the zero value of a kind with so many columns
abbrev pub zeros : ℕ → Columns
zeros width = replicate width (pos 0)

-- the values of the entries, column by column
abbrev pub total_of : ℕ → List Entry → Columns
total_of width [] = zeros width
total_of width (e ∷ es) = by_column ◌+ℤ◌ e.value (total_of width es)

-- one more at o
abbrev pub one_more : (ℕ → ℕ) → ℕ → ℕ → ℕ
one_more f o i = cond (i == o) (f i + 1) (f i)

-- an entry entered, and counted as opened
abbrev pub entered : Book → Entry → Book
entered b e = record { spaces = b.spaces; depth = b.depth; entries = e ∷ b.entries; opened = one_more b.opened e.owner; closed = b.closed }

-- a link's entry struck out, and counted as closed
abbrev pub struck_out : Book → Link → (owner : ℕ) → Book
struck_out b l o = record { spaces = b.spaces; depth = b.depth; entries = without l b.entries; opened = b.opened; closed = one_more b.closed o }

-- the entry of a printed link: of owner 0, with the zero value
abbrev pub printed_entry : (width : ℕ) → Link → Entry
printed_entry width l = record { link = l; owner = 0; value = zeros width }

-- a map laid: its spaces and the depth noted, its links entered
abbrev pub laid : (width : ℕ) → Book → Meaning → ℕ → Book
laid width b m k = record { spaces = m.spaces; depth = k; entries = map (printed_entry width) m.links ++ b.entries; opened = b.opened; closed = b.closed }
