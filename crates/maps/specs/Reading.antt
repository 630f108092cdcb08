-- The reading rule: how a client finds a link in a table of cells, and how many cells it reads. Assumes nothing.
use Rattle.std.specs.Prelude.{ℕ, ◌+◌, ◌*◌, min, max, Bool, true, false, cond, ◌||◌, List, [], ◌∷◌, length, take, drop, ◌==◌}

-- row v of a table: k cells to each row, one row after the other; cells past the table's end are none
abbrev pub row : ℕ → List ℕ → ℕ → List ℕ
row k table v = take k (drop (v * k) table)

-- the filled cells of a row: an empty cell, 65535, ends it
abbrev pub filled : List ℕ → List ℕ
filled [] = []
filled (c ∷ cells) = cond (c == 65535) [] (c ∷ filled cells)

-- one of the cells names x
abbrev pub names : ℕ → List ℕ → Bool
names x [] = false
names x (c ∷ cells) = c == x || names x cells

-- how many cells are read where reading stops at the first that names x; all where none does
abbrev pub read_to : ℕ → List ℕ → ℕ
read_to x [] = 0
read_to x (c ∷ cells) = cond (c == x) 1 (1 + read_to x cells)

-- is the link of two spaces in the table, and how many cells are read: the row of the one first, then, unless it names the other, the row of the other
abbrev pub reading_rows : (k : ℕ) → List ℕ → ℕ → ℕ → Bool × ℕ
reading_rows k table v w =
    let front : List ℕ = filled (row k table v) in
    let back : List ℕ = filled (row k table w) in
    cond (names w front) (true, read_to w front) (names v back, length front + read_to v back)

-- the row of the lower space comes first
abbrev pub reading : (k : ℕ) → List ℕ → ℕ → ℕ → Bool × ℕ
reading k table a b = reading_rows k table (min a b) (max a b)
