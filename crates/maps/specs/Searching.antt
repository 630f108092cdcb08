-- Marks that are lent for a search. Assumes nothing.
use Rattle.std.specs.Prelude.{◌≡◌, ℕ, ◌≤◌, length}
use Rattle.maps.specs.declared.marks.Marks.{Marks}
use Rattle.maps.specs.Past.{SameFrom}

-- the marks are those of so many spaces, with a byte for each
abbrev pub MarksOf : ℕ → Marks → Type 0
MarksOf spaces marks = (marks.n ≡ spaces) × (spaces ≤ length marks.bytes.now)

-- the marks of as many spaces, over the same bytes
pub record SameMarks (marks marks' : Marks) : Type 0 where
  pub n : marks'.n ≡ marks.n
  pub same : marks'.bytes.ghost_name ≡ marks.bytes.ghost_name

-- the same marks, of which only the first bytes may have changed
pub record StillLent (spaces : ℕ) (marks marks' : Marks) : Type 0 where
  pub same : SameMarks marks marks'
  pub bytes : SameFrom spaces marks.bytes.now marks'.bytes.now
