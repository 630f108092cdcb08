-- What writing a text into the midst of bytes leaves. Assumes nothing.
use Rattle.std.specs.Prelude.{◌≡◌, ℕ, ◌+◌, ◌<◌, ◌≤◌, List, ◌++◌, length, take, drop}

-- text stands from at to end, and every other byte is as it was
pub record Wrote (before : List ℕ) (at : ℕ) (text : List ℕ) (end : ℕ) (after : List ℕ) : Type 0 where
  pub ends : end ≡ at + length text
  pub room : end ≤ length before
  pub reads : after ≡ take at before ++ (text ++ drop end before)

-- text is written from at on if there is room for all of it; otherwise nothing is
pub record Puts (before : List ℕ) (at : ℕ) (text : List ℕ) (end : ℕ) (after : List ℕ) : Type 0 where
  pub wrote : at + length text ≤ length before → Wrote before at text end after
  pub left : length before < at + length text → (end ≡ at) × (after ≡ before)
