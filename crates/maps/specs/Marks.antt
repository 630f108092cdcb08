-- Mark bytes lent to a search. Assumes nothing.
use Rattle.std.specs.Prelude.{◌≡◌, ℕ, ◌<◌, ◌≤◌, Bool, not, List, length, ◌==◌, slice_index}

-- the first n bytes are 0, and the others as they were
pub record Cleared (n : ℕ) (before after : List ℕ) : Type 0 where
  pub len : length after ≡ length before
  pub low : (q : ℕ) → q < n → slice_index after q ≡ 0
  pub high : (q : ℕ) → n ≤ q → slice_index after q ≡ slice_index before q

-- the space at q is marked
abbrev pub marked : List ℕ → ℕ → Bool
marked marks q = not (slice_index marks q == 0)
