-- The league points of a weight, and the place of a weight among weights. Assumes nothing.
use Rattle.std.specs.Prelude.{ℕ, suc, ◌+◌, ◌/◌, List, ℤ, pos, negsuc, neg_ℤ, count_by, int_lt}

-- n halves in whole points; a half counts as a whole one
abbrev pub rounded : ℕ → ℕ
rounded n = (n + 1) / 2

-- a weight in halves rounded to whole points, a half away from 0
abbrev pub league_points_of : ℤ → ℤ
league_points_of (pos n) = pos (rounded n)
league_points_of (negsuc n) = neg_ℤ (pos (rounded (suc n)))

-- one more than how many of the weights are greater
abbrev pub place : List ℤ → ℤ → ℕ
place weights weight = 1 + count_by (λ other. int_lt weight other) weights
