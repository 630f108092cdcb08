-- Laws of league points and places. Assumes nothing.
use Rattle.std.proofs.Common.{◌≡◌, ℕ, zero, suc, ◌+◌, ◌*◌, ◌%◌, ◌<◌, ◌≤◌, cond, List, [], ◌∷◌, length, get_or, ℤ, pos, negsuc, neg_ℤ, nat_abs, ◌<ℤ◌, count_by, refl, arith}
use lib.Signed.{lt_z}
use Rattle.std.proofs.lemmas.Int.{ints}
use Rattle.std.proofs.lemmas.List.Sums.{sum_by-cons}
use Rattle.league.specs.Scores.{league_points_of, place}

pub size : (z : ℤ) → nat_abs (league_points_of z) * 2 ≡ nat_abs z + nat_abs z % 2
size (pos n) = omega arith
size (negsuc n) = omega (arith, ints)

pub alike : (z : ℤ) → league_points_of (neg_ℤ z) ≡ neg_ℤ (league_points_of z)
alike (pos zero) = refl
alike (pos (suc n)) = refl
alike (negsuc n) = omega (arith, ints)

-- what is greater than the greater is greater than the less
one_le : (low high z : ℤ) → low <ℤ high → cond (lt_z high z) 1 0 ≤ cond (lt_z low z) 1 0
one_le low high z h = grind (arith, ints)

one_lt : (low high : ℤ) → low <ℤ high → cond (lt_z high high) 1 0 < cond (lt_z low high) 1 0
one_lt low high h = grind (arith, ints)

counts_le : (ws : List ℤ) (low high : ℤ) → low <ℤ high → count_by (λ z. lt_z high z) ws ≤ count_by (λ z. lt_z low z) ws
counts_le [] low high h = omega arith
counts_le (z ∷ ws) low high h =
    omega (arith, sum_by-cons (λ y. cond (lt_z high y) 1 0) z ws, sum_by-cons (λ y. cond (lt_z low y) 1 0) z ws, counts_le ws low high h, one_le low high z h)

counts_lt : (ws : List ℤ) (k : ℕ) (low high : ℤ) → low <ℤ high → k < length ws → get_or ws k (pos 0) ≡ high → count_by (λ z. lt_z high z) ws < count_by (λ z. lt_z low z) ws
counts_lt [] k low high h i e = absurd (omega arith)
counts_lt (z ∷ ws) zero low high h i e =
    let o : cond (lt_z high z) 1 0 < cond (lt_z low z) 1 0 = rw e (one_lt low high h) in
    omega (arith, sum_by-cons (λ y. cond (lt_z high y) 1 0) z ws, sum_by-cons (λ y. cond (lt_z low y) 1 0) z ws, counts_le ws low high h)
counts_lt (z ∷ ws) (suc k) low high h i e =
    omega (arith, sum_by-cons (λ y. cond (lt_z high y) 1 0) z ws, sum_by-cons (λ y. cond (lt_z low y) 1 0) z ws, counts_lt ws k low high h (omega arith) e, one_le low high z h)

pub before : (weights : List ℤ) (k : ℕ) (low : ℤ) → k < length weights → low <ℤ get_or weights k (pos 0) → place weights (get_or weights k (pos 0)) < place weights low
before ws k low i h = omega (arith, counts_lt ws k low (get_or ws k (pos 0)) h i refl)
