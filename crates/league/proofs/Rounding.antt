-- Halves rounded as machine words are. Assumes nothing.
use Rattle.std.proofs.Common.{◌≡◌, ◌≤◌, length, ℤ, pos, negsuc, ◌+ℤ◌, nat_abs, ap, ◌∙◌, arith, w64, SFits, to_z, of_z}
use lib.Signed.{quot_z, rem_z, mag}
use Rattle.std.specs.Fmt.{signed_decimal}
use Rattle.std.proofs.lemmas.Fmt.{length_signed_le}
use Rattle.std.proofs.lemmas.Int.{ints, to_z-of_z}
use Rattle.league.specs.Scores.{league_points_of}

-- a number, as a machine word has it
abbrev kept : ℤ → ℤ
kept z = to_z w64 (of_z w64 z)

pub rounds : (z : ℤ) → quot_z z (pos 2) +ℤ rem_z z (pos 2) ≡ league_points_of z
rounds (pos n) = omega (arith, ints)
rounds (negsuc n) = omega (arith, ints)

sum_fits : (z : ℤ) → SFits w64 z → kept (kept (quot_z z (pos 2)) +ℤ kept (rem_z z (pos 2))) ≡ quot_z z (pos 2) +ℤ rem_z z (pos 2)
sum_fits (pos n) f = omega (arith, ints)
sum_fits (negsuc n) f = omega (arith, ints)

pub kept_rounds : (z : ℤ) → SFits w64 z → kept (kept (quot_z (kept z) (pos 2)) +ℤ kept (rem_z (kept z) (pos 2))) ≡ league_points_of z
kept_rounds z f =
    ap (λ y. kept (kept (quot_z y (pos 2)) +ℤ kept (rem_z y (pos 2)))) (to_z-of_z w64 z f) ∙ sum_fits z f ∙ rounds z

pub points_small : (z : ℤ) → nat_abs z ≤ 4000000000 → nat_abs (league_points_of z) ≤ 2000000000
points_small (pos n) h = omega arith
points_small (negsuc n) h = omega (arith, ints)

mag_le : (z : ℤ) → mag z ≤ nat_abs z
mag_le (pos n) = omega arith
mag_le (negsuc n) = omega arith

pub points_length : (z : ℤ) → nat_abs z ≤ 4000000000 → length (signed_decimal (league_points_of z)) ≤ 11
points_length z h =
    let m = mag_le (league_points_of z) in
    let p = points_small z h in
    length_signed_le 10 (league_points_of z) (omega arith) (omega arith)
