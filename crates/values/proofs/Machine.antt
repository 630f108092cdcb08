-- Columns as machine words have them. Assumes nothing.
use Rattle.std.proofs.Common.{◌≡◌, ◌≤◌, [], ◌∷◌, ℤ, nat_abs, arith, w32, to_z, of_z}
use Rattle.std.proofs.lemmas.Int.{ints}

pub same_four : (a b c d i j k l : ℤ) → a ≡ i → b ≡ j → c ≡ k → d ≡ l → a ∷ (b ∷ (c ∷ (d ∷ []))) ≡ i ∷ (j ∷ (k ∷ (l ∷ [])))
same_four a b c d i j k l e f g h = cc

-- a number, as a machine word has it
abbrev pub kept : ℤ → ℤ
kept z = to_z w32 (of_z w32 z)

pub kept_is : (z : ℤ) → nat_abs z ≤ 1000000000 → kept z ≡ z
kept_is z h = omega (arith, ints)
