-- An array that was filled by calls that change nothing. Assumes nothing.
use Rattle.std.proofs.Common.{◌≡◌, ℕ, zero, suc, ◌+◌, ◌<◌, List, ℤ, pos, ◌∙◌, subst, arith}
use Rattle.std.specs.Array.{IsFromFnResultFrom}
use denote.Param.Members.{Mut, Called}
use Rattle.values.specs.Columns.{column}

pub filled : {F : Type 0} (g : Mut F (ℕ × Unit {0}) ℤ) (f : F) (h : ℕ → ℤ) → ((i : ℕ) (y : ℤ) (q : F) → Called g f (i, tt) y q → (y ≡ h i) × (q ≡ f))
    → (ys : List ℤ) (i n : ℕ) → IsFromFnResultFrom g f ys i n → (j k : ℕ) → j ≡ i + k → k < n → column ys j ≡ h j
filled g f h c ys i zero r j k e l = absurd (omega arith)
filled g f h c ys i (suc n) r j zero e l =
    let q : j ≡ i = omega arith in
    rw q (r.2.1 (pos 0) ∙ (c i r.1 r.0 r.3).0)
filled {F} g f h c ys i (suc n) r j (suc k) e l =
    let P : F → Type 0 = λ s. IsFromFnResultFrom g s ys (i + 1) n in
    filled g f h c ys (i + 1) n (subst P (c i r.1 r.0 r.3).1 r.4) j k (omega arith) (omega arith)
