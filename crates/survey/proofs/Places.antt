-- Places in an order.
use Rattle.std.proofs.Common.{◌≡◌, ℕ, zero, suc, ◌+◌, ◌<◌, ◌≤◌, eqb, List, [], ◌∷◌, length, get_or, sym, refl, ap, ◌∙◌, inl, inr, arith}
use Rattle.std.proofs.lemmas.Bool.{cases_eq, eq-eqb, ne_eqb, cond-true, cond-false}
use Rattle.survey.specs.Orders.{times, place}
use Rattle.survey.proofs.Counts.{times_yes, times_no, times_at}

pub place_here : (v : ℕ) (xs : List ℕ) → place (v ∷ xs) v ≡ 0
place_here v xs = cond-true (eqb v v) 0 (1 + place xs v) (eq-eqb v v refl)

pub place_on : (x v : ℕ) (xs : List ℕ) → (v ≡ x → ⊥) → place (x ∷ xs) v ≡ 1 + place xs v
place_on x v xs ne = cond-false (eqb x v) 0 (1 + place xs v) (ne_eqb x v (λ e. ne (sym e)))

-- what stands at the place of v is v
pub place_at : (order : List ℕ) (v : ℕ) → 1 ≤ times v order → (place order v < length order) × (get_or order (place order v) 0 ≡ v)
place_at [] v h = absurd (omega arith)
place_at (x ∷ xs) v h =
    elim (cases_eq v x) [
      | inl q ↦ let e : place (x ∷ xs) v ≡ 0 = rw q (place_here x xs) in (omega arith, rw e (sym q))
      | inr ne ↦
          let (l, e) = place_at xs v (omega (arith, times_no x v xs ne)) in
          let s : place (x ∷ xs) v ≡ suc (place xs v) = omega (arith, place_on x v xs ne) in
          (omega arith, rw s e)
    ]

pub place_apart : (order : List ℕ) (v w : ℕ) → 1 ≤ times v order → 1 ≤ times w order → place order v ≡ place order w → v ≡ w
place_apart order v w h k e = sym (place_at order v h).1 ∙ (ap (λ (i : ℕ). get_or order i 0) e ∙ (place_at order w k).1)

-- the place of what stands at i is i, where nothing stands twice
pub place_is : (order : List ℕ) (i : ℕ) → i < length order → times (get_or order i 0) order ≤ 1 → place order (get_or order i 0) ≡ i
place_is [] i l h = absurd (omega arith)
place_is (x ∷ xs) zero l h = place_here x xs
place_is (x ∷ xs) (suc i) l h =
    let v : ℕ = get_or xs i 0 in
    let some : 1 ≤ times v xs = times_at xs i 0 v (omega arith) refl in
    elim (cases_eq v x) [
      | inl q ↦ absurd (let z : times v (v ∷ xs) ≤ 1 = (rw (sym q) at h) in omega (arith, times_yes v xs))
      | inr ne ↦ omega (arith, place_on x v xs ne, place_is xs i (omega arith) (omega (arith, times_no x v xs ne)))
    ]
