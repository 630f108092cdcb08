-- Thick sets, peeling, and orders.
use Rattle.std.proofs.Common.{◌≡◌, ℕ, ◌<◌, ◌≤◌, true, T, List, [], ◌∷◌, length, sym, ap, inl, inr, arith}
use Rattle.std.specs.List.{AllByRecursion}
use Rattle.std.proofs.lemmas.Bool.{cases_eq, eqb-true, eq-eqb, lt-ltb, ltb-true, cases_order}
use Rattle.maps.specs.Links.{Link}
use Rattle.maps.specs.Sets.{Spaces, Inside}
use Rattle.maps.specs.Density.{neighbours_in, Thick, Dense}
use Rattle.maps.specs.LinkChecks.{GoodLinks}
use Rattle.survey.specs.Orders.{times, place, before, Ordering}
use Rattle.survey.specs.Filling.{outside, Peeled}
use Rattle.maps.proofs.Good.{T_true, true_T}
use Rattle.survey.proofs.Counts.{neighbours_le, times_yes, times_no, times_more, largest, list_total, total_tight}
use Rattle.survey.proofs.Places.{place_here, place_on, place_apart}

outside_more : (v w : ℕ) (placed : List ℕ) → (w ≡ v → ⊥) → outside placed w ≡ true → outside (v ∷ placed) w ≡ true
outside_more v w placed ne e = eq-eqb _ 0 (omega (arith, eqb-true (times w placed) 0 e, times_no v w placed ne))

outside_less : (v w : ℕ) (placed : List ℕ) → outside (v ∷ placed) w ≡ true → outside placed w ≡ true
outside_less v w placed e = eq-eqb _ 0 (omega (arith, eqb-true (times w (v ∷ placed)) 0 e, times_more v w placed))

pub peeled_thick :
    (k n : ℕ) (links : List Link) → GoodLinks n links → (placed : List ℕ) → AllByRecursion (λ v. v < n) placed → Peeled k links placed →
    (s : Spaces) → Thick k n links s → Inside n s (outside placed)
peeled_thick k n links g [] a p s t w l m = tt
peeled_thick k n links g (v ∷ placed) a p s t w l m =
    let front = peeled_thick k n links g placed a.1 p.1 s t in
    elim (cases_eq w v) [
      | inl q ↦ absurd (
          let sv : T (s v) = rw (sym q) m in
          omega (
            arith,
            t.1 v a.0 sv,
            p.0,
            neighbours_le n v links g.ends s (outside (v ∷ placed)) (λ x lx ne e. outside_more v x placed ne (T_true _ (front x lx (true_T (s x) e)))),
          ))
      | inr ne ↦ true_T _ (outside_more v w placed ne (T_true _ (front w l m)))
    ]

-- one space more in front: it has at most k neighbours among those that are not placed
pub placing : (k n : ℕ) (links : List Link) → GoodLinks n links → (placed : List ℕ) → Peeled k links placed → (v : ℕ) → neighbours_in links (outside placed) v ≤ k → Peeled k links (v ∷ placed)
placing k n links g placed p v few = (omega (arith, neighbours_le n v links g.ends (outside (v ∷ placed)) (outside placed) (λ x lx ne o. outside_less v x placed o)), p)

pub all_listed :
    (n : ℕ) (order : List ℕ) → length order ≡ n → AllByRecursion (λ v. v < n) order → ((v : ℕ) → v < n → times v order ≤ 1) →
    (v : ℕ) → v < n → times v order ≡ 1
all_listed n order long a h = total_tight (λ v. times v order) n h (omega (arith, list_total n order a))

-- the back of the order that begins at v
late : (k : ℕ) (links : List Link) (order : List ℕ) → Peeled k links order → (v : ℕ) → 1 ≤ times v order →
    (rest : List ℕ) × (neighbours_in links (outside (v ∷ rest)) v ≤ k) × ((w : ℕ) → times w (v ∷ rest) ≤ times w order) ×
    ((w : ℕ) → times w order ≤ 1 → place order w < place order v → times w (v ∷ rest) ≡ 0)
late k links [] p v h = absurd (omega arith)
late k links (x ∷ xs) p v h =
    elim (cases_eq v x) [
      | inl q ↦ rw q (xs, p.0, λ w. omega arith, λ w _ l. absurd (omega (arith, place_here x xs)))
      | inr ne ↦
          let (rest, few, part, none) = late k links xs p.1 v (omega (arith, times_no x v xs ne)) in (
            rest,
            few,
            λ w. omega (arith, part w, times_more x w xs),
            λ w o l.
                elim (cases_eq w x) [
                  | inl q ↦ omega (arith, part w, times_yes x xs, ap (λ (y : ℕ). times y (x ∷ xs)) q, ap (λ (y : ℕ). times y xs) q)
                  | inr nw ↦ none w (omega (arith, times_more x w xs)) (omega (arith, place_on x w xs nw, place_on x v xs ne))
                ],
          )
    ]

pub peeled_ordering :
    (k n : ℕ) (links : List Link) → GoodLinks n links → (order : List ℕ) → length order ≡ n →
    ((v : ℕ) → v < n → times v order ≡ 1) → Peeled k links order → Ordering k n links order
peeled_ordering k n links g order long once p =
    record {
      long = long;
      once = once;
      few = λ v lv.
          let (rest, few, part, none) = late k links order p v (omega (arith, once v lv)) in
          omega (
            arith,
            neighbours_le n v links g.ends (before order v) (outside (v ∷ rest))
                (λ w lw ne e. eq-eqb _ 0 (none w (omega (arith, once w lw)) (ltb-true (place order w) (place order v) e))),
          );
    }

pub ordering_not_dense : (k n : ℕ) (links : List Link) → GoodLinks n links → (order : List ℕ) → Ordering k n links order → Dense k n links → ⊥
ordering_not_dense k n links g order o (s, t) =
    elim (largest s (place order) n) [
      | inl none ↦ let (v, l, m) = t.0 in none v l (T_true (s v) m)
      | inr (v, lv, e, h) ↦
          omega (
            arith,
            t.1 v lv (true_T (s v) e),
            o.few v lv,
            neighbours_le n v links g.ends s (before order v) (λ w lw ne m. lt-ltb _ _ (elim (cases_order (place order w) (place order v)) [
              | inl q ↦ absurd (ne (place_apart order w v (omega (arith, o.once w lw)) (omega (arith, o.once v lv)) q))
              | inr (inl b) ↦ b
              | inr (inr b) ↦ absurd (omega (arith, h w lw m))
            ])),
          )
    ]
