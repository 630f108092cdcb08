-- Links counted by the two spaces that they join.
use Rattle.std.proofs.Common.{◌≡◌, ℕ, ◌+◌, ◌≤◌, Bool, true, false, cond, ◌&&◌, ◌||◌, eqb, List, [], ◌∷◌, count_by, sym, refl, ap, ◌∙◌, ap₂, inl, inr, arith}
use Rattle.std.proofs.lemmas.List.Sums.{sum_by-cons}
use Rattle.std.proofs.lemmas.Bool.{cases_Bool, or_cases, or_left, and_parts, and_from, eq-eqb, eqb-true}
use Rattle.maps.specs.Links.{Link, same, some_same}
use Rattle.crowding.specs.Bags.{Symmetric, SameLinks}
use Rattle.crowding.specs.Theorems.{SameByPairs}
use Rattle.crowding.proofs.Sums.{bit, count_yes, count_no}

or_swap : (a b : Bool) → (a || b) ≡ (b || a)
or_swap a b = grind arith

pub same_symmetric : (l : Link) → Symmetric (same l)
same_symmetric l c d = or_swap (eqb l.0 c && eqb l.1 d) (eqb l.0 d && eqb l.1 c)

pub same_self : (l : Link) → same l l ≡ true
same_self l = or_left _ _ (and_from _ _ (eq-eqb l.0 l.0 refl) (eq-eqb l.1 l.1 refl))

-- links that join the same spaces pass the same tests
like : (x y : Link) → same x y ≡ true → (p : Link → Bool) → Symmetric p → p y ≡ p x
like x y e p s =
    elim (or_cases (eqb x.0 y.0 && eqb x.1 y.1) (eqb x.0 y.1 && eqb x.1 y.0) e) [
      | inl q ↦
          let (f, g) = and_parts (eqb x.0 y.0) (eqb x.1 y.1) q in
          sym (ap₂ (λ (a b : ℕ). p (a, b)) (eqb-true x.0 y.0 f) (eqb-true x.1 y.1 g))
      | inr q ↦
          let (f, g) = and_parts (eqb x.0 y.1) (eqb x.1 y.0) q in
          sym (s x.0 x.1 ∙ ap₂ (λ (a b : ℕ). p (a, b)) (eqb-true x.1 y.0 g) (eqb-true x.0 y.1 f))
    ]

-- one that passes a test, and the others
pick : (q : Link → Bool) (ys : List Link) → 1 ≤ count_by q ys → (y : Link) × (rest : List Link) × (q y ≡ true) × ((p : Link → Bool) → count_by p ys ≡ cond (p y) 1 0 + count_by p rest)
pick q [] h = absurd (omega arith)
pick q (y ∷ ys) h =
    elim (cases_Bool (q y)) [
      | inl e ↦ (y, ys, e, λ p. sum_by-cons (λ k. bit (p k)) y ys)
      | inr e ↦
          let (z, rest, t, r) = pick q ys (omega (arith, count_no q y ys e)) in
          (z, y ∷ rest, t, λ p. omega (arith, r p, sum_by-cons (λ k. bit (p k)) y ys, sum_by-cons (λ k. bit (p k)) y rest))
    ]

by_pairs : (xs ys : List Link) → ((l : Link) → count_by (same l) xs ≡ count_by (same l) ys) → SameLinks xs ys
by_pairs [] [] h = λ p s. refl
by_pairs [] (y ∷ ys) h = absurd (omega (arith, h y, count_yes (same y) y ys (same_self y)))
by_pairs (x ∷ xs) ys h =
    let (y, rest, t, r) = pick (same x) ys (omega (arith, h x, count_yes (same x) x xs (same_self x))) in
    let below = by_pairs xs rest (λ l. omega (arith, h l, r (same l), sum_by-cons (λ k. bit (same l k)) x xs, ap bit (like x y t (same l) (same_symmetric l)))) in
    λ p s. omega (arith, below p s, r p, sum_by-cons (λ k. bit (p k)) x xs, ap bit (like x y t p s))

pub same_by_pairs : SameByPairs
same_by_pairs xs ys = (λ h. by_pairs xs ys (λ l. h l.0 l.1), λ s a b. s (same (a, b)) (same_symmetric (a, b)))

-- a link is on a list exactly where the list has it once or more
pub some_same_yes : (l : Link) (links : List Link) → 1 ≤ count_by (same l) links → some_same l links ≡ true
some_same_yes l [] h = absurd (omega arith)
some_same_yes l (m ∷ links) h =
    elim (cases_Bool (same l m)) [
      | inl e ↦ or_left (same l m) (some_same l links) e
      | inr e ↦ rw e (some_same_yes l links (omega (arith, count_no (same l) m links e)))
    ]

pub some_same_no : (l : Link) (links : List Link) → count_by (same l) links ≡ 0 → some_same l links ≡ false
some_same_no l [] h = refl
some_same_no l (m ∷ links) h =
    elim (cases_Bool (same l m)) [
      | inl e ↦ absurd (omega (arith, count_yes (same l) m links e))
      | inr e ↦ rw e (some_same_no l links (omega (arith, count_no (same l) m links e)))
    ]
