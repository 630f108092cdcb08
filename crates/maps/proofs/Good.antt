-- Links that pass their checks, one by one and all together.
use Rattle.std.proofs.Common.{◌≡◌, ℕ, zero, suc, ◌+◌, ◌<◌, ◌≤◌, Bool, true, false, cond, ◌&&◌, ◌||◌, T, eqb, ◌⊎◌, List, [], ◌∷◌, length, get_or, take, count_by, sym, refl, ap, subst, inl, inr, add-one, arith}
use Rattle.std.proofs.lemmas.List.{take_all}
use Rattle.std.proofs.lemmas.List.Sums.{sum_by-cons, count_by_more_yes, count_by_more_no}
use Rattle.std.proofs.ByRecursion.{All-from_get_or}
use Rattle.std.proofs.lemmas.Bool.{cases_Bool, cases_lt, or_parts, both_ways}
use Rattle.std.proofs.lemmas.Bool.Decides.{nat_tests}
use Rattle.maps.specs.Links.{Link, same, some_same}
use Rattle.maps.specs.LinkChecks.{at_place, Passes, AllLinksGood, GoodLinks}

pub T_true : (b : Bool) → T b → b ≡ true
T_true true h = refl
T_true false h = absurd h

pub true_T : (b : Bool) → b ≡ true → T b
true_T b e = subst (λ (t : Bool). T t) (sym e) tt

-- a link that no check refuses
passes : (n : ℕ) (links : List Link) (p : ℕ) → Passes n links p →
    ((get_or links p (0, 0)).0 < n) × ((get_or links p (0, 0)).1 < n) × ((get_or links p (0, 0)).0 ≡ (get_or links p (0, 0)).1 → ⊥) × (T (some_same (get_or links p (0, 0)) (take p links)) → ⊥)
passes n links p h =
    elim h [
      | inl x ↦ absurd x.1
      | inr (no11, inl x) ↦ absurd x.1
      | inr (no11, inr (no12, inl x)) ↦ absurd x.1
      | inr (no11, inr (no12, inr (no13, _))) ↦ (
        elim (cases_lt (get_or links p (0, 0)).0 n) [ inl l ↦ l | inr l ↦ absurd (no11 (inl l)) ],
        elim (cases_lt (get_or links p (0, 0)).1 n) [ inl l ↦ l | inr l ↦ absurd (no11 (inr l)) ],
        no12,
        no13,
      )
    ]

-- no two links are the same

abbrev bit : Bool → ℕ
bit b = cond b 1 0

same_both : (a b c d e f : ℕ) → ((eqb a c && eqb b d) || (eqb a d && eqb b c)) ≡ true → ((eqb a e && eqb b f) || (eqb a f && eqb b e)) ≡ true → ((eqb c e && eqb d f) || (eqb c f && eqb d e)) ≡ true
same_both a b c d e f h k = grind (arith, nat_tests)

none_same : (a b : ℕ) (l : Link) → same (a, b) l ≡ true → (xs : List Link) → some_same l xs ≡ false → count_by (same (a, b)) xs ≡ 0
none_same a b l e [] h = refl
none_same a b l e (x ∷ xs) h =
    let (hx, hxs) = or_parts (same l x) (some_same l xs) h in
    elim (cases_Bool (same (a, b) x)) [
      | inl q ↦ absurd (both_ways (same l x) hx (same_both a b l.0 l.1 x.0 x.1 e q))
      | inr q ↦ omega (arith, sum_by-cons (λ y. cond (same (a, b) y) 1 0) x xs, ap bit q, none_same a b l e xs hxs)
    ]

module _ (n : ℕ) (links : List Link) (h : AllLinksGood n links) where
  once_to : (a b i : ℕ) → i ≤ length links → count_by (same (a, b)) (take i links) ≤ 1
  once_to a b zero l = omega arith
  once_to a b (suc i) l =
      let on : count_by (same (a, b)) (take (suc i) links) ≡ count_by (same (a, b)) (take (i + 1) links) = ap (λ (j : ℕ). count_by (same (a, b)) (take j links)) (sym (add-one i)) in
      let m : Link = get_or links i (0, 0) in
      elim (cases_Bool (same (a, b) m)) [
        | inr q ↦ omega (arith, on, count_by_more_no (same (a, b)) links i (0, 0) (omega arith) q, once_to a b i (omega arith))
        | inl q ↦
            let none : some_same m (take i links) ≡ false = elim (cases_Bool (some_same m (take i links))) [ inl x ↦ absurd ((passes n links i (h i (omega arith))).3 (true_T _ x)) | inr x ↦ x ] in
            omega (arith, on, count_by_more_yes (same (a, b)) links i (0, 0) (omega arith) q, none_same a b m q (take i links) none)
      ]

  pub links_good : GoodLinks n links
  links_good =
      record {
        ends = All-from_get_or (λ l. (l.0 < n) × (l.1 < n) × (l.0 ≡ l.1 → ⊥)) links (0, 0) (λ i l. let p = passes n links i (h i l) in (p.0, p.1, p.2));
        once = λ a b. omega (arith, once_to a b (length links) (omega arith), ap (count_by (same (a, b))) (take_all (length links) links (omega arith)));
      }

-- the checks of one link, as the code makes them

module _ (n : ℕ) (links : List Link) (p : ℕ) (ends : ((get_or links p (0, 0)).0 < n) × ((get_or links p (0, 0)).1 < n) × ((get_or links p (0, 0)).0 ≡ (get_or links p (0, 0)).1 → ⊥)) where
  inside : (n ≤ (get_or links p (0, 0)).0) ⊎ (n ≤ (get_or links p (0, 0)).1) → ⊥
  inside h = elim h [ inl x ↦ omega (arith, ends.0) | inr x ↦ omega (arith, ends.1) ]

  pub refused_13 : some_same (get_or links p (0, 0)) (take p links) ≡ true → at_place n links p (λ r. r ≡ 13) ⊥
  refused_13 e = inr (inside, inr (ends.2, inl (true_T _ e, refl)))

  pub accepted : some_same (get_or links p (0, 0)) (take p links) ≡ false → Passes n links p
  accepted e = inr (inside, inr (ends.2, inr (λ t. both_ways _ e (T_true _ t), tt)))
