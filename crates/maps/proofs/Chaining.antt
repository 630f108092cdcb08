-- Chains of links: how they grow by one link, and how one is followed.
use Rattle.std.proofs.Common.{◌≡◌, ℕ, ◌+◌, ◌-◌, ◌<◌, ◌≤◌, true, false, cond, eqb, List, length, get_or, set, sym, ap, ◌∙◌, subst, inl, inr, arith}
use Rattle.std.proofs.ByRecursion.{All-get_or}
use Rattle.std.proofs.lemmas.List.{length-set, get_or-set_same, get_or-set_other}
use Rattle.std.proofs.lemmas.Bool.{cases_eq, eqb-true, eq-eqb, ne_eqb, or_from, or_left, or_right, or_cases, both_ways, cond_both}
use Rattle.maps.specs.Links.{Link}
use Rattle.maps.specs.LinkChecks.{EndsGood}
use Rattle.maps.specs.Chains.{touches, Next, Chains}

pub ends_at : (n : ℕ) (links : List Link) (i : ℕ) → EndsGood n links → i < length links → ((get_or links i (0, 0)).0 < n) × ((get_or links i (0, 0)).1 < n) × ((get_or links i (0, 0)).0 ≡ (get_or links i (0, 0)).1 → ⊥)
ends_at n links i g l = All-get_or (λ m. (m.0 < n) × (m.1 < n) × (m.0 ≡ m.1 → ⊥)) links i (0, 0) l g

-- one link more in front

next_on : (links : List Link) (v i p : ℕ) → touches v (get_or links i (0, 0)) ≡ false → Next links v (i + 1) p → Next links v i p
next_on links v i p no_touch h =
    record {
      low = omega (arith, h.low);
      high = h.high;
      quiet = λ j a b. elim (cases_eq j i) [ inl q ↦ rw q no_touch | inr ne ↦ h.quiet j (omega arith) b ];
      here = h.here;
    }

next_new : (links : List Link) (v i : ℕ) → i < length links → touches v (get_or links i (0, 0)) ≡ true → Next links v i i
next_new links v i l t = record { low = omega arith; high = omega arith; quiet = λ j a b. absurd (omega arith); here = λ _. t }

pub chains_none : (n : ℕ) (links : List Link) (head : List ℕ) (next : List Link) → ((v : ℕ) → v < n → get_or head v 0 ≡ length links) → Chains n links head next (length links)
chains_none n links head next h =
    record {
      of_space = λ v l. subst (λ (p : ℕ). Next links v (length links) p) (sym (h v l)) (record { low = omega arith; high = omega arith; quiet = λ j a b. absurd (omega arith); here = λ z. absurd (omega arith) });
      of_first = λ j a b. absurd (omega arith);
      of_second = λ j a b. absurd (omega arith);
    }

module _ (n : ℕ) (links : List Link) (head : List ℕ) (next : List Link) (i : ℕ) (wide : length head ≡ n) (long : length next ≡ length links) (l : i < length links) (g : EndsGood n links) where
  a : ℕ
  a = (get_or links i (0, 0)).0

  b : ℕ
  b = (get_or links i (0, 0)).1

  pub chains_more : Chains n links head next (i + 1) →
      Chains n links (set (set head (get_or links i (0, 0)).0 i) (get_or links i (0, 0)).1 i) (set next i (get_or head (get_or links i (0, 0)).0 0, get_or head (get_or links i (0, 0)).1 0)) i
  unfolding a b
  chains_more h =
      let o = ends_at n links i g l in
      let new : List Link = set next i (get_or head a 0, get_or head b 0) in
      let here : get_or new i (0, 0) ≡ (get_or head a 0, get_or head b 0) = get_or-set_same next i (get_or head a 0, get_or head b 0) (0, 0) (omega arith) in
      let else_where : (j : ℕ) → (j ≡ i → ⊥) → get_or new j (0, 0) ≡ get_or next j (0, 0) = λ j ne. get_or-set_other next i j (get_or head a 0, get_or head b 0) (0, 0) ne in
      record {
        of_space = λ v lv. elim (cases_eq v b) [
          | inl q ↦ subst (λ (p : ℕ). Next links v i p) (sym (ap (λ (x : ℕ). get_or (set (set head a i) b i) x 0) q ∙ get_or-set_same (set head a i) b i 0 (omega (arith, length-set head a i, o.1))))
              (next_new links v i l (or_right _ _ (eq-eqb b v (sym q))))
          | inr nb ↦ elim (cases_eq v a) [
            | inl q ↦ subst (λ (p : ℕ). Next links v i p) (sym (get_or-set_other (set head a i) b v i 0 nb ∙ (ap (λ (x : ℕ). get_or (set head a i) x 0) q ∙ get_or-set_same head a i 0 (omega (arith, o.0)))))
                (next_new links v i l (or_left _ _ (eq-eqb a v (sym q))))
            | inr na ↦ subst (λ (p : ℕ). Next links v i p) (sym (get_or-set_other (set head a i) b v i 0 nb ∙ get_or-set_other head a v i 0 na))
                (next_on links v i (get_or head v 0) (or_from _ _ (ne_eqb a v (λ e. na (sym e))) (ne_eqb b v (λ e. nb (sym e)))) (h.of_space v lv))
          ]
        ];
        of_first = λ j lj hj. elim (cases_eq j i) [
          | inl q ↦ rw q (subst (λ (p : Link). Next links a (i + 1) p.0) (sym here) (h.of_space a o.0))
          | inr ne ↦ subst (λ (p : Link). Next links (get_or links j (0, 0)).0 (j + 1) p.0) (sym (else_where j ne)) (h.of_first j (omega arith) hj)
        ];
        of_second = λ j lj hj. elim (cases_eq j i) [
          | inl q ↦ rw q (subst (λ (p : Link). Next links b (i + 1) p.1) (sym here) (h.of_space b o.1))
          | inr ne ↦ subst (λ (p : Link). Next links (get_or links j (0, 0)).1 (j + 1) p.1) (sym (else_where j ne)) (h.of_second j (omega arith) hj)
        ];
      }

-- the same, from the place that the code has
pub chains_step : {n m : ℕ} {links : List Link} {head : List ℕ} {next : List Link} {at : ℕ} → m ≡ n → length head ≡ n → length next ≡ length links → 0 < at → at ≤ length links → EndsGood m links → Chains n links head next at →
    Chains n links (set (set head (get_or links (at - 1) (0, 0)).0 (at - 1)) (get_or links (at - 1) (0, 0)).1 (at - 1)) (set next (at - 1) (get_or head (get_or links (at - 1) (0, 0)).0 0, get_or head (get_or links (at - 1) (0, 0)).1 0)) (at - 1)
chains_step {n} {m} {links} {head} {next} {at} e wide long pos within g h =
    let one : at ≡ at - 1 + 1 = omega arith in
    chains_more n links head next (at - 1) wide long (omega arith) (subst (λ (x : ℕ). EndsGood x links) e g) (subst (λ (i : ℕ). Chains n links head next i) one h)

-- the place after a link of v on the chain of v
pub after_of : (n : ℕ) (links : List Link) (head : List ℕ) (next : List Link) → Chains n links head next 0 → (c v : ℕ) → c < length links → touches v (get_or links c (0, 0)) ≡ true →
    Next links v (c + 1) (cond (eqb (get_or links c (0, 0)).0 v) (get_or next c (0, 0)).0 (get_or next c (0, 0)).1)
after_of n links head next h c v l t =
    cond_both (eqb (get_or links c (0, 0)).0 v) (get_or next c (0, 0)).0 (get_or next c (0, 0)).1 (λ p. Next links v (c + 1) p)
    (λ e. subst (λ (x : ℕ). Next links x (c + 1) (get_or next c (0, 0)).0) (eqb-true (get_or links c (0, 0)).0 v e) (h.of_first c (omega arith) l))
    (λ e. subst (λ (x : ℕ). Next links x (c + 1) (get_or next c (0, 0)).1) (eqb-true (get_or links c (0, 0)).1 v (elim (or_cases (eqb (get_or links c (0, 0)).0 v) (eqb (get_or links c (0, 0)).1 v) t) [ inl q ↦ absurd (both_ways _ e q) | inr q ↦ q ])) (h.of_second c (omega arith) l))

-- a step of a walk round v, from what the code reads at the link
pub next_of : {n at v p : ℕ} {links : List Link} {head : List ℕ} {next : List Link} {l : Link} → Chains n links head next 0 → (at < length links → touches v (get_or links at (0, 0)) ≡ true) →
    at < length links → ((d : Link) → l ≡ get_or links at d) → p ≡ cond (eqb l.0 v) (get_or next at (0, 0)).0 (get_or next at (0, 0)).1 → Next links v (at + 1) p
next_of {n} {at} {v} {p} {links} {head} {next} {l} h on lt is e =
    subst (λ (q : ℕ). Next links v (at + 1) q) (sym (e ∙ ap (λ (x : Link). cond (eqb x.0 v) (get_or next at (0, 0)).0 (get_or next at (0, 0)).1) (is (0, 0)))) (after_of n links head next h at v lt (on lt))
