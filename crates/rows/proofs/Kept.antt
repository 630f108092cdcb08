-- Which links are kept, told by the rows.
use Rattle.std.proofs.Common.{◌≡◌, ℕ, zero, suc, ◌<◌, ◌≤◌, Bool, true, false, ◌&&◌, eqb, ◌⊎◌, List, [], ◌∷◌, count_by, sym, refl, ap, ◌∙◌, subst, inl, inr, arith}
use Rattle.std.specs.List.{ContainsAt}
use Rattle.std.proofs.ByRecursion.{all-has, has_append_right}
use Rattle.std.proofs.lemmas.List.Sums.{sum_by-cons, get_or-le-sum_by}
use Rattle.std.proofs.lemmas.Bool.{cases_Bool, cases_lt, eqb-true, eq-eqb, and_parts, or_cases}
use Rattle.maps.specs.Links.{Link, same, some_same}
use Rattle.crowding.specs.Capacity.{total}
use Rattle.crowding.specs.Orientation.{Rows, cells, Oriented}
use Rattle.crowding.specs.Putting.{Put}
use Rattle.crowding.proofs.Pairs.{same_symmetric, same_self, some_same_yes, some_same_no}
use Rattle.crowding.proofs.Sums.{bit, count_no, count_cells, total_at_lem}
use Rattle.crowding.proofs.Tables.{count_has}

some_pass : (q : ℕ → Bool) (xs : List ℕ) → 1 ≤ count_by q xs → (c : ℕ) × ContainsAt xs c × (q c ≡ true)
some_pass q [] h = absurd (omega arith)
some_pass q (x ∷ xs) h =
    elim (cases_Bool (q x)) [
      | inl e ↦ (x, (0, omega arith, λ d. refl), e)
      | inr e ↦ let (c, has, ok) = some_pass q xs (omega (arith, count_no q x xs e)) in (c, has_append_right (x ∷ []) xs c has, ok)
    ]

some_total : (f : ℕ → ℕ) (n : ℕ) → 1 ≤ total f n → (v : ℕ) × (v < n) × (1 ≤ f v)
some_total f zero h = absurd (omega arith)
some_total f (suc n) h =
    elim (cases_lt 0 (f n)) [
      | inl l ↦ (n, omega arith, omega arith)
      | inr l ↦ let (v, lv, e) = some_total f n (omega arith) in (v, omega arith, e)
    ]

-- a test that no cell passes
pub no_cells : (p : Link → Bool) (row : Rows) (n : ℕ) → ((v c : ℕ) → v < n → ContainsAt (row v) c → p (v, c) ≡ true → ⊥) → count_by p (cells row n) ≡ 0
no_cells p row n none = elim (cases_lt 0 (count_by p (cells row n))) [ inl l ↦ absurd (there l) | inr g ↦ omega arith ]
  where
    there : 0 < count_by p (cells row n) → ⊥
    there l =
        let (v, lv, h) = some_total (λ v. count_by (λ c. p (v, c)) (row v)) n (omega (arith, count_cells p row n)) in
        let (c, has, e) = some_pass (λ c. p (v, c)) (row v) h in
        none v c lv has e

-- a link of a and b lies at one of them
either : (a b v c : ℕ) → same (a, b) (v, c) ≡ true → ((v ≡ a) × (c ≡ b)) ⊎ ((v ≡ b) × (c ≡ a))
either a b v c e =
    elim (or_cases (eqb a v && eqb b c) (eqb a c && eqb b v) e) [
      | inl q ↦ let p = and_parts (eqb a v) (eqb b c) q in inl (sym (eqb-true a v p.0), sym (eqb-true b c p.1))
      | inr q ↦ let p = and_parts (eqb a c) (eqb b v) q in inr (sym (eqb-true b v p.1), sym (eqb-true a c p.0))
    ]

module _ (cap : ℕ → ℕ) (n : ℕ) (row : Rows) (links : List Link) (a b : ℕ) (o : Oriented cap n row links) where
  none_there : ((v c : ℕ) → v < n → ContainsAt (row v) c → same (a, b) (v, c) ≡ true → ⊥) → some_same (a, b) links ≡ false
  none_there h = some_same_no (a, b) links (sym (o.same (same (a, b)) (same_symmetric (a, b))) ∙ no_cells (same (a, b)) row n h)

  -- neither row names the other end
  pub not_kept : (ContainsAt (row a) b → ⊥) → (ContainsAt (row b) a → ⊥) → some_same (a, b) links ≡ false
  not_kept na nb =
      none_there (λ v c lv has e. elim (either a b v c e) [
        | inl (p, q) ↦ na (subst (λ (x : ℕ). ContainsAt (row a) x) q (subst (λ (x : ℕ). ContainsAt (row x) c) p has))
        | inr (p, q) ↦ nb (subst (λ (x : ℕ). ContainsAt (row b) x) q (subst (λ (x : ℕ). ContainsAt (row x) c) p has))
      ])

  -- an end that is no space
  pub outside_not_kept : (n ≤ a) ⊎ (n ≤ b) → some_same (a, b) links ≡ false
  outside_not_kept out =
      none_there (λ v c lv has e.
      let lc : c < n = all-has (λ y. y < n) (row v) c (o.inside v lv) has in
      elim (either a b v c e) [
        | inl (p, q) ↦ elim out [ inl g ↦ omega arith | inr g ↦ omega arith ]
        | inr (p, q) ↦ elim out [ inl g ↦ omega arith | inr g ↦ omega arith ]
      ])

  -- some row names the other end
  kept_at : (v c : ℕ) → v < n → ContainsAt (row v) c → same (a, b) (v, c) ≡ true → some_same (a, b) links ≡ true
  kept_at v c lv has e =
      some_same_yes (a, b) links
      (omega (
        arith,
        count_cells (same (a, b)) row n,
        o.same (same (a, b)) (same_symmetric (a, b)),
        total_at_lem (λ w. count_by (λ d. same (a, b) (w, d)) (row w)) n v lv,
        get_or-le-sum_by (λ d. bit (same (a, b) (v, d))) (row v) has.0 0 has.1,
        ap (λ (d : ℕ). bit (same (a, b) (v, d))) (has.2 0),
        ap bit e,
      ))

  pub kept_first : a < n → ContainsAt (row a) b → some_same (a, b) links ≡ true
  kept_first la has = kept_at a b la has (same_self (a, b))

  pub kept_second : b < n → ContainsAt (row b) a → some_same (a, b) links ≡ true
  kept_second lb has = kept_at b a lb has (same_symmetric (a, b) b a ∙ same_self (a, b))

  -- a test that tells whether one of the two rows names the other end tells whether the link is kept
  pub told
      : a < n → b < n → (ok : Bool) → (ok ≡ true → ContainsAt (row a) b ⊎ ContainsAt (row b) a) → (ok ≡ false → (ContainsAt (row a) b → ⊥) × (ContainsAt (row b) a → ⊥))
      → ok ≡ some_same (a, b) links
  told la lb ok some none =
      elim (cases_Bool ok) [
        | inl e ↦ elim (some e) [ inl h ↦ e ∙ sym (kept_first la h) | inr h ↦ e ∙ sym (kept_second lb h) ]
        | inr e ↦ e ∙ sym (not_kept (none e).0 (none e).1)
      ]

-- what was put into a row is there
pub put_here : (n u v : ℕ) (row row' : Rows) → Put n u v row row' → ContainsAt (row' u) v
put_here n u v row row' p =
    count_has v (row' u) (omega (arith, p.here (λ x. eqb x v), sum_by-cons (λ x. bit (eqb x v)) v (row u), ap bit (eq-eqb v v refl)))
