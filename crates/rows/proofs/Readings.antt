-- The reading rule on rows that are filled first.
use Rattle.std.proofs.Common.{◌≡◌, ℕ, suc, ◌+◌, ◌*◌, ◌<◌, ◌≤◌, min, max, true, false, ◌||◌, eqb, ◌⊎◌, List, [], ◌∷◌, length, get_or, drop, Decides, filter, sym, refl, ap, ◌∙◌, subst, inl, inr, arith}
use Rattle.std.specs.List.{ContainsAt}
use Rattle.std.proofs.Math.Logic.{⊎_swap}
use Rattle.std.proofs.lemmas.List.{get_or-take, get_or-drop, length-take}
use Rattle.std.proofs.lemmas.Bool.{cases_Bool, cases_lt, eqb-true, or_cases, or_parts}
use Rattle.std.proofs.lemmas.Bool.Decides.{Decides-by_or, Decides-eqb, not_from_Decides}
use Rattle.maps.specs.Links.{Link, some_same}
use Rattle.maps.specs.Reading.{row, filled, names, reading_rows, reading}
use Rattle.crowding.specs.Orientation.{Oriented}
use Rattle.crowding.specs.Table.{occupied, table_rows}
use Rattle.rows.specs.Sound.{cell, FilledFirst, Sound}
use Rattle.rows.proofs.Kept.{told}
use Rattle.rows.proofs.Table.{row_in}

-- behind an empty cell there is no filled one
abbrev First : List ℕ → Type 0
First xs = (i j : ℕ) → i ≤ j → j < length xs → get_or xs i 0 ≡ 65535 → get_or xs j 0 ≡ 65535

first_tail : (x : ℕ) (xs : List ℕ) → First (x ∷ xs) → First xs
first_tail x xs h i j l lj e = h (suc i) (suc j) (omega arith) (omega arith) e

none_kept : (xs : List ℕ) → ((j : ℕ) → j < length xs → get_or xs j 0 ≡ 65535) → filter occupied xs ≡ []
none_kept [] h = refl
none_kept (x ∷ xs) h =
    let e : x ≡ 65535 = h 0 (omega arith) in
    rw e (none_kept xs (λ j l. h (suc j) (omega arith)))

-- reading up to the first empty cell reads all filled cells
filled_all : (xs : List ℕ) → First xs → filled xs ≡ filter occupied xs
filled_all [] h = refl
filled_all (x ∷ xs) h =
    elim (cases_Bool (eqb x 65535)) [
      | inl e ↦ rw e (sym (none_kept xs (λ j l. h 0 (suc j) (omega arith) (omega arith) (eqb-true x 65535 e))))
      | inr e ↦ rw e (ap (λ (ys : List ℕ). x ∷ ys) (filled_all xs (first_tail x xs h)))
    ]

row_first : (k : ℕ) (t : List ℕ) (v : ℕ) → v * k + k ≤ length t → FilledFirst k t v → First (row k t v)
row_first k t v long h i j l lj e =
    let j_in : j < k = omega (arith, length-take k (drop (v * k) t)) in
    let i_in : i < k = omega arith in
    at j j_in ∙ h i j l j_in (sym (at i i_in) ∙ e)
  where
    at : (x : ℕ) → x < k → get_or (row k t v) x 0 ≡ cell k t v x
    at x lx = get_or-take k (drop (v * k) t) x 0 lx ∙ get_or-drop (v * k) t x 0

names_decides : (c : ℕ) (xs : List ℕ) → Decides (names c xs) (ContainsAt xs c)
names_decides c xs = Decides-by_or (λ y. eqb y c) (λ y. y ≡ c) (names c) (λ y. Decides-eqb y c) refl (λ _ _. refl) xs

module _ (n k : ℕ) (t : List ℕ) (s : Sound n k t) where
  read_decides : (v c : ℕ) → v < n → Decides (names c (filled (row k t v))) (ContainsAt (table_rows k t v) c)
  read_decides v c lv =
      subst (λ (xs : List ℕ). Decides (names c xs) (ContainsAt (table_rows k t v) c)) (sym (filled_all (row k t v) (row_first k t v (row_in n k (length t) v s.long lv) (s.first v lv))))
      (names_decides c (table_rows k t v))

  linked_is : (v w : ℕ) → (reading_rows k t v w).0 ≡ (names w (filled (row k t v)) || names v (filled (row k t w)))
  linked_is v w = elim (cases_Bool (names w (filled (row k t v)))) [ inl e ↦ rw e | inr e ↦ rw e ]

  module _ (links : List Link) (o : Oriented (λ _. k) n (table_rows k t) links) where
    yes_has : (v w : ℕ) → v < n → w < n → (reading_rows k t v w).0 ≡ true → ContainsAt (table_rows k t v) w ⊎ ContainsAt (table_rows k t w) v
    yes_has v w lv lw e =
        elim (or_cases (names w (filled (row k t v))) (names v (filled (row k t w))) (sym (linked_is v w) ∙ e)) [
          | inl q ↦ inl ((read_decides v w lv).0 q)
          | inr q ↦ inr ((read_decides w v lw).0 q)
        ]

    no_has : (v w : ℕ) → v < n → w < n → (reading_rows k t v w).0 ≡ false → (ContainsAt (table_rows k t v) w → ⊥) × (ContainsAt (table_rows k t w) v → ⊥)
    no_has v w lv lw e =
        let p = or_parts (names w (filled (row k t v))) (names v (filled (row k t w))) (sym (linked_is v w) ∙ e) in
        (not_from_Decides (names w (filled (row k t v))) (read_decides v w lv) p.0, not_from_Decides (names v (filled (row k t w))) (read_decides w v lw) p.1)

    pub reading_tells : (a b : ℕ) → a < n → b < n → (reading k t a b).0 ≡ some_same (a, b) links
    reading_tells a b la lb =
        elim (cases_lt a b) [
          | inl l ↦
              let low : min a b ≡ a = omega arith in
              let high : max a b ≡ b = omega arith in
              rw (low, high) (told (λ _. k) n (table_rows k t) links a b o la lb (reading_rows k t a b).0 (yes_has a b la lb) (no_has a b la lb))
          | inr g ↦
              let low : min a b ≡ b = omega arith in
              let high : max a b ≡ a = omega arith in
              rw (low, high) (told (λ _. k) n (table_rows k t) links a b o la lb (reading_rows k t b a).0 (λ e. ⊎_swap (yes_has b a lb la e)) (λ e. let p = no_has b a lb la e in (p.1, p.0)))
        ]
