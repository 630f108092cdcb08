-- The rows of a flat table of cells.
use Rattle.std.proofs.Common.{◌≡◌, ℕ, ◌+◌, ◌-◌, ◌*◌, ◌<◌, ◌≤◌, Bool, true, false, cond, not, ◌&&◌, eqb, List, [], ◌∷◌, length, get_or, take, drop, set, count_by, filter, sym, refl, ap, ◌∙◌, inl, inr, mul-le-mul_right, arith}
use lib.Seq.{take-set-lt}
use Rattle.std.specs.List.{ContainsAt}
use Rattle.std.proofs.lemmas.List.{drop-set-lt, drop-set-add, take-set-le, get_or-take, get_or-drop, length-drop, length-take}
use Rattle.std.proofs.lemmas.List.Sums.{sum_by-cons, sum_by-set, length-filter, count_by-le-length, get_or-le-sum_by}
use Rattle.std.proofs.ByRecursion.{All-get_or, All-from_get_or, all-has, all_kept_by, all_has_itself, has_append_right}
use Rattle.std.proofs.lemmas.Bool.{cases_lt, cases_Bool, cases_order, both_ways, eq-eqb, ne_eqb, eqb-true}
use Rattle.crowding.specs.Table.{occupied, table_rows}
use Rattle.crowding.specs.Theorems.{TableWrites}
use Rattle.crowding.proofs.Sums.{bit, count_all, count_full, count_no}

count_cond : (b : Bool) (q : ℕ → Bool) (x : ℕ) (ys : List ℕ) → count_by q (cond b (x ∷ ys) ys) ≡ bit (b && q x) + count_by q ys
count_cond true q x ys = sum_by-cons (λ c. bit (q c)) x ys
count_cond false q x ys = omega arith

pub count_kept : (f q : ℕ → Bool) (xs : List ℕ) → count_by q (filter f xs) ≡ count_by (λ c. f c && q c) xs
count_kept f q [] = refl
count_kept f q (x ∷ xs) = omega (arith, count_cond (f x) q x (filter f xs), count_kept f q xs, sum_by-cons (λ c. bit (f c && q c)) x xs)

pub occupied_yes : (c : ℕ) → (c ≡ 65535 → ⊥) → occupied c ≡ true
occupied_yes c h = ap not (ne_eqb c 65535 h)

pub occupied_no : (c : ℕ) → c ≡ 65535 → occupied c ≡ false
occupied_no c h = ap not (eq-eqb c 65535 h)

-- row v, with its empty cells
part : ℕ → List ℕ → ℕ → List ℕ
part k table v = take k (drop (v * k) table)

part_at : (k : ℕ) (table : List ℕ) (v j : ℕ) → j < k → get_or (part k table v) j 0 ≡ get_or table (v * k + j) 0
unfolding part
part_at k table v j l = rw (get_or-take k (drop (v * k) table) j 0 l, get_or-drop (v * k) table j 0)

part_length : (k : ℕ) (table : List ℕ) (v : ℕ) → v * k + k ≤ length table → length (part k table v) ≡ k
unfolding part
part_length k table v l = omega (arith, length-take k (drop (v * k) table), length-drop (v * k) table)

module _ (k : ℕ) (table : List ℕ) (v j : ℕ) (j_in : j < k) (at_in : v * k + j < length table) where
  part_set : (c : ℕ) → part k (set table (v * k + j) c) v ≡ set (part k table v) j c
  unfolding part
  part_set c = rw (drop-set-add (v * k) table j c, take-set-lt k (drop (v * k) table) j c j_in)

  part_long : j < length (part k table v)
  unfolding part
  part_long = omega (arith, length-take k (drop (v * k) table), length-drop (v * k) table)

  -- what a write into the row changes of a count
  pub set_count : (c : ℕ) (q : ℕ → Bool) → count_by q (table_rows k (set table (v * k + j) c) v) + bit (occupied (get_or table (v * k + j) 0) && q (get_or table (v * k + j) 0)) ≡ count_by q (table_rows k table v) + bit (occupied c && q c)
  unfolding part
  set_count c q =
      omega (
        arith,
        count_kept occupied q (part k table v),
        count_kept occupied q (part k (set table (v * k + j) c) v),
        ap (count_by (λ x. occupied x && q x)) (part_set c),
        sum_by-set (λ x. bit (occupied x && q x)) (part k table v) j c 0 part_long,
        ap (λ (x : ℕ). bit (occupied x && q x)) (part_at k table v j j_in),
      )

  -- no other row changes
  part_else : (c x : ℕ) → (x ≡ v → ⊥) → part k (set table (v * k + j) c) x ≡ part k table x
  unfolding part
  part_else c x ne =
      elim (cases_order x v) [
        | inl q ↦ absurd (ne q)
        | inr (inl b) ↦
            let past : x * k + k ≤ v * k = omega (arith, mul-le-mul_right k b) in
            let at : v * k + j ≡ x * k + (v * k + j - x * k) = omega arith in
            let far : k ≤ v * k + j - x * k = omega arith in
            rw (at, drop-set-add (x * k) table (v * k + j - x * k) c, take-set-le k (drop (x * k) table) (v * k + j - x * k) c far)
        | inr (inr a) ↦ ap (take k) (drop-set-lt (x * k) table (v * k + j) c (omega (arith, mul-le-mul_right k a)))
      ]

  pub set_else : (c x : ℕ) → (x ≡ v → ⊥) → table_rows k (set table (v * k + j) c) x ≡ table_rows k table x
  unfolding part
  set_else c x ne = ap (filter occupied) (part_else c x ne)

pub table_writes : TableWrites
table_writes k n table v j c lj l ne = (
  λ e. let old : ℕ = get_or table (v * k + j) 0 in
      record {
        here = λ q. omega (arith, set_count k table v j lj l c q, ap (λ (t : Bool). bit (t && q old)) (occupied_no old e), ap (λ (t : Bool). bit (t && q c)) (occupied_yes c ne), sum_by-cons (λ x. bit (q x)) c (table_rows k table v));
        others = λ x lx nx q. ap (count_by q) (set_else k table v j lj l c x nx);
      },
  λ e. record {
    here = λ q. omega (arith, set_count k table v j lj l 65535 q, ap (λ (x : ℕ). bit (occupied x && q x)) e, ap (λ (t : Bool). bit (t && q c)) (occupied_yes c ne), sum_by-cons (λ x. bit (q x)) c (table_rows k (set table (v * k + j) 65535) v));
    others = λ x lx nx q. ap (count_by q) (sym (set_else k table v j lj l 65535 x nx));
  },
)

-- a test that fails somewhere does not pass all
count_short : (p : ℕ → Bool) (xs : List ℕ) (i : ℕ) → i < length xs → p (get_or xs i 0) ≡ false → count_by p xs < length xs
count_short p xs i l e =
    elim (cases_lt (count_by p xs) (length xs)) [
      | inl h ↦ h
      | inr h ↦ absurd (both_ways (p (get_or xs i 0)) e (All-get_or (λ x. p x ≡ true) xs i 0 l (count_full p xs h)))
    ]

-- a row whose cells all are filled has k; one with an empty cell has fewer
pub row_full
    : (k : ℕ) (table : List ℕ) (v : ℕ) → v * k + k ≤ length table
    → (((j : ℕ) → j < k → get_or table (v * k + j) 0 ≡ 65535 → ⊥) → length (table_rows k table v) ≡ k)
    × ((j : ℕ) → j < k → get_or table (v * k + j) 0 ≡ 65535 → length (table_rows k table v) < k)
    × (length (table_rows k table v) ≤ k)
unfolding part
row_full k table v l =
    let xs : List ℕ = part k table v in
    let long : length xs ≡ k = part_length k table v l in
    let kept : length (table_rows k table v) ≡ count_by occupied xs = length-filter occupied xs in (
      λ h. omega (
        arith,
        count_all occupied xs (All-from_get_or (λ c. occupied c ≡ true) xs 0 (λ i li.
            let lk : i < k = omega arith in occupied_yes (get_or xs i 0) (λ e. h i lk (sym (part_at k table v i lk) ∙ e)))),
      ),
      λ j lj e. let ll : j < length xs = omega arith in
          omega (arith, count_short occupied xs j ll (occupied_no (get_or xs j 0) (part_at k table v j lj ∙ e))),
      omega (arith, count_by-le-length occupied xs),
    )

pub count_has : (c : ℕ) (xs : List ℕ) → 1 ≤ count_by (λ x. eqb x c) xs → ContainsAt xs c
count_has c [] h = absurd (omega arith)
count_has c (x ∷ xs) h =
    elim (cases_Bool (eqb x c)) [
      | inl e ↦ (0, omega arith, λ d. eqb-true x c e)
      | inr e ↦ has_append_right (x ∷ []) xs c (count_has c xs (omega (arith, count_no (λ y. eqb y c) x xs e)))
    ]

-- a row has what a filled cell of it has, and nothing else
pub row_has
    : (k : ℕ) (table : List ℕ) (v c : ℕ) → v * k + k ≤ length table → (c ≡ 65535 → ⊥)
    → ((j : ℕ) → j < k → get_or table (v * k + j) 0 ≡ c → ContainsAt (table_rows k table v) c)
    × (ContainsAt (table_rows k table v) c → (j : ℕ) × (j < k) × (get_or table (v * k + j) 0 ≡ c))
unfolding part
row_has k table v c l ne =
    let xs : List ℕ = part k table v in
    let long : length xs ≡ k = part_length k table v l in (
      λ j lj e.
          let ll : j < length xs = omega arith in
          let is : get_or xs j 0 ≡ c = part_at k table v j lj ∙ e in
          count_has c (table_rows k table v)
          (omega (
            arith,
            count_kept occupied (λ x. eqb x c) xs,
            get_or-le-sum_by (λ x. bit (occupied x && eqb x c)) xs j 0 ll,
            ap (λ (x : ℕ). bit (occupied x && eqb x c)) is,
            ap (λ (t : Bool). bit (t && eqb c c)) (occupied_yes c ne),
            ap bit (eq-eqb c c refl),
          )),
      λ h.
          let (i, li, e) = all-has (ContainsAt xs) (filter occupied xs) c (all_kept_by occupied (ContainsAt xs) xs (all_has_itself xs)) h in
          let lk : i < k = omega arith in
          (i, lk, sym (part_at k table v i lk) ∙ e 0),
    )
