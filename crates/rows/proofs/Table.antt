-- Writes into a table of rows.
use Rattle.std.proofs.Common.{◌≡◌, ℕ, ◌+◌, ◌-◌, ◌*◌, ◌/◌, ◌%◌, ◌<◌, ◌≤◌, Bool, true, ◌&&◌, eqb, ◌⊎◌, List, length, get_or, take, drop, set, count_by, position, unwrap_or, is_some, MatchBool, Some, None, Option, sym, refl, ap, ◌∙◌, subst, inl, inr, mul-le-mul_right, arith}
use Rattle.std.specs.List.{ContainsAt, position_or_len}
use Rattle.std.proofs.lemmas.Grind.{common_steps}
use Rattle.std.proofs.lemmas.Nat.{div-mul-add, mod-mul-add}
use Rattle.std.proofs.lemmas.List.{length-set, length-take, length-drop, get_or-take, get_or-drop, get_or-set_same, get_or-set_other}
use Rattle.std.proofs.lemmas.List.Quantifiers.{position-Some}
use Rattle.std.proofs.lemmas.List.Sums.{sum_by-cons, fails_before_first}
use Rattle.std.proofs.lemmas.Bool.{cases_eq, cases_lt, both_ways, eqb-true, eq-eqb}
use Rattle.std.proofs.ByRecursion.{all-has, kept_by_passes}
use Rattle.maps.specs.Reading.{row}
use Rattle.crowding.specs.Putting.{Put}
use Rattle.crowding.specs.Table.{occupied, table_rows}
use Rattle.maps.specs.Past.{SameFrom}
use Rattle.rows.specs.Sound.{cell, FilledFirst, Sound}
use Rattle.crowding.proofs.Sums.{bit}
use Rattle.crowding.proofs.Tables.{set_count, set_else, occupied_yes, occupied_no, row_full, row_has}
use Rattle.maps.proofs.Past.{past_write, past_trans}

-- cells of different rows, or at different places of a row, are different
pub apart : (k v w i j : ℕ) → i < k → j < k → v * k + i ≡ w * k + j → (v ≡ w) × (i ≡ j)
apart k v w i j li lj e = (
  sym (div-mul-add v k i li) ∙ ap (λ (x : ℕ). x / k) e ∙ div-mul-add w k j lj,
  sym (mod-mul-add v k i li) ∙ ap (λ (x : ℕ). x % k) e ∙ mod-mul-add w k j lj,
)

-- row v of n lies in the table
pub row_in : (n k len v : ℕ) → n * k ≤ len → v < n → v * k + k ≤ len
row_in n k len v h l = omega (arith, mul-le-mul_right k l)

module _ (k : ℕ) (t : List ℕ) (v j c : ℕ) (lj : j < k) (l : v * k + j < length t) where
  pub cell_here : cell k (set t (v * k + j) c) v j ≡ c
  cell_here = get_or-set_same t (v * k + j) c 0 l

  pub cell_else : (w i : ℕ) → i < k → (w ≡ v → i ≡ j → ⊥) → cell k (set t (v * k + j) c) w i ≡ cell k t w i
  cell_else w i li ne = get_or-set_other t (v * k + j) (w * k + i) c 0 (λ e. let p = apart k w v i j li lj e in ne p.0 p.1)

  -- either the cell written or another
  pub cell_cases : (w i : ℕ) → i < k → ((w ≡ v) × (i ≡ j) × (cell k (set t (v * k + j) c) w i ≡ c)) ⊎ ((w ≡ v → i ≡ j → ⊥) × (cell k (set t (v * k + j) c) w i ≡ cell k t w i))
  cell_cases w i li =
      elim (cases_eq w v) [
        | inl q ↦ elim (cases_eq i j) [ inl r ↦ inl (q, r, rw (q, r) cell_here) | inr nr ↦ let ne : w ≡ v → i ≡ j → ⊥ = λ _ e. nr e in inr (ne, cell_else w i li ne) ]
        | inr nq ↦ let ne : w ≡ v → i ≡ j → ⊥ = λ e _. nq e in inr (ne, cell_else w i li ne)
      ]

  pub past_set : SameFrom (v * k + k) t (set t (v * k + j) c)
  past_set = past_write (v * k + k) t (v * k + j) c (omega arith)

-- c in the first free cell
pub sound_put
    : (n k : ℕ) (t : List ℕ) (v j c : ℕ) → v < n → c < n → j < k → ((i : ℕ) → i < j → cell k t v i ≡ 65535 → ⊥)
    → Sound n k t → Sound n k (set t (v * k + j) c)
sound_put n k t v j c lv lc lj full s =
    let l : v * k + j < length t = omega (arith, row_in n k (length t) v s.long lv) in
    record {
      small = s.small;
      long = omega (arith, length-set t (v * k + j) c, s.long);
      named = λ w i lw li some. elim (cell_cases k t v j c lj l w i li) [ inl (q, r, e) ↦ rw e lc | inr (ne, e) ↦ rw e (s.named w i lw li (λ x. some (e ∙ x))) ];
      first = λ w lw i i' le li' e. elim (cell_cases k t v j c lj l w i (omega arith)) [
        | inl (q, r, e') ↦ absurd (omega (arith, s.small.0))
        | inr (ne, e') ↦ elim (cell_cases k t v j c lj l w i' li') [
          | inl (q, r, e'') ↦ elim (cases_eq i j) [ inl same ↦ absurd (ne q same) | inr other ↦ absurd (full i (omega arith) (rw q at (sym e' ∙ e))) ]
          | inr (ne', e'') ↦ e'' ∙ s.first w lw i i' le li' (sym e' ∙ e)
        ]
      ];
    }

-- one taken out of a row whose first `suc m` cells are occupied, and the last of these moved into its place
module _ (k : ℕ) (t : List ℕ) (v i m c : ℕ) (li : i < k) (lm : m < k) (le : i ≤ m) (row : v * k + k ≤ length t) (here : cell k t v i ≡ c) (some : c < 65535) (last : cell k t v m ≡ 65535 → ⊥) where
  abbrev moved : List ℕ
  moved = set t (v * k + i) (cell k t v m)

  abbrev pub out : List ℕ
  out = set moved (v * k + m) 65535

  at_i : v * k + i < length t
  at_i = omega arith

  at_m : v * k + m < length moved
  at_m = omega (arith, length-set t (v * k + i) (cell k t v m))

  moved_last : cell k moved v m ≡ cell k t v m
  moved_last = elim (cell_cases k t v i (cell k t v m) li at_i v m lm) [ inl (q, r, e) ↦ e | inr (ne, e) ↦ e ]

  pub past_out : SameFrom (v * k + k) t out
  past_out = past_trans (v * k + k) t moved out (past_set k t v i (cell k t v m) li at_i) (past_set k moved v m 65535 lm at_m)

  pub put_out : (n : ℕ) → Put n v c (table_rows k out) (table_rows k t)
  put_out n =
      record {
        here = λ q.
            let old : ℕ = cell k t v m in
            omega (
              arith,
              set_count k t v i li at_i old q,
              set_count k moved v m lm at_m 65535 q,
              ap (λ (x : ℕ). bit (occupied x && q x)) here,
              ap (λ (b : Bool). bit (b && q c)) (occupied_yes c (λ e. omega arith)),
              ap (λ (x : ℕ). bit (occupied x && q x)) moved_last,
              sum_by-cons (λ x. bit (q x)) c (table_rows k out v),
            );
        others = λ x lx ne q. ap (count_by q) (sym (set_else k moved v m lm at_m 65535 x ne ∙ set_else k t v i li at_i (cell k t v m) x ne));
      }

  -- what a cell holds afterwards
  out_cases : (w j : ℕ) → j < k → ((w ≡ v) × (j ≡ m) × (cell k out w j ≡ 65535)) ⊎ (((w ≡ v) × (j ≡ i) × (cell k out w j ≡ cell k t v m)) ⊎ (cell k out w j ≡ cell k t w j))
  out_cases w j lj =
      elim (cell_cases k moved v m 65535 lm at_m w j lj) [
        | inl h ↦ inl h
        | inr (ne, e) ↦ elim (cell_cases k t v i (cell k t v m) li at_i w j lj) [ inl (q, r, e') ↦ inr (inl (q, r, e ∙ e')) | inr (ne', e') ↦ inr (inr (e ∙ e')) ]
      ]

  pub sound_out : (n : ℕ) → v < n → ((j : ℕ) → m < j → j < k → cell k t v j ≡ 65535) → Sound n k t → Sound n k out
  sound_out n lv rest s =
      record {
        small = s.small;
        long = omega (arith, past_out.len, s.long);
        named = λ w j lw lj some'. elim (out_cases w j lj) [ inl (q, r, e) ↦ absurd (some' e) | inr (inl (q, r, e)) ↦ rw e (s.named v m lv lm last) | inr (inr e) ↦ rw e (s.named w j lw lj (λ x. some' (e ∙ x))) ];
        first = λ w lw j j' jj lj' e. elim (out_cases w j' lj') [
          | inl (q, r, e') ↦ e'
          | inr (inl (q, r, e')) ↦ elim (out_cases w j (omega arith)) [
            | inl (q₂, r₂, e₂) ↦ let same : j ≡ j' = omega arith in rw same at e
            | inr (inl (q₂, r₂, e₂)) ↦ absurd (last (sym e₂ ∙ e))
            | inr (inr e₂) ↦ absurd (last (s.first v lv j m (omega arith) lm (rw q at (sym e₂ ∙ e))))
          ]
          | inr (inr e') ↦ elim (out_cases w j (omega arith)) [
            | inl (q₂, r₂, e₂) ↦ elim (cases_eq j j') [ inl same ↦ rw same at e | inr ne ↦ e' ∙ rw q₂ (rest j' (omega arith) lj') ]
            | inr (inl (q₂, r₂, e₂)) ↦ absurd (last (sym e₂ ∙ e))
            | inr (inr e₂) ↦ e' ∙ s.first w lw j j' jj lj' (sym e₂ ∙ e)
          ]
        ];
      }

-- the cells of a row, as a list
pub row_at : (k : ℕ) (t : List ℕ) (v j : ℕ) → j < k → get_or (row k t v) j 0 ≡ cell k t v j
row_at k t v j l = get_or-take k (drop (v * k) t) j 0 l ∙ get_or-drop (v * k) t j 0

row_length : (k : ℕ) (t : List ℕ) (v : ℕ) → v * k + k ≤ length t → length (row k t v) ≡ k
row_length k t v l = omega (arith, length-take k (drop (v * k) t), length-drop (v * k) t)

-- the first cell that holds c, or that there is none
pub found_at
    : (k : ℕ) (t : List ℕ) (v c i : ℕ) → v * k + k ≤ length t → position (λ x. eqb x c) (row k t v) ≡ Some i
    → (i < k) × (cell k t v i ≡ c) × ((j : ℕ) → j < i → cell k t v j ≡ c → ⊥)
found_at k t v c i long e =
    let p = position-Some (λ x. eqb x c) (row k t v) i 0 e in
    let li : i < k = omega (arith, p.0, row_length k t v long) in (
      li,
      sym (row_at k t v i li) ∙ eqb-true (get_or (row k t v) i 0) c p.1,
      λ j lj q. both_ways (eqb (get_or (row k t v) j 0) c) (p.2 j lj) (eq-eqb (get_or (row k t v) j 0) c (row_at k t v j (omega arith) ∙ q)),
    )

pub found_none
    : (k : ℕ) (t : List ℕ) (v c : ℕ) → v * k + k ≤ length t → position (λ x. eqb x c) (row k t v) ≡ None
    → (j : ℕ) → j < k → cell k t v j ≡ c → ⊥
found_none k t v c long e j lj q =
    let far : length (row k t v) ≤ position_or_len (λ x. eqb x c) (row k t v) = grind (arith, common_steps) in
    let no = fails_before_first (λ x. eqb x c) (row k t v) j 0 (omega (arith, row_length k t v long)) in
    both_ways (eqb (get_or (row k t v) j 0) c) no (eq-eqb (get_or (row k t v) j 0) c (row_at k t v j lj ∙ q))

-- where a search stops that goes on to the end of the row
pub stop
    : (k : ℕ) (t : List ℕ) (v c : ℕ) → v * k + k ≤ length t → (o : Option ℕ) → o ≡ position (λ x. eqb x c) (row k t v)
    → (unwrap_or o k ≤ k) × ((j : ℕ) → j < unwrap_or o k → cell k t v j ≡ c → ⊥) × (unwrap_or o k < k → cell k t v (unwrap_or o k) ≡ c)
stop k t v c long None e = (omega arith, found_none k t v c long (sym e), λ l. absurd (omega arith))
stop k t v c long (Some i) e = let f = found_at k t v c i long (sym e) in (omega (arith, f.0), f.2, λ _. f.1)

-- whether a row has a free cell
pub room_by
    : (k : ℕ) (t : List ℕ) (v : ℕ) → v * k + k ≤ length t → (o : Option ℕ) → o ≡ position (λ x. eqb x 65535) (row k t v)
    → (b : Bool) → b ≡ is_some o → MatchBool b (length (table_rows k t v) < k) (length (table_rows k t v) ≡ k)
room_by k t v long (Some i) e b h =
    let f = found_at k t v 65535 i long (sym e) in
    subst (λ (x : Bool). MatchBool x (length (table_rows k t v) < k) (length (table_rows k t v) ≡ k)) (sym h) ((row_full k t v long).1 i f.0 f.1)
room_by k t v long None e b h =
    subst (λ (x : Bool). MatchBool x (length (table_rows k t v) < k) (length (table_rows k t v) ≡ k)) (sym h) ((row_full k t v long).0 (found_none k t v 65535 long (sym e)))

-- a row with fewer than k has a free cell
pub free_found
    : (k : ℕ) (t : List ℕ) (v : ℕ) → v * k + k ≤ length t → length (table_rows k t v) < k → (o : Option ℕ) → o ≡ position (λ x. eqb x 65535) (row k t v)
    → is_some o ≡ true
free_found k t v long l (Some j) e = refl
free_found k t v long l None e = absurd (omega (arith, (row_full k t v long).0 (found_none k t v 65535 long (sym e))))

-- what no cell has, no row has
pub not_there
    : (k : ℕ) (t : List ℕ) (v c : ℕ) → v * k + k ≤ length t → c < 65535 → ((j : ℕ) → j < k → cell k t v j ≡ c → ⊥)
    → ContainsAt (table_rows k t v) c → ⊥
not_there k t v c row some h has = let (j, lj, e) = (row_has k t v c row (λ q. omega arith)).1 has in h j lj e

-- a occupied cell of a row that is occupied first stands before where a search for an empty one stops
pub before_empty
    : (k : ℕ) (t : List ℕ) (v i r c : ℕ) → FilledFirst k t v → i < k → cell k t v i ≡ c → c < 65535 → r ≤ k → (r < k → cell k t v r ≡ 65535)
    → i < r
before_empty k t v i r c first li e some le h =
    elim (cases_lt i r) [ inl l ↦ l | inr ge ↦ absurd (omega (arith, first r i ge li (h (omega arith)))) ]

-- what a row has stands in one of its cells, and is not the mark of an empty one
pub row_some : (k : ℕ) (t : List ℕ) (v c : ℕ) → ContainsAt (table_rows k t v) c → c ≡ 65535 → ⊥
row_some k t v c h e = both_ways (occupied c) (occupied_no c e) (all-has (λ x. occupied x ≡ true) (table_rows k t v) c (kept_by_passes occupied (take k (drop (v * k) t))) h)

pub row_cell : (k : ℕ) (t : List ℕ) (v c : ℕ) → v * k + k ≤ length t → ContainsAt (table_rows k t v) c → (j : ℕ) × (j < k) × (cell k t v j ≡ c)
row_cell k t v c l h = (row_has k t v c l (row_some k t v c h)).1 h

-- c stands at i, and a search for an empty cell stops at r: the last occupied one, before r, can be moved to i
pub taken
    : (k : ℕ) (t : List ℕ) (v i r c : ℕ) → FilledFirst k t v → c < 65535 → i < k → cell k t v i ≡ c
    → (r ≤ k) × ((j : ℕ) → j < r → cell k t v j ≡ 65535 → ⊥) × (r < k → cell k t v r ≡ 65535)
    → (1 ≤ r) × (r - 1 < k) × (i ≤ r - 1) × (cell k t v (r - 1) ≡ 65535 → ⊥) × ((j : ℕ) → r - 1 < j → j < k → cell k t v j ≡ 65535)
taken k t v i r c first some li e (le, full, free) =
    let l : i < r = before_empty k t v i r c first li e some le free in
    (omega arith, omega arith, omega arith, full (r - 1) (omega arith), λ j lj lk. first r j (omega arith) lk (free (omega arith)))
