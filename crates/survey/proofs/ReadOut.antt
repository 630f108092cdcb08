-- By the reading rule the table of an order says yes exactly for the links.
use Rattle.std.proofs.Common.{◌≡◌, ℕ, suc, ◌+◌, ◌-◌, ◌*◌, ◌<◌, ◌≤◌, min, max, Bool, true, false, cond, ◌&&◌, ◌||◌, eqb, ltb, List, [], ◌∷◌, length, get_or, take, drop, sym, refl, ap, ◌∙◌, inl, inr, mul-le-mul_right, arith}
use Rattle.std.proofs.lemmas.List.{drop-take, take-take}
use Rattle.std.proofs.lemmas.List.Sums.{sum_by-cons}
use Rattle.std.proofs.lemmas.Bool.{cases_eq, cases_lt, cases_order, eq-eqb, ne_eqb, cond-true, cond-false, lt-ltb, le-ltb}
use Rattle.std.proofs.lemmas.Bool.Decides.{nat_tests}
use Rattle.maps.specs.Links.{Link}
use Rattle.maps.specs.LinkChecks.{GoodLinks}
use Rattle.maps.specs.Reading.{row, filled, names, read_to, reading}
use Rattle.survey.specs.Orders.{times, place, before, Ordering}
use Rattle.survey.specs.Tables.{linked, Table}
use Rattle.survey.specs.Theorems.{TableReadsLinks}
use Rattle.survey.proofs.Counts.{bit, count_no}
use Rattle.survey.proofs.Places.{place_apart}
use Rattle.survey.proofs.Cells.{linked_swap, linked_ends, row_long, row_cell}

-- empty cells name nothing
none_named : (x : ℕ) (cells : List ℕ) → (x ≡ 65535 → ⊥) → ((j : ℕ) → j < length cells → get_or cells j 65535 ≡ 65535) → times x cells ≡ 0
none_named x [] ne h = refl
none_named x (c ∷ cells) ne h =
    count_no (λ y. eqb y x) c cells (ne_eqb c x (λ e. ne (sym e ∙ h 0 (omega arith))))
    ∙ none_named x cells ne (λ j l. h (suc j) (omega arith))

either : (b : Bool) (t : ℕ) → ltb 0 (bit b + t) ≡ (b || ltb 0 t)
either b t = grind (arith, nat_tests)

-- the filled cells of a row name x where it stands in the row, if filled cells come first
names_times : (x : ℕ) (cells : List ℕ) → (x ≡ 65535 → ⊥) → ((i j : ℕ) → i < j → j < length cells → get_or cells i 65535 ≡ 65535 → get_or cells j 65535 ≡ 65535) → names x (filled cells) ≡ ltb 0 (times x cells)
names_times x [] ne h = refl
names_times x (c ∷ cells) ne h =
    elim (cases_eq c 65535) [
      | inl e ↦
          ap (names x) (cond-true (eqb c 65535) [] (c ∷ filled cells) (eq-eqb c 65535 e))
          ∙ sym (le-ltb 0 (times x (c ∷ cells)) (omega (
            arith,
            none_named x (c ∷ cells) ne (λ j l. elim (cases_eq j 0) [
              | inl z ↦ rw z e
              | inr nz ↦ h 0 j (omega arith) l e
            ]),
          )))
      | inr n ↦
          ap (names x) (cond-false (eqb c 65535) [] (c ∷ filled cells) (ne_eqb c 65535 n))
          ∙ (ap (λ (t : Bool). eqb c x || t) (names_times x cells ne (λ i j l m. h (suc i) (suc j) (omega arith) (omega arith)))
          ∙ (sym (either (eqb c x) (times x cells))
          ∙ ap (ltb 0) (sym (sum_by-cons (λ y. bit (eqb y x)) c cells))))
    ]

one_or_none : (b : Bool) → ltb 0 (cond b 1 0) ≡ b
one_or_none true = refl
one_or_none false = refl

pick : (p q : Bool) (x y : ℕ) → (cond {A = Bool × ℕ} p (true, x) (q, y)).0 ≡ (p || q)
pick true q x y = refl
pick false q x y = refl

-- of the two ends of a link one comes before the other
one_side : (l p q : Bool) → (l ≡ true → (p || q) ≡ true) → ((l && p) || (l && q)) ≡ l
one_side l p q h = grind arith

module _ (k n : ℕ) (links : List Link) (g : GoodLinks n links) (small : n ≤ 65535) (order table : List ℕ) (o : Ordering k n links order) (t : Table k n links order table) where
  row_names : (v w : ℕ) → v < n → w < n → names w (filled (row k table v)) ≡ (linked links v w && before order v w)
  row_names v w lv lw =
      let long : length (row k table v) ≡ k = row_long k n table v t.long lv in
      let ne : w ≡ 65535 → ⊥ = λ e. omega arith in
      names_times w (row k table v) ne (λ i j l lj e. row_cell k table v j (omega arith) ∙ t.first v lv i j l (omega arith) (sym (row_cell k table v i (omega arith)) ∙ e))
      ∙ (ap (ltb 0) (t.exact v lv w ne) ∙ one_or_none (linked links v w && before order v w))

  apart : (a b : ℕ) → linked links a b ≡ true → (before order a b || before order b a) ≡ true
  apart a b e =
      let (la, lb, ne) = linked_ends n links g.ends a b e in
      elim (cases_order (place order a) (place order b)) [
        | inl q ↦ absurd (ne (place_apart order a b (omega (arith, o.once a la)) (omega (arith, o.once b lb)) q))
        | inr (inl l) ↦ ap (λ (x : Bool). before order a b || x) (lt-ltb (place order a) (place order b) l) ∙ right (before order a b)
        | inr (inr l) ↦ ap (λ (x : Bool). x || before order b a) (lt-ltb (place order b) (place order a) l)
      ]
    where
      right : (x : Bool) → (x || true) ≡ true
      right true = refl
      right false = refl

  both_rows : (a b : ℕ) → a < n → b < n → (names b (filled (row k table a)) || names a (filled (row k table b))) ≡ linked links a b
  both_rows a b la lb =
      rw (row_names a b la lb, row_names b a lb la, linked_swap links b a) (one_side (linked links a b) (before order a b) (before order b a) (apart a b))

-- a row lies in the first n * k cells
row_part : (k n : ℕ) (table : List ℕ) (v : ℕ) → v < n → row k table v ≡ row k (take (n * k) table) v
row_part k n table v l =
    let split : n * k ≡ v * k + (n * k - v * k) = omega (arith, mul-le-mul_right k l) in
    let room : k ≤ n * k - v * k = omega (arith, mul-le-mul_right k l) in
    sym (ap (λ (m : ℕ). take k (drop (v * k) (take m table))) split ∙ (ap (take k) (drop-take (v * k) (n * k - v * k) table) ∙ take-take k (n * k - v * k) (drop (v * k) table) room))

module _ (k n : ℕ) (links : List Link) (g : GoodLinks n links) (small : n ≤ 65535) (order table : List ℕ) (o : Ordering k n links order) (t : Table k n links order (take (n * k) table)) where
  whole_rows : (a b : ℕ) → a < n → b < n → (names b (filled (row k table a)) || names a (filled (row k table b))) ≡ linked links a b
  whole_rows a b la lb =
      ap (λ (x : List ℕ). names b (filled x) || names a (filled (row k table b))) (row_part k n table a la)
      ∙ (ap (λ (x : List ℕ). names b (filled (row k (take (n * k) table) a)) || names a (filled x)) (row_part k n table b lb)
      ∙ both_rows k n links g small order (take (n * k) table) o t a b la lb)

pub table_reads_links : TableReadsLinks
table_reads_links k n links g small order table o t a b la lb =
    let first : (reading k table a b).0 ≡ (names (max a b) (filled (row k table (min a b))) || names (min a b) (filled (row k table (max a b)))) = pick (names (max a b) (filled (row k table (min a b)))) (names (min a b) (filled (row k table (max a b)))) (read_to (max a b) (filled (row k table (min a b)))) (length (filled (row k table (min a b))) + read_to (min a b) (filled (row k table (max a b)))) in
    elim (cases_lt a b) [
      | inl l ↦
          let e : min a b ≡ a = omega arith in
          let f : max a b ≡ b = omega arith in
          first ∙ rw (e, f) (whole_rows k n links g small order table o t a b la lb)
      | inr l ↦
          let e : min a b ≡ b = omega arith in
          let f : max a b ≡ a = omega arith in
          first ∙ (rw (e, f) (whole_rows k n links g small order table o t b a lb la) ∙ linked_swap links b a)
    ]
