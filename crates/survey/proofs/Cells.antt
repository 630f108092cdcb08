-- Cells of a survey's table: each link has one, and one colour.
use Rattle.std.proofs.Common.{◌≡◌, ℕ, zero, suc, ◌+◌, ◌*◌, ◌<◌, ◌≤◌, Bool, true, ◌&&◌, ◌||◌, T, eqb, ◌⊎◌, List, [], ◌∷◌, length, get_or, drop, sym, refl, ap, ◌∙◌, inl, inr, mul-le-mul_right, arith}
use Rattle.std.specs.List.{AllByRecursion}
use Rattle.std.proofs.lemmas.List.{get_or-take, get_or-drop, length-take, length-drop}
use Rattle.std.proofs.lemmas.Bool.{cases_eq, cases_Bool, cases_order, eqb-true, eq-eqb, and_from, and_parts, and_right, or_cases, lt-ltb, le-ltb, ltb-true}
use Rattle.maps.specs.Links.{Link, same}
use Rattle.maps.specs.LinkChecks.{GoodLinks}
use Rattle.maps.specs.Reading.{row}
use Rattle.survey.specs.Orders.{times, place, before, Ordering}
use Rattle.survey.specs.Tables.{linked, cell, Table}
use Rattle.survey.specs.Colours.{Coloured}
use Rattle.maps.proofs.Good.{T_true, true_T}
use Rattle.survey.proofs.Counts.{bit, times_at, times_no, times_more, count_yes}
use Rattle.survey.proofs.Places.{place_apart}

-- links

turn_over : (a b c d : Bool) → ((a && b) || (c && d)) ≡ ((d && c) || (b && a))
turn_over a b c d = grind arith

pub linked_swap : (links : List Link) (a b : ℕ) → linked links a b ≡ linked links b a
linked_swap [] a b = refl
linked_swap (l ∷ links) a b = rw (turn_over (eqb a l.0) (eqb b l.1) (eqb a l.1) (eqb b l.0), linked_swap links a b)

pub linked_ends : (n : ℕ) (links : List Link) → AllByRecursion (λ l. (l.0 < n) × (l.1 < n) × (l.0 ≡ l.1 → ⊥)) links → (a b : ℕ) → linked links a b ≡ true → (a < n) × (b < n) × (a ≡ b → ⊥)
linked_ends n [] h a b e = absurd (omega (arith, ap bit e))
linked_ends n (l ∷ links) h a b e =
    elim (or_cases (same (a, b) l) (linked links a b) e) [
      | inr q ↦ linked_ends n links h.1 a b q
      | inl q ↦ elim (or_cases (eqb a l.0 && eqb b l.1) (eqb a l.1 && eqb b l.0) q) [
        | inl r ↦ let (f, g) = and_parts (eqb a l.0) (eqb b l.1) r in
            let i : a ≡ l.0 = eqb-true a l.0 f in
            let j : b ≡ l.1 = eqb-true b l.1 g in
            (omega (arith, h.0.0), omega (arith, h.0.1), λ x. h.0.2 (sym i ∙ (x ∙ j)))
        | inr r ↦ let (f, g) = and_parts (eqb a l.1) (eqb b l.0) r in
            let i : a ≡ l.1 = eqb-true a l.1 f in
            let j : b ≡ l.0 = eqb-true b l.0 g in
            (omega (arith, h.0.1), omega (arith, h.0.0), λ x. h.0.2 (sym j ∙ (sym x ∙ i)))
      ]
    ]

-- rows

pub row_long : (k n : ℕ) (table : List ℕ) (v : ℕ) → length table ≡ n * k → v < n → length (row k table v) ≡ k
row_long k n table v long l = omega (arith, length-take k (drop (v * k) table), length-drop (v * k) table, mul-le-mul_right k l)

pub row_cell : (k : ℕ) (table : List ℕ) (v j : ℕ) → j < k → get_or (row k table v) j 65535 ≡ cell k table v j
row_cell k table v j l = get_or-take k (drop (v * k) table) j 65535 l ∙ get_or-drop (v * k) table j 65535

module _ (k n : ℕ) (links : List Link) (order table : List ℕ) (t : Table k n links order table) where
  pub cell_times : (v j w : ℕ) → v < n → j < k → cell k table v j ≡ w → 1 ≤ times w (row k table v)
  cell_times v j w lv lj e = times_at (row k table v) j 65535 w (omega (arith, row_long k n table v t.long lv)) (row_cell k table v j lj ∙ e)

  -- what a filled cell says
  pub cell_says : (v j w : ℕ) → v < n → j < k → (w ≡ 65535 → ⊥) → cell k table v j ≡ w → (linked links v w ≡ true) × (place order w < place order v)
  cell_says v j w lv lj ne e =
      elim (cases_Bool (linked links v w && before order v w)) [
        | inl q ↦ let (f, g) = and_parts (linked links v w) (before order v w) q in (f, ltb-true (place order w) (place order v) g)
        | inr q ↦ absurd (omega (arith, cell_times v j w lv lj e, t.exact v lv w ne, ap bit q))
      ]

pub one_cell :
    (k n : ℕ) (links : List Link) → GoodLinks n links → n ≤ 65535 → (order table : List ℕ) → Ordering k n links order → Table k n links order table →
    ((a b : ℕ) → T (linked links a b) → times b (row k table a) + times a (row k table b) ≡ 1) ×
    ((v j : ℕ) → v < n → j < k → (cell k table v j ≡ 65535 → ⊥) → T (linked links v (cell k table v j)))
one_cell k n links g small order table o t = (
  λ a b h.
      let e : linked links a b ≡ true = T_true _ h in
      let f : linked links b a ≡ true = linked_swap links b a ∙ e in
      let (la, lb, ne) = linked_ends n links g.ends a b e in
      let ra = t.exact a la b (λ q. omega arith) in
      let rb = t.exact b lb a (λ q. omega arith) in
      elim (cases_order (place order a) (place order b)) [
        | inl q ↦ absurd (ne (place_apart order a b (omega (arith, o.once a la)) (omega (arith, o.once b lb)) q))
        | inr (inl l) ↦ omega (arith, ra, rb, ap bit (and_right (linked links a b) _ (le-ltb (place order b) (place order a) (omega arith))), ap bit (and_from _ _ f (lt-ltb (place order a) (place order b) l)))
        | inr (inr l) ↦ omega (arith, ra, rb, ap bit (and_right (linked links b a) _ (le-ltb (place order a) (place order b) (omega arith))), ap bit (and_from _ _ e (lt-ltb (place order b) (place order a) l)))
      ],
  λ v j lv lj ne. true_T _ (cell_says k n links order table t v j (cell k table v j) lv lj ne refl).0,
)

-- a number that stands in a list has a place there, and one that stands once has no second
pub somewhere : (xs : List ℕ) (d w : ℕ) → 1 ≤ times w xs → (j : ℕ) × (j < length xs) × (get_or xs j d ≡ w)
somewhere [] d w h = absurd (omega arith)
somewhere (x ∷ xs) d w h =
    elim (cases_eq w x) [
      | inl q ↦ (0, omega arith, sym q)
      | inr ne ↦ let (j, l, e) = somewhere xs d w (omega (arith, times_no x w xs ne)) in (suc j, omega arith, e)
    ]

pub nowhere_else : (xs : List ℕ) (d w : ℕ) → times w xs ≤ 1 → (i j : ℕ) → i < length xs → j < length xs → get_or xs i d ≡ w → get_or xs j d ≡ w → i ≡ j
nowhere_else [] d w h i j li lj e f = absurd (omega arith)
nowhere_else (x ∷ xs) d w h zero zero li lj e f = refl
nowhere_else (x ∷ xs) d w h zero (suc j) li lj e f = absurd (omega (arith, times_at xs j d w (omega arith) f, count_yes (λ y. eqb y w) x xs (eq-eqb x w e)))
nowhere_else (x ∷ xs) d w h (suc i) zero li lj e f = absurd (omega (arith, times_at xs i d w (omega arith) e, count_yes (λ y. eqb y w) x xs (eq-eqb x w f)))
nowhere_else (x ∷ xs) d w h (suc i) (suc j) li lj e f = ap suc (nowhere_else xs d w (omega (arith, times_more x w xs)) i j (omega arith) (omega arith) e f)

module _ (k n : ℕ) (links : List Link) (order table : List ℕ) (t : Table k n links order table) where
  colour_of : (a b : ℕ) → a < n → b < n → times b (row k table a) ≡ 1 → times a (row k table b) ≡ 0 →
      (j : ℕ) × (j < k) × (cell k table a j ≡ b) × ((c : ℕ) → c < k → (cell k table a c ≡ b) ⊎ (cell k table b c ≡ a) → c ≡ j)
  colour_of a b la lb one none =
      let long : length (row k table a) ≡ k = row_long k n table a t.long la in
      let (j, lj, e) = somewhere (row k table a) 65535 b (omega arith) in
      let lk : j < k = omega arith in (
        j,
        lk,
        sym (row_cell k table a j lk) ∙ e,
        λ c lc h. elim h [
          | inl q ↦ nowhere_else (row k table a) 65535 b (omega arith) c j (omega arith) lj (row_cell k table a c lc ∙ q) e
          | inr q ↦ absurd (omega (arith, cell_times k n links order table t b c a lb lc q))
        ],
      )

pub one_colour :
    (k n : ℕ) (links : List Link) → GoodLinks n links → n ≤ 65535 → (order table : List ℕ) → Ordering k n links order → Table k n links order table →
    (a b : ℕ) → T (linked links a b) →
    (colour : ℕ) × Coloured k links table colour a b × ((c : ℕ) → Coloured k links table c a b → c ≡ colour)
one_colour k n links g small order table o t a b h =
    let (la, lb, ne) = linked_ends n links g.ends a b (T_true _ h) in
    let sum = (one_cell k n links g small order table o t).0 a b h in
    elim (cases_eq (times b (row k table a)) 1) [
      | inl q ↦ let (j, lj, e, u) = colour_of k n links order table t a b la lb q (omega arith) in
          (j, (h, lj, inl e), λ c x. u c x.1 x.2)
      | inr q ↦ let (j, lj, e, u) = colour_of k n links order table t b a lb la (omega arith) (omega arith) in
          (j, (h, lj, inr e), λ c x. u c x.1 (elim x.2 [ inl y ↦ inr y | inr y ↦ inl y ]))
    ]
