-- Reading the cells of a row one by one.
use Rattle.std.proofs.Common.{◌≡◌, ℕ, suc, ◌+◌, ◌-◌, ◌*◌, ◌<◌, ◌≤◌, min, Bool, true, false, cond, eqb, ◌⊎◌, List, [], ◌∷◌, length, get_or, take, drop, sym, refl, ap, ◌∙◌, inl, inr, add-zero, zero-add, arith}
use Rattle.std.proofs.lemmas.List.{take_all, drop_all, drop_more, length-drop, length-take}
use Rattle.std.proofs.lemmas.Bool.{cases_lt, cases_Bool, eq-eqb, ne_eqb, or_parts}
use Rattle.maps.specs.Reading.{row, filled, names, read_to, reading_rows}

-- a part that ends where the list does is as long as the list allows
pub window : (t : List ℕ) (a k s e : ℕ) → s ≡ min a (length t) → e ≡ min (s + k) (length t) → take (e - s) (drop s t) ≡ take k (drop a t)
window t a k s e is ie =
    elim (cases_lt (length t) a) [
      | inl past ↦
          let x : drop s t ≡ [] = drop_all s t (omega arith) in
          let y : drop a t ≡ [] = drop_all a t (omega arith) in
          take_all (e - s) (drop s t) (omega (arith, ap length x)) ∙ (x ∙ sym (take_all k (drop a t) (omega (arith, ap length y)) ∙ y))
      | inr within ↦
          let same : s ≡ a = omega arith in
          elim (cases_lt (a + k) (length t)) [
            | inl inside ↦ let d : e - s ≡ k = omega arith in rw (d, same)
            | inr over ↦
                take_all (e - s) (drop s t) (omega (arith, length-drop s t))
                ∙ (ap (λ (i : ℕ). drop i t) same ∙ sym (take_all k (drop a t) (omega (arith, length-drop a t))))
          ]
    ]

row_short : (k : ℕ) (t : List ℕ) (v : ℕ) → length (row k t v) ≤ k
row_short k t v = omega (arith, length-take k (drop (v * k) t))

-- reading a row for x, with c cells read so far; `next` is what comes at its end
abbrev pub read_row : List ℕ → ℕ → ℕ → (ℕ → Bool × ℕ) → Bool × ℕ
read_row [] x c next = next c
read_row (y ∷ ys) x c next = cond (eqb y 65535) (next c) (cond (eqb y x) (true, c + 1) (read_row ys x (c + 1) next))

-- what comes after a row: the row of the other space, unless this was it
abbrev pub rest : ℕ → List ℕ → ℕ → ℕ → Bool → ℕ → Bool × ℕ
rest k t v w true c = (false, c)
rest k t v w false c = read_row (row k t w) v c (λ d. (false, d))

-- the steps of the loop
module _ (r : List ℕ) (i x c : ℕ) (next : ℕ → Bool × ℕ) where
  step : i < length r → read_row (drop i r) x c next
      ≡ cond (eqb (get_or r i 0) 65535) (next c) (cond (eqb (get_or r i 0) x) (true, c + 1) (read_row (drop (i + 1) r) x (c + 1) next))
  step h = ap (λ (ys : List ℕ). read_row ys x c next) (drop_more r i 0 h)

  pub row_goes : i < length r → (get_or r i 0 ≡ 65535 → ⊥) → (get_or r i 0 ≡ x → ⊥) → read_row (drop i r) x c next ≡ read_row (drop (i + 1) r) x (c + 1) next
  row_goes h a b =
      let e : eqb (get_or r i 0) 65535 ≡ false = ne_eqb (get_or r i 0) 65535 a in
      let f : eqb (get_or r i 0) x ≡ false = ne_eqb (get_or r i 0) x b in
      step h ∙ rw (e, f)

  pub row_finds : i < length r → (get_or r i 0 ≡ 65535 → ⊥) → get_or r i 0 ≡ x → read_row (drop i r) x c next ≡ (true, c + 1)
  row_finds h a b =
      let e : eqb (get_or r i 0) 65535 ≡ false = ne_eqb (get_or r i 0) 65535 a in
      let f : eqb (get_or r i 0) x ≡ true = eq-eqb (get_or r i 0) x b in
      step h ∙ rw (e, f)

  row_stops : i < length r → get_or r i 0 ≡ 65535 → read_row (drop i r) x c next ≡ next c
  row_stops h a = let e : eqb (get_or r i 0) 65535 ≡ true = eq-eqb (get_or r i 0) 65535 a in step h ∙ rw e

  row_ends : length r ≤ i → read_row (drop i r) x c next ≡ next c
  row_ends h = ap (λ (ys : List ℕ). read_row ys x c next) (drop_all i r h)

  -- a row is over at its end or at an empty cell
  pub row_over : (goal : Bool × ℕ) → (length r ≤ i) ⊎ ((i < length r) × (get_or r i 0 ≡ 65535)) → read_row (drop i r) x c next ≡ goal → next c ≡ goal
  row_over goal way e = elim way [ inl h ↦ sym (row_ends h) ∙ e | inr (h, a) ↦ sym (row_stops h a) ∙ e ]

-- reading one by one gives what the rule says
read_row_is : (r : List ℕ) (x c : ℕ) (next : ℕ → Bool × ℕ) → read_row r x c next ≡ cond (names x (filled r)) (true, c + read_to x (filled r)) (next (c + length (filled r)))
read_row_is [] x c next = ap next (sym (add-zero c))
read_row_is (y ∷ ys) x c next =
    elim (cases_Bool (eqb y 65535)) [
      | inl e ↦ rw (e, add-zero)
      | inr e ↦ rw e (elim (cases_Bool (eqb y x)) [
        | inl f ↦ rw f
        | inr f ↦ rw f (read_row_is ys x (c + 1) next ∙ on (names x (filled ys)) (read_to x (filled ys)) (length (filled ys)))
      ])
    ]
  where
    on : (b : Bool) (m n : ℕ) → cond b (true, c + 1 + m) (next (c + 1 + n)) ≡ cond b (true, c + (1 + m)) (next (c + suc n))
    on b m n =
        let p : c + 1 + m ≡ c + (1 + m) = omega arith in
        let q : c + 1 + n ≡ c + suc n = omega arith in
        rw (p, q)

none_named : (xs : List ℕ) (x : ℕ) → names x xs ≡ false → read_to x xs ≡ length xs
none_named [] x e = refl
none_named (y ∷ ys) x e =
    let (f, g) = or_parts (eqb y x) (names x ys) e in
    rw f (omega (arith, none_named ys x g))

last_row : (r : List ℕ) (x c : ℕ) → read_row r x c (λ d. (false, d)) ≡ (names x (filled r), c + read_to x (filled r))
last_row r x c =
    read_row_is r x c (λ d. (false, d)) ∙ elim (cases_Bool (names x (filled r))) [
      | inl e ↦ rw e
      | inr e ↦ let m = none_named (filled r) x e in rw (e, m)
    ]

module _ (k : ℕ) (t : List ℕ) (v w : ℕ) (r : List ℕ) where
  pub first_row : r ≡ row k t v → (read_row r w 0 (rest k t v w false) ≡ reading_rows k t v w) × (length r ≤ k)
  first_row e = (
    rw e
        (read_row_is (row k t v) w 0 (rest k t v w false)
        ∙ rw (last_row (row k t w) v (0 + length (filled (row k t v))), zero-add (read_to w (filled (row k t v))), zero-add (length (filled (row k t v))))),
    omega (arith, ap length e, row_short k t v),
  )

  pub second_row : (c : ℕ) (last : Bool) → last ≡ false → r ≡ row k t w → rest k t v w last c ≡ reading_rows k t v w → (read_row r v c (rest k t v w true) ≡ reading_rows k t v w) × (length r ≤ k)
  second_row c last l e h = (
    rw e (sym (ap (λ (z : Bool). rest k t v w z c) l) ∙ h),
    omega (arith, ap length e, row_short k t w),
  )

  pub no_more : (c : ℕ) (last : Bool) → last ≡ true → rest k t v w last c ≡ reading_rows k t v w → (false, c) ≡ reading_rows k t v w
  no_more c last l h = sym (ap (λ (z : Bool). rest k t v w z c) l) ∙ h
