-- Counts over lists, and sums below n.
use Rattle.std.proofs.Common.{◌≡◌, ℕ, zero, suc, ◌+◌, ◌<◌, ◌≤◌, Bool, true, false, cond, ◌&&◌, eqb, ◌⊎◌, List, [], ◌∷◌, length, get_or, count_by, sym, refl, ap, ◌∙◌, inl, inr, arith}
use Rattle.std.specs.List.{AllByRecursion}
use Rattle.std.proofs.lemmas.List.Sums.{sum_by-cons, get_or-le-sum_by}
use Rattle.std.proofs.lemmas.Bool.{cases_eq, cases_Bool, cases_lt, and_parts, and_from, or_cases, or_left, or_right, eqb-true, eq-eqb, ne_eqb}
use Rattle.maps.specs.Links.{Link}
use Rattle.maps.specs.Sets.{Spaces}
use Rattle.maps.specs.Density.{joins_in, neighbours_in}
use Rattle.survey.specs.Orders.{times}

abbrev pub bit : Bool → ℕ
bit b = cond b 1 0

pub bit_le : (a b : Bool) → (a ≡ true → b ≡ true) → bit a ≤ bit b
bit_le true b h = omega (arith, ap bit (h refl))
bit_le false b h = omega arith

pub same_bools : (a b : Bool) → (a ≡ true → b ≡ true) → (b ≡ true → a ≡ true) → a ≡ b
same_bools true b h k = sym (h refl)
same_bools false true h k = k refl
same_bools false false h k = refl

pub count_yes : {X : Type 0} (p : X → Bool) (x : X) (xs : List X) → p x ≡ true → count_by p (x ∷ xs) ≡ suc (count_by p xs)
count_yes p x xs e = omega (arith, sum_by-cons (λ y. cond (p y) 1 0) x xs, ap bit e)

pub count_no : {X : Type 0} (p : X → Bool) (x : X) (xs : List X) → p x ≡ false → count_by p (x ∷ xs) ≡ count_by p xs
count_no p x xs e = omega (arith, sum_by-cons (λ y. cond (p y) 1 0) x xs, ap bit e)

pub count_le : {X : Type 0} (P : X → Type 0) (p q : X → Bool) (xs : List X) → AllByRecursion P xs → ((x : X) → P x → p x ≡ true → q x ≡ true) → count_by p xs ≤ count_by q xs
count_le P p q [] a h = omega arith
count_le P p q (x ∷ xs) a h =
    omega (arith, sum_by-cons (λ y. bit (p y)) x xs, sum_by-cons (λ y. bit (q y)) x xs, count_le P p q xs a.1 h, bit_le (p x) (q x) (h x a.0))

pub times_yes : (v : ℕ) (xs : List ℕ) → times v (v ∷ xs) ≡ suc (times v xs)
times_yes v xs = count_yes (λ x. eqb x v) v xs (eq-eqb v v refl)

pub times_no : (v w : ℕ) (xs : List ℕ) → (w ≡ v → ⊥) → times w (v ∷ xs) ≡ times w xs
times_no v w xs ne = count_no (λ x. eqb x w) v xs (ne_eqb v w (λ e. ne (sym e)))

pub times_more : (v w : ℕ) (xs : List ℕ) → times w xs ≤ times w (v ∷ xs)
times_more v w xs = omega (arith, sum_by-cons (λ x. bit (eqb x w)) v xs)

pub times_at : (xs : List ℕ) (i d w : ℕ) → i < length xs → get_or xs i d ≡ w → 1 ≤ times w xs
times_at xs i d w l e = omega (arith, get_or-le-sum_by (λ x. bit (eqb x w)) xs i d l, ap bit (eq-eqb (get_or xs i d) w e))

-- a link that joins v to a member of s joins it to a member of r
joins_le : (n v : ℕ) (s r : Spaces) → ((w : ℕ) → w < n → (w ≡ v → ⊥) → s w ≡ true → r w ≡ true) → (l : Link) → (l.0 < n) × (l.1 < n) × (l.0 ≡ l.1 → ⊥) → joins_in s v l ≡ true → joins_in r v l ≡ true
joins_le n v s r h l o e =
    elim (or_cases (eqb l.0 v && s l.1) (eqb l.1 v && s l.0) e) [
      | inl q ↦ let (f, g) = and_parts (eqb l.0 v) (s l.1) q in
          or_left _ _ (and_from _ _ f (h l.1 o.1 (λ i. o.2 (eqb-true l.0 v f ∙ sym i)) g))
      | inr q ↦ let (f, g) = and_parts (eqb l.1 v) (s l.0) q in
          or_right _ _ (and_from _ _ f (h l.0 o.0 (λ i. o.2 (i ∙ sym (eqb-true l.1 v f))) g))
    ]

pub neighbours_le : (n v : ℕ) (links : List Link) → AllByRecursion (λ l. (l.0 < n) × (l.1 < n) × (l.0 ≡ l.1 → ⊥)) links → (s r : Spaces) → ((w : ℕ) → w < n → (w ≡ v → ⊥) → s w ≡ true → r w ≡ true) → neighbours_in links s v ≤ neighbours_in links r v
neighbours_le n v links ends s r h = count_le (λ l. (l.0 < n) × (l.1 < n) × (l.0 ≡ l.1 → ⊥)) (joins_in s v) (joins_in r v) links ends (joins_le n v s r h)

-- of the numbers below m that pass, one where f is largest
pub largest : (p : ℕ → Bool) (f : ℕ → ℕ) (m : ℕ) → ((i : ℕ) → i < m → p i ≡ true → ⊥) ⊎ ((i : ℕ) × (i < m) × (p i ≡ true) × ((j : ℕ) → j < m → p j ≡ true → f j ≤ f i))
largest p f zero = inl (λ i l _. omega arith)
largest p f (suc m) =
    elim (cases_Bool (p m)) [
      | inr fails ↦ elim (largest p f m) [
        | inl none ↦ inl (λ i l e. elim (cases_eq i m) [
          | inl q ↦ absurd (let z : true ≡ false = sym e ∙ (ap p q ∙ fails) in omega (arith, ap bit z))
          | inr ne ↦ none i (omega arith) e
        ])
        | inr (i, l, e, h) ↦ inr (
          i,
          omega arith,
          e,
          λ j lj ej. elim (cases_eq j m) [
            | inl q ↦ absurd (let z : true ≡ false = sym ej ∙ (ap p q ∙ fails) in omega (arith, ap bit z))
            | inr ne ↦ h j (omega arith) ej
          ],
        )
      ]
      | inl passes ↦ elim (largest p f m) [
        | inl none ↦ inr (
          m,
          omega arith,
          passes,
          λ j lj ej. elim (cases_eq j m) [
            | inl q ↦ omega (arith, ap f q)
            | inr ne ↦ absurd (none j (omega arith) ej)
          ],
        )
        | inr (i, l, e, h) ↦ elim (cases_lt (f i) (f m)) [
          | inl b ↦ inr (
            m,
            omega arith,
            passes,
            λ j lj ej. elim (cases_eq j m) [
              | inl q ↦ omega (arith, ap f q)
              | inr ne ↦ omega (arith, h j (omega arith) ej)
            ],
          )
          | inr b ↦ inr (
            i,
            omega arith,
            e,
            λ j lj ej. elim (cases_eq j m) [
              | inl q ↦ omega (arith, ap f q)
              | inr ne ↦ h j (omega arith) ej
            ],
          )
        ]
      ]
    ]

-- f 0 + .. + f (n-1)
abbrev pub total : (ℕ → ℕ) → ℕ → ℕ
total f zero = 0
total f (suc n) = total f n + f n

pub total_le_n : (f : ℕ → ℕ) (n : ℕ) → ((v : ℕ) → v < n → f v ≤ 1) → total f n ≤ n
total_le_n f zero h = omega arith
total_le_n f (suc n) h = omega (arith, total_le_n f n (λ v l. h v (omega arith)), h n (omega arith))

pub total_tight : (f : ℕ → ℕ) (n : ℕ) → ((v : ℕ) → v < n → f v ≤ 1) → n ≤ total f n → (v : ℕ) → v < n → f v ≡ 1
total_tight f zero h e v l = absurd (omega arith)
total_tight f (suc n) h e v l =
    let front : total f n ≤ n = total_le_n f n (λ w k. h w (omega arith)) in
    let here : f n ≤ 1 = h n (omega arith) in
    elim (cases_eq v n) [
      | inl q ↦ rw q (omega arith)
      | inr q ↦ total_tight f n (λ w k. h w (omega arith)) (omega arith) v (omega arith)
    ]

total_one : (x n : ℕ) → (n ≤ x → total (λ v. bit (eqb x v)) n ≡ 0) × (x < n → total (λ v. bit (eqb x v)) n ≡ 1)
total_one x zero = (λ _. refl, λ l. absurd (omega arith))
total_one x (suc n) = (
  λ l. omega (arith, (total_one x n).0 (omega arith), ap bit (ne_eqb x n (λ e. omega arith))),
  λ l. elim (cases_eq x n) [
    | inl q ↦ omega (arith, (total_one x n).0 (omega arith), ap bit (eq-eqb x n q))
    | inr q ↦ omega (arith, (total_one x n).1 (omega arith), ap bit (ne_eqb x n q))
  ],
)

total_add : (f g h : ℕ → ℕ) (n : ℕ) → ((v : ℕ) → h v ≡ f v + g v) → total h n ≡ total f n + total g n
total_add f g h zero e = refl
total_add f g h (suc n) e = omega (arith, total_add f g h n e, e n)

total_zero : (n : ℕ) → total (λ _. 0) n ≡ 0
total_zero zero = refl
total_zero (suc n) = omega (arith, total_zero n)

pub list_total : (n : ℕ) (xs : List ℕ) → AllByRecursion (λ v. v < n) xs → total (λ v. times v xs) n ≡ length xs
list_total n [] a = total_zero n
list_total n (x ∷ xs) a =
    omega (
      arith,
      list_total n xs a.1,
      (total_one x n).1 a.0,
      total_add (λ v. bit (eqb x v)) (λ v. times v xs) (λ v. times v (x ∷ xs)) n (λ v. sum_by-cons (λ y. bit (eqb y v)) x xs),
    )
