-- Sums below n, and counts.
use Rattle.std.proofs.Common.{◌≡◌, ℕ, zero, suc, ◌+◌, ◌<◌, ◌≤◌, Bool, true, false, cond, ◌≢◌, List, [], ◌∷◌, map, length, count_by, refl, ap, ◌∙◌, inl, inr, arith}
use Rattle.std.specs.List.{AllByRecursion}
use Rattle.std.proofs.lemmas.List.Sums.{sum_by-cons, sum_by-append, count_by-le-length}
use Rattle.std.proofs.lemmas.Bool.{cases_eq, cases_Bool}
use Rattle.maps.specs.Links.{Link}
use Rattle.crowding.specs.Capacity.{total}
use Rattle.crowding.specs.Orientation.{cells, Rows}

abbrev pub bit : Bool → ℕ
bit b = cond b 1 0

-- sums below n

pub total_le : (f g : ℕ → ℕ) (n : ℕ) → ((v : ℕ) → v < n → f v ≤ g v) → total f n ≤ total g n
total_le f g zero h = omega arith
total_le f g (suc n) h = omega (arith, total_le f g n (λ v l. h v (omega arith)), h n (omega arith))

pub total_same : (f g : ℕ → ℕ) (n : ℕ) → ((v : ℕ) → v < n → f v ≡ g v) → total f n ≡ total g n
total_same f g zero h = refl
total_same f g (suc n) h = omega (arith, total_same f g n (λ v l. h v (omega arith)), h n (omega arith))

-- where one sum is below the other at each place and yet no smaller, the two are equal at each place
pub total_tight : (f g : ℕ → ℕ) (n : ℕ) → ((v : ℕ) → v < n → f v ≤ g v) → total g n ≤ total f n → (v : ℕ) → v < n → g v ≤ f v
total_tight f g zero h e v l = omega arith
total_tight f g (suc n) h e v l =
    elim (cases_eq v n) [
      | inl q ↦ rw q (omega (arith, total_le f g n (λ w k. h w (omega arith)), h n (omega arith)))
      | inr q ↦ total_tight f g n (λ w k. h w (omega arith)) (omega (arith, h n (omega arith))) v (omega arith)
    ]

-- two functions that agree but at u
pub total_but : (f g : ℕ → ℕ) (n u : ℕ) → ((v : ℕ) → v < n → v ≢ u → f v ≡ g v) → u < n → total f n + g u ≡ total g n + f u
total_but f g zero u h l = omega arith
total_but f g (suc n) u h l =
    elim (cases_eq u n) [
      | inl q ↦ rw q (omega (arith, total_same f g n (λ v k. h v (omega arith) (omega arith))))
      | inr q ↦ omega (arith, total_but f g n u (λ v k. h v (omega arith)) (omega arith), h n (omega arith) (omega arith))
    ]

-- counts

pub count_yes : {X : Type 0} (p : X → Bool) (x : X) (xs : List X) → p x ≡ true → count_by p (x ∷ xs) ≡ suc (count_by p xs)
count_yes p x xs e = omega (arith, sum_by-cons (λ y. cond (p y) 1 0) x xs, ap bit e)

pub count_no : {X : Type 0} (p : X → Bool) (x : X) (xs : List X) → p x ≡ false → count_by p (x ∷ xs) ≡ count_by p xs
count_no p x xs e = omega (arith, sum_by-cons (λ y. cond (p y) 1 0) x xs, ap bit e)

pub count_none : {X : Type 0} (xs : List X) → count_by (λ _. false) xs ≡ 0
count_none [] = refl
count_none (x ∷ xs) = count_no (λ _. false) x xs refl ∙ count_none xs

pub count_full : {X : Type 0} (p : X → Bool) (xs : List X) → length xs ≤ count_by p xs → AllByRecursion (λ x. p x ≡ true) xs
count_full p [] h = tt
count_full p (x ∷ xs) h =
    elim (cases_Bool (p x)) [
      | inl e ↦ (e, count_full p xs (omega (arith, count_yes p x xs e)))
      | inr e ↦ absurd (omega (arith, count_no p x xs e, count_by-le-length p xs))
    ]

pub count_all : {X : Type 0} (p : X → Bool) (xs : List X) → AllByRecursion (λ x. p x ≡ true) xs → count_by p xs ≡ length xs
count_all p [] h = refl
count_all p (x ∷ xs) h = omega (arith, count_yes p x xs h.0, count_all p xs h.1)

pub count_le : {X : Type 0} (p q : X → Bool) (xs : List X) → ((x : X) → bit (p x) ≤ bit (q x)) → count_by p xs ≤ count_by q xs
count_le p q [] h = omega arith
count_le p q (x ∷ xs) h = omega (arith, sum_by-cons (λ y. cond (p y) 1 0) x xs, sum_by-cons (λ y. cond (q y) 1 0) x xs, count_le p q xs h, h x)

-- a count of a map, and of the cells of a board

pub count_map : {X Y : Type 0} (p : Y → Bool) (f : X → Y) (xs : List X) → count_by p (map f xs) ≡ count_by (λ x. p (f x)) xs
count_map p f [] = refl
count_map p f (x ∷ xs) = omega (arith, count_map p f xs, sum_by-cons (λ y. cond (p y) 1 0) (f x) (map f xs), sum_by-cons (λ y. cond (p (f y)) 1 0) x xs)

pub count_cells : (p : Link → Bool) (row : Rows) (n : ℕ) → count_by p (cells row n) ≡ total (λ v. count_by (λ c. p (v, c)) (row v)) n
count_cells p row zero = refl
count_cells p row (suc n) = omega (arith, count_cells p row n, sum_by-append (λ y. cond (p y) 1 0) (cells row n) (map (λ c. (n, c)) (row n)), count_map p (λ c. (n, c)) (row n))

pub total_add : (f g h : ℕ → ℕ) (n : ℕ) → ((v : ℕ) → h v ≡ f v + g v) → total h n ≡ total f n + total g n
total_add f g h zero e = refl
total_add f g h (suc n) e = omega (arith, total_add f g h n e, e n)

pub total_at_lem : (f : ℕ → ℕ) (n v : ℕ) → v < n → f v ≤ total f n
total_at_lem f zero v l = omega arith
total_at_lem f (suc n) v l = elim (cases_eq v n) [ inl q ↦ rw q (omega arith) | inr q ↦ omega (arith, total_at_lem f n v (omega arith)) ]
