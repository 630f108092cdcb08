-- The spaces that are reached form a set, and so each link can be kept or some set is overfull with it.
use Rattle.std.proofs.Common.{◌≡◌, ℕ, zero, suc, ◌+◌, ◌<◌, ◌≤◌, Bool, true, false, not, ◌&&◌, ◌||◌, eqb, ltb, ◌⊎◌, List, [], ◌∷◌, length, get_or, Decides, refl, ap, ◌∙◌, inl, inr, arith}
use Rattle.std.specs.List.{ContainsAt, AllByRecursion}
use Rattle.std.proofs.lemmas.List.Sums.{sum_by-cons}
use Rattle.std.proofs.ByRecursion.{all-has, All-from_get_or, has_get_or}
use Rattle.std.proofs.lemmas.Bool.{cases_Bool, cases_lt, not-true, not_from_false, eq-eqb, ne_eqb, eqb-true, or_cases, or_left, or_right}
use Rattle.std.proofs.lemmas.Bool.Decides.{Decides-by_or, Decides-below_or, Decides-and, Decides-eqb, Decides-ltb, not_from_Decides}
use Rattle.maps.specs.Links.{Link}
use Rattle.maps.specs.Sets.{Spaces, holds, held}
use Rattle.crowding.specs.Capacity.{total, room, Fair}
use Rattle.crowding.specs.Orientation.{Rows, Oriented}
use Rattle.crowding.specs.Reach.{Reach, at_u, at_v, on}
use Rattle.crowding.specs.Theorems.{KeptIfFair, EndsIn}
use Rattle.crowding.proofs.Sums.{bit, total_tight, total_but, count_cells}
use Rattle.crowding.proofs.Crowding.{fair, crowded}
use Rattle.crowding.proofs.Laying.{can_lay}

abbrev among : ℕ → List ℕ → Bool
among c [] = false
among c (x ∷ xs) = eqb x c || among c xs

among_decides : (c : ℕ) (xs : List ℕ) → Decides (among c xs) (ContainsAt xs c)
among_decides c xs = Decides-by_or (λ y. eqb y c) (λ y. y ≡ c) (among c) (λ y. Decides-eqb y c) refl (λ _ _. refl) xs

abbrev below : (ℕ → Bool) → ℕ → Bool
below p zero = false
below p (suc n) = p n || below p n

below_decides : (p : ℕ → Bool) (P : ℕ → Type 0) → ((k : ℕ) → Decides (p k) (P k)) → (n : ℕ) → Decides (below p n) ((k : ℕ) × (k < n) × P k)
below_decides p P each n = Decides-below_or p P (below p) each refl (λ _. refl) n

true_decides : (b : Bool) → Decides b (b ≡ true)
true_decides b = (λ e. e, λ e. e)

false_decides : (b : Bool) → Decides (not b) (b ≡ false)
false_decides b = (not-true b, not_from_false b)

-- a set that lacks a space has fewer than n
total_ones : (n : ℕ) → total (λ _. 1) n ≡ n
total_ones zero = refl
total_ones (suc n) = omega (arith, total_ones n)

bit_le : (b : Bool) → bit b ≤ 1
bit_le b = grind arith

abbrev size : ℕ → Spaces → ℕ
size n R = total (λ v. bit (R v)) n

size_short : (n : ℕ) (R : Spaces) → n ≤ size n R → (x : ℕ) → x < n → R x ≡ false → ⊥
size_short n R h x l e = omega (arith, total_tight (λ v. bit (R v)) (λ _. 1) n (λ v _. bit_le (R v)) (omega (arith, total_ones n)) x l, ap bit e)

abbrev with_one : ℕ → Spaces → Spaces
with_one x R y = eqb y x || R y

size_more : (n : ℕ) (R : Spaces) (x : ℕ) → x < n → R x ≡ false → size n (with_one x R) ≡ suc (size n R)
size_more n R x l e =
    omega (arith, total_but (λ v. bit (with_one x R v)) (λ v. bit (R v)) n x (λ v _ ne. ap (λ (t : Bool). bit (t || R v)) (ne_eqb v x ne)) l, ap bit e, ap (λ (t : Bool). bit (t || R x)) (eq-eqb x x refl))

module _ (cap : ℕ → ℕ) (n : ℕ) (row : Rows) (links : List Link) (o : Oriented cap n row links) (u v : ℕ) (u_in : u < n) (v_in : v < n) where
  abbrev Stepped : Spaces → ℕ → Type 0
  Stepped R x = (y : ℕ) × (y < n) × ((R y ≡ true) × ContainsAt (row y) x)

  abbrev steps : Spaces → ℕ → Bool
  steps R x = not (R x) && below (λ y. R y && among x (row y)) n

  step_decides : (R : Spaces) → Decides (below (steps R) n) ((x : ℕ) × (x < n) × ((R x ≡ false) × Stepped R x))
  step_decides R =
      below_decides (steps R) (λ x. (R x ≡ false) × Stepped R x)
      (λ x. Decides-and (not (R x)) _ (false_decides (R x))
      (below_decides (λ y. R y && among x (row y)) (λ y. (R y ≡ true) × ContainsAt (row y) x) (λ y. Decides-and (R y) _ (true_decides (R y)) (among_decides x (row y))) n)) n

  -- part of what is reached
  record Found (R : Spaces) : Type 0 where
    has_u : R u ≡ true
    has_v : R v ≡ true
    reached : (x : ℕ) → R x ≡ true → Reach row u v x

  abbrev Closed : Spaces → Type 0
  Closed R = (x : ℕ) → x < n → R x ≡ true → AllByRecursion (λ c. R c ≡ true) (row x)

  more_found : (R : Spaces) (x : ℕ) → Found R → Stepped R x → Found (with_one x R)
  more_found R x f (y, l, (e, h)) =
      record {
        has_u = or_right (eqb u x) (R u) f.has_u;
        has_v = or_right (eqb v x) (R v) f.has_v;
        reached = λ z ez. elim (or_cases (eqb z x) (R z) ez) [ inl q ↦ rw (eqb-true z x q) (on (f.reached y e) h) | inr q ↦ f.reached z q ];
      }

  closed_now : (R : Spaces) → below (steps R) n ≡ false → Closed R
  closed_now R e x l r =
      All-from_get_or (λ c. R c ≡ true) (row x) 0 (λ i li.
      let c : ℕ = get_or (row x) i 0 in
      let h : ContainsAt (row x) c = has_get_or (row x) i 0 li in
      elim (cases_Bool (R c)) [
        | inl t ↦ t
        | inr t ↦ absurd (not_from_Decides (below (steps R) n) (step_decides R) e (c, all-has (λ d. d < n) (row x) c (o.inside x l) h, (t, (x, l, (r, h)))))
      ])

  close : (fuel : ℕ) (R : Spaces) → n ≤ fuel + size n R → Found R → (R' : Spaces) × Found R' × Closed R'
  close zero R s f =
      elim (cases_Bool (below (steps R) n)) [
        | inl e ↦ let (x, l, p) = (step_decides R).0 e in absurd (size_short n R (omega arith) x l p.0)
        | inr e ↦ (R, f, closed_now R e)
      ]
  close (suc fuel) R s f =
      elim (cases_Bool (below (steps R) n)) [
        | inl e ↦ let (x, l, p) = (step_decides R).0 e in close fuel (with_one x R) (omega (arith, size_more n R x l p.0)) (more_found R x f p.1)
        | inr e ↦ (R, f, closed_now R e)
      ]

  abbrev ends : Spaces
  ends x = eqb x u || eqb x v

  ends_found : Found ends
  ends_found =
      record {
        has_u = or_left (eqb u u) (eqb u v) (eq-eqb u u refl);
        has_v = or_right (eqb v u) (eqb v v) (eq-eqb v v refl);
        reached = λ z ez. elim (or_cases (eqb z u) (eqb z v) ez) [ inl q ↦ rw (eqb-true z u q) at_u | inr q ↦ rw (eqb-true z v q) at_v ];
      }

  free_decides : (R : Spaces) → Decides (below (λ x. R x && ltb (length (row x)) (cap x)) n) ((x : ℕ) × (x < n) × ((R x ≡ true) × (length (row x) < cap x)))
  free_decides R = below_decides _ (λ x. (R x ≡ true) × (length (row x) < cap x)) (λ x. Decides-and (R x) _ (true_decides (R x)) (Decides-ltb (length (row x)) (cap x))) n

  settle : ((row' : Rows) × Oriented cap n row' ((u, v) ∷ links)) ⊎ ((R : Spaces) × (room cap n R < held R ((u, v) ∷ links)))
  settle =
      let (R, f, closed) = close n ends (omega arith) ends_found in
      elim (cases_Bool (below (λ x. R x && ltb (length (row x)) (cap x)) n)) [
        | inl e ↦ let (x, l, p) = (free_decides R).0 e in inl (can_lay cap n row links o u v u_in v_in x (f.reached x p.0) p.1)
        | inr e ↦
            inr (R, crowded cap n row links o u v R f.has_u f.has_v (λ x l r. (full R e x l r, closed x l r)))
      ]
    where
      full : (R : Spaces) → below (λ x. R x && ltb (length (row x)) (cap x)) n ≡ false → (x : ℕ) → x < n → R x ≡ true → length (row x) ≡ cap x
      full R e x l r =
          elim (cases_lt (length (row x)) (cap x)) [
            | inl h ↦ absurd (not_from_Decides _ (free_decides R) e (x, l, (r, h)))
            | inr h ↦ omega (arith, o.fits x l)
          ]

fair_tail : (cap : ℕ → ℕ) (n : ℕ) (l : Link) (links : List Link) → Fair cap n (l ∷ links) → Fair cap n links
fair_tail cap n l links h S = omega (arith, h S, sum_by-cons (λ k. bit (holds S k)) l links)

none_oriented : (cap : ℕ → ℕ) (n : ℕ) → Oriented cap n (λ _. []) []
none_oriented cap n = record { fits = λ v _. omega arith; inside = λ v _. tt; same = λ p _. count_cells p (λ _. []) n ∙ total_zero n }
  where
    total_zero : (m : ℕ) → total (λ _. 0) m ≡ 0
    total_zero zero = refl
    total_zero (suc m) = omega (arith, total_zero m)

orient : (cap : ℕ → ℕ) (n : ℕ) (links : List Link) → EndsIn n links → Fair cap n links → (row : Rows) × Oriented cap n row links
orient cap n [] a h = (λ _. [], none_oriented cap n)
orient cap n (l ∷ links) a h =
    let (row, o) = orient cap n links a.1 (fair_tail cap n l links h) in
    elim (settle cap n row links o l.0 l.1 a.0.0 a.0.1) [
      | inl k ↦ k
      | inr (R, f) ↦ absurd (omega (arith, h R))
    ]

pub kept_if_fair : KeptIfFair
kept_if_fair cap n links a = (orient cap n links a, λ row o. fair cap n row links o)
