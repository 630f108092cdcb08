-- Links kept in rows overfill no set; the spaces reached, where all are full, are the smallest set that one link more overfills.
use Rattle.std.proofs.Common.{◌≡◌, ℕ, ◌<◌, ◌≤◌, Bool, true, false, cond, ◌&&◌, List, ◌∷◌, length, get_or, count_by, sym, refl, ap, ◌∙◌, inl, inr, arith}
use Rattle.std.specs.List.{AllByRecursion}
use Rattle.std.proofs.lemmas.List.Sums.{count_by-le-length}
use Rattle.std.proofs.ByRecursion.{all-has, All-from_get_or, has_get_or}
use Rattle.std.proofs.lemmas.Bool.{cases_Bool, and_parts, and_from}
use Rattle.maps.specs.Links.{Link}
use Rattle.maps.specs.Sets.{Spaces, holds, held}
use Rattle.crowding.specs.Bags.{Symmetric}
use Rattle.crowding.specs.Capacity.{total, room}
use Rattle.crowding.specs.Orientation.{Rows, Oriented}
use Rattle.crowding.specs.Reach.{Reach, at_u, at_v, on}
use Rattle.maps.proofs.Good.{true_T, T_true}
use Rattle.crowding.specs.Theorems.{Crowding}
use Rattle.crowding.proofs.Sums.{total_le, total_same, total_tight, count_none, count_cells, count_full, count_all, count_yes, count_no}

and_swap : (a b : Bool) → (a && b) ≡ (b && a)
and_swap true true = refl
and_swap true false = refl
and_swap false true = refl
and_swap false false = refl

pub holds_symmetric : (S : Spaces) → Symmetric (holds S)
holds_symmetric S a b = and_swap (S a) (S b)

-- what S holds of the links kept in one row
part_le : (b : Bool) (S : Spaces) (xs : List ℕ) (m : ℕ) → length xs ≤ m → count_by (λ c. b && S c) xs ≤ cond b m 0
part_le true S xs m h = omega (arith, count_by-le-length S xs)
part_le false S xs m h = omega (arith, count_none xs)

part_full : (b : Bool) (S : Spaces) (xs : List ℕ) (m : ℕ) → (b ≡ true → (length xs ≡ m) × AllByRecursion (λ c. S c ≡ true) xs) → count_by (λ c. b && S c) xs ≡ cond b m 0
part_full true S xs m h = count_all S xs (h refl).1 ∙ (h refl).0
part_full false S xs m h = count_none xs

part_tight : (b : Bool) (S : Spaces) (xs : List ℕ) (m : ℕ) → length xs ≤ m → cond b m 0 ≤ count_by (λ c. b && S c) xs → b ≡ true → AllByRecursion (λ c. S c ≡ true) xs
part_tight true S xs m h k e = count_full S xs (omega arith)
part_tight false S xs m h k e = absurd (omega (arith, ap (λ (t : Bool). cond {A = ℕ} t 0 1) e))

module _ (cap : ℕ → ℕ) (n : ℕ) (row : Rows) (links : List Link) (o : Oriented cap n row links) where
  pub held_by_rows : (S : Spaces) → held S links ≡ total (λ v. count_by (λ c. S v && S c) (row v)) n
  held_by_rows S = sym (o.same (holds S) (holds_symmetric S)) ∙ count_cells (holds S) row n

  row_le : (S : Spaces) (v : ℕ) → v < n → count_by (λ c. S v && S c) (row v) ≤ cond (S v) (cap v) 0
  row_le S v l = part_le (S v) S (row v) (cap v) (o.fits v l)

  pub fair : (S : Spaces) → held S links ≤ room cap n S
  fair S = omega (arith, held_by_rows S, total_le _ _ n (row_le S))

  -- where S has as many links as cells, the rows of its members name members alone
  pub tight_closed : (S : Spaces) → room cap n S ≤ held S links → (x : ℕ) → x < n → S x ≡ true → AllByRecursion (λ c. S c ≡ true) (row x)
  tight_closed S h x l e = part_tight (S x) S (row x) (cap x) (o.fits x l) (total_tight _ _ n (row_le S) (omega (arith, held_by_rows S)) x l) e

  module _ (u v : ℕ) (u_in : u < n) (v_in : v < n) where
    pub reach_in : (x : ℕ) → Reach row u v x → x < n
    reach_in _ at_u = u_in
    reach_in _ at_v = v_in
    reach_in _ (on {x} {y} r h) = all-has (λ c. c < n) (row x) y (o.inside x (reach_in x r)) h

    reach_closed : (S : Spaces) → S u ≡ true → S v ≡ true → ((x : ℕ) → x < n → S x ≡ true → AllByRecursion (λ c. S c ≡ true) (row x)) → (x : ℕ) → Reach row u v x → S x ≡ true
    reach_closed S eu ev h _ at_u = eu
    reach_closed S eu ev h _ at_v = ev
    reach_closed S eu ev h _ (on {x} {y} r k) = all-has (λ c. S c ≡ true) (row x) y (h x (reach_in x r) (reach_closed S eu ev h x r)) k

    pub smallest_here : (S : Spaces) → room cap n S < held S ((u, v) ∷ links) → (x : ℕ) → Reach row u v x → S x ≡ true
    smallest_here S f =
        elim (cases_Bool (holds S (u, v))) [
          | inl e ↦
              let full : room cap n S ≤ held S links = omega (arith, count_yes (holds S) (u, v) links e) in
              reach_closed S (and_parts (S u) (S v) e).0 (and_parts (S u) (S v) e).1 (tight_closed S full)
          | inr e ↦ absurd (omega (arith, count_no (holds S) (u, v) links e, fair S))
        ]

-- a set with u and v whose rows are all full, and name members alone, is overfull once u and v are linked
pub crowded
    : (cap : ℕ → ℕ) (n : ℕ) (row : Rows) (links : List Link) → Oriented cap n row links → (u v : ℕ) (R : Spaces) → R u ≡ true → R v ≡ true
    → ((x : ℕ) → x < n → R x ≡ true → (length (row x) ≡ cap x) × AllByRecursion (λ c. R c ≡ true) (row x))
    → room cap n R < held R ((u, v) ∷ links)
crowded cap n row links o u v R eu ev full =
    let e : held R links ≡ room cap n R = held_by_rows cap n row links o R ∙ total_same _ _ n (λ x l. part_full (R x) R (row x) (cap x) (full x l)) in
    omega (arith, count_yes (holds R) (u, v) links (and_from (R u) (R v) eu ev))

pub crowding : Crowding
crowding cap n row links o u v lu lv R d full = (
  (
    (u, lu, true_T (R u) ((d u).1 at_u)),
    crowded cap n row links o u v R ((d u).1 at_u) ((d v).1 at_v)
        (λ x l e. (full x ((d x).0 e), All-from_get_or (λ c. R c ≡ true) (row x) 0 (λ i k. (d (get_or (row x) i 0)).1 (on ((d x).0 e) (has_get_or (row x) i 0 k))))),
  ),
  λ s f x l e. true_T (s x) (smallest_here cap n row links o u v lu lv s f.1 x ((d x).0 (T_true (R x) e))),
)
