-- Every space with the same number of cells.
use Rattle.std.proofs.Common.{◌≡◌, ℕ, zero, suc, ◌+◌, ◌*◌, ◌<◌, Bool, true, false, cond, List, ◌∷◌, length, Decides, count_by, sym, refl, ap, ◌∙◌, arith}
use Rattle.std.specs.List.{range_with_len}
use Rattle.std.proofs.lemmas.List.Sums.{sum_by-cons}
use Rattle.maps.specs.Density.{Overfull, Crowded, SmallestOverfull}
use Rattle.maps.specs.Links.{Link}
use Rattle.maps.specs.Sets.{Spaces, size}
use Rattle.crowding.specs.Capacity.{total, room, OverfullBy, SmallestBy}
use Rattle.crowding.specs.Orientation.{Rows, Oriented}
use Rattle.crowding.specs.Reach.{Reach}
use Rattle.crowding.specs.Theorems.{OneCapacity}
use Rattle.crowding.proofs.Crowding.{fair, crowding}
use Rattle.crowding.proofs.Sums.{bit}

-- f a + .. + f (a + n - 1), from the front
from_front : (f : ℕ → ℕ) (a n : ℕ) → total (λ v. f (a + v)) (suc n) ≡ f a + total (λ v. f (a + 1 + v)) n
from_front f a zero = let e : a + 0 ≡ a = omega arith in omega (arith, ap f e)
from_front f a (suc n) = let e : a + suc n ≡ a + 1 + n = omega arith in omega (arith, from_front f a n, ap f e)

size_from : (s : Spaces) (a n : ℕ) → count_by s (range_with_len a n) ≡ total (λ v. bit (s (a + v))) n
size_from s a zero = refl
size_from s a (suc n) = omega (arith, sum_by-cons (λ v. bit (s v)) a (range_with_len (a + 1) n), size_from s (a + 1) n, from_front (λ v. bit (s v)) a n)

total_ext : (f g : ℕ → ℕ) → ((v : ℕ) → f v ≡ g v) → (n : ℕ) → total f n ≡ total g n
total_ext f g h zero = refl
total_ext f g h (suc n) = omega (arith, total_ext f g h n, h n)

-- the number of members as a sum
pub size_total : (n : ℕ) (s : Spaces) → size n s ≡ total (λ v. bit (s v)) n
size_total n s = size_from s 0 n ∙ total_ext (λ v. bit (s (0 + v))) (λ v. bit (s v)) (λ v. let e : 0 + v ≡ v = omega arith in ap (λ (x : ℕ). bit (s x)) e) n

cond_mul : (b : Bool) (k : ℕ) → cond b k 0 ≡ k * cond b 1 0
cond_mul true k = omega arith
cond_mul false k = omega arith

room_total : (k n : ℕ) (s : Spaces) → room (λ _. k) n s ≡ k * total (λ v. bit (s v)) n
room_total k zero s = omega arith
room_total k (suc n) s = omega (arith, room_total k n s, cond_mul (s n) k)

pub room_uniform : (k n : ℕ) (s : Spaces) → room (λ _. k) n s ≡ k * size n s
room_uniform k n s = room_total k n s ∙ ap (λ (m : ℕ). k * m) (sym (size_total n s))

pub overfull_to : (k n : ℕ) (links : List Link) (s : Spaces) → OverfullBy (λ _. k) n links s → Overfull k n links s
overfull_to k n links s (e, h) = (e, omega (arith, room_uniform k n s))

pub overfull_from : (k n : ℕ) (links : List Link) (s : Spaces) → Overfull k n links s → OverfullBy (λ _. k) n links s
overfull_from k n links s (e, h) = (e, omega (arith, room_uniform k n s))

pub smallest_to : (k n : ℕ) (links : List Link) (s : Spaces) → SmallestBy (λ _. k) n links s → SmallestOverfull k n links s
smallest_to k n links s (o, least) = (overfull_to k n links s o, λ t h. least t (overfull_from k n links t h))

pub not_crowded : (k n : ℕ) (row : Rows) (links : List Link) → Oriented (λ _. k) n row links → Crowded k n links → ⊥
not_crowded k n row links o (s, (e, h)) = omega (arith, fair (λ _. k) n row links o s, room_uniform k n s)

-- the law at one number
pub crowding_at
    : (k n : ℕ) (row : Rows) (links : List Link) → Oriented (λ _. k) n row links → (u v : ℕ) → u < n → v < n → (R : Spaces)
    → ((x : ℕ) → Decides (R x) (Reach row u v x)) → ((x : ℕ) → Reach row u v x → length (row x) ≡ k) → SmallestOverfull k n ((u, v) ∷ links) R
crowding_at k n row links o u v lu lv R d full = smallest_to k n ((u, v) ∷ links) R (crowding (λ _. k) n row links o u v lu lv R d full)

pub one_capacity : OneCapacity
one_capacity = (room_uniform, not_crowded)
