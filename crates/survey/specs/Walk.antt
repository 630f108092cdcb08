-- How the work stands between the steps of the code. Only contracts of private functions speak of it. Assumes nothing.
use Rattle.std.specs.Prelude.{◌≡◌, ℕ, ◌+◌, ◌<◌, ◌≤◌, true, cond, ◌&&◌, List, [], ◌∷◌, length, take, drop, count_by, nat_le, nat_lt, slice_index, slice_index_or}
use Rattle.std.specs.List.{AllByRecursion}
use Rattle.maps.specs.Links.{Link, same}
use Rattle.maps.specs.Density.{neighbours_in}
use Rattle.maps.specs.Chains.{touches}
use Rattle.survey.specs.Orders.{times, place}
use Rattle.survey.specs.Filling.{outside, Peeled, earlier_ends, Entered}

-- From `queued` on the order has the spaces of degree at most k, each once.
pub record Queue (k n : ℕ) (order degree : List ℕ) (queued : ℕ) : Type 0 where
  pub long : length order ≡ n
  pub wide : length degree ≡ n
  pub low : queued ≤ n
  pub spaces : AllByRecursion (λ v. v < n) (drop queued order)
  pub seen : (w : ℕ) → w < n → times w (drop queued order) ≡ cond (nat_le (slice_index degree w) k) 1 0

-- From `settled` on the spaces are placed for good, and the degrees are those among the others.
pub record Work (k n : ℕ) (links : List Link) (order degree : List ℕ) (settled queued : ℕ) : Type 0 where
  pub queue : Queue k n order degree queued
  pub low : queued ≤ settled
  pub high : settled ≤ n
  pub free : (w : ℕ) → w < n → slice_index degree w ≡ neighbours_in links (outside (drop settled order)) w
  pub peeled : Peeled k links (drop settled order)

-- The space v at `settled` is being placed: its links from place c on are still counted in the degrees.
pub record Lower (k n : ℕ) (links : List Link) (v : ℕ) (placed order degree : List ℕ) (settled queued c : ℕ) : Type 0 where
  pub queue : Queue k n order degree queued
  pub low : queued ≤ settled
  pub kept : drop settled order ≡ v ∷ placed
  pub free : (w : ℕ) → w < n → slice_index degree w ≡ neighbours_in links (outside (v ∷ placed)) w + count_by (same (v, w)) (drop c links)
  pub within : c ≤ length links
  pub here : c < length links → touches v (slice_index_or links c (0, 0)) ≡ true

-- The degrees of the spaces, with these links.
pub record Degrees (n : ℕ) (links : List Link) (degree : List ℕ) : Type 0 where
  pub wide : length degree ≡ n
  pub all : (v : ℕ) → v < n → slice_index degree v ≡ neighbours_in links (outside []) v

-- From `queued` on the order has those of the first v spaces that have degree at most k, each once.
pub record Seeding (k n : ℕ) (order degree : List ℕ) (queued v : ℕ) : Type 0 where
  pub long : length order ≡ n
  pub low : queued ≤ n
  pub room : n ≤ queued + v
  pub spaces : AllByRecursion (λ w. w < n) (drop queued order)
  pub seen : (w : ℕ) → w < n → times w (drop queued order) ≡ cond (nat_lt w v && nat_le (slice_index degree w) k) 1 0

-- The first i links are entered in the table, and `count` has how many cells of each row are filled.
pub record Filled (k n : ℕ) (links : List Link) (order table count : List ℕ) (i : ℕ) : Type 0 where
  pub entered : Entered k n order (take i links) table
  pub wide : length count ≡ n
  pub counts : (v : ℕ) → v < n → slice_index count v ≡ length (earlier_ends order v (take i links))

-- `places` has the place of each space.
pub record Placed (n : ℕ) (order places : List ℕ) : Type 0 where
  pub wide : length places ≡ n
  pub all : (v : ℕ) → v < n → slice_index places v ≡ place order v
