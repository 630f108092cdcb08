-- What is proved of all orders, tables and dense sets. Assumes nothing.
use Rattle.std.specs.Prelude.{◌≡◌, ℕ, ◌*◌, ◌<◌, ◌≤◌, ◌&&◌, List, take}
use Rattle.maps.specs.Links.{Link}
use Rattle.maps.specs.Sets.{Spaces, size}
use Rattle.maps.specs.Density.{neighbours_in, Dense}
use Rattle.maps.specs.LinkChecks.{GoodLinks}
use Rattle.maps.specs.Reading.{reading}
use Rattle.survey.specs.Orders.{Ordering}
use Rattle.survey.specs.Tables.{linked, Table}

-- An order with at most k neighbours before each space exists exactly if the map is not dense.
abbrev pub OrderedUnlessDense : Type 0
OrderedUnlessDense =
    (k n : ℕ) (links : List Link) → GoodLinks n links →
    (((order : List ℕ) × Ordering k n links order) → Dense k n links → ⊥)
    × ((Dense k n links → ⊥) → (order : List ℕ) × Ordering k n links order)

-- By the reading rule the table of an order says yes exactly for the links. The memory that holds the table may be longer.
abbrev pub TableReadsLinks : Type 0
TableReadsLinks =
    (k n : ℕ) (links : List Link) → GoodLinks n links → n ≤ 65535 →
    (order table : List ℕ) → Ordering k n links order → Table k n links order (take (n * k) table) →
    (a b : ℕ) → a < n → b < n → (reading k table a b).0 ≡ linked links a b

-- Counting links counts spaces: v has as many neighbours in s as there are spaces in s that are linked to v.
abbrev pub NeighboursCounted : Type 0
NeighboursCounted =
    (n : ℕ) (links : List Link) → GoodLinks n links → (s : Spaces) (v : ℕ) →
    neighbours_in links s v ≡ size n (λ w. linked links v w && s w)
