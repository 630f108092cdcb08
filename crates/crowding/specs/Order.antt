-- How many links a space has to those before it in an order. Assumes nothing.
use Rattle.std.specs.Prelude.{ℕ, ◌&&◌, ◌||◌, List, count_by, ◌==◌, nat_lt}
use Rattle.maps.specs.Links.{Link}

-- `place x` is the place of the space x in the order
abbrev pub earlier : (ℕ → ℕ) → ℕ → List Link → ℕ
earlier place v links = count_by (λ l. (l.0 == v && nat_lt (place l.1) (place v)) || (l.1 == v && nat_lt (place l.0) (place v))) links
