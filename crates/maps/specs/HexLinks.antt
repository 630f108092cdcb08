-- The spaces and links of a hex sheet of w columns and h rows. Assumes nothing.
use Rattle.std.specs.Prelude.{ℕ, ◌+◌, ◌-◌, ◌*◌, ◌/◌, ◌%◌, ◌≤◌, cond, List, ◌++◌, map, ◌==◌}
use Rattle.std.specs.List.{range_with_len, flat_map}
use Rattle.maps.specs.Links.{Link, Meaning}

-- a width or a height
abbrev pub Size : ℕ → Type 0
Size n = (1 ≤ n) × (n ≤ 64)

-- the space in row r, column c
abbrev pub space_at : ℕ → ℕ → ℕ → ℕ
space_at w r c = r * w + c

-- in row r, the space in column c and its neighbour to the right
abbrev pub beside : ℕ → ℕ → ℕ → Link
beside w r c = (space_at w r c, space_at w r (c + 1))

-- the columns of the two spaces that step t joins across the gap below row r: in an even row the upper is ahead, in an odd row the lower
abbrev pub upper : ℕ → ℕ → ℕ
upper r t = cond (r % 2 == 0) ((t + 1) / 2) (t / 2)

abbrev pub lower : ℕ → ℕ → ℕ
lower r t = cond (r % 2 == 0) (t / 2) ((t + 1) / 2)

abbrev pub across : ℕ → ℕ → ℕ → Link
across w r t = (space_at w r (upper r t), space_at w (r + 1) (lower r t))

-- first the neighbours in each row, r = 0 to h - 1, c = 0 to w - 2; then the gaps below the rows, r = 0 to h - 2, t = 0 to 2w - 2
unfoldable pub hex_links : ℕ → ℕ → List Link
hex_links w h =
    flat_map (λ r. map (beside w r) (range_with_len 0 (w - 1))) (range_with_len 0 h)
    ++ flat_map (λ r. map (across w r) (range_with_len 0 (2 * w - 1))) (range_with_len 0 (h - 1))

abbrev pub hex_meaning : ℕ → ℕ → Meaning
hex_meaning w h = record { spaces = w * h; links = hex_links w h }
