-- The pair at a place of a hex sheet's links.
use Rattle.std.proofs.Common.{◌≡◌, ℕ, zero, suc, ◌+◌, ◌-◌, ◌*◌, ◌/◌, ◌%◌, ◌<◌, ◌≤◌, true, false, eqb, length, get_or, Some, None, ap, ◌∙◌, mul-le-mul_right, mul-zero, arith, eq-eqb, ne_eqb}
use Rattle.std.proofs.lemmas.List.{get_or_append_left, get_or-append_right}
use Rattle.std.proofs.lemmas.Nat.{div-add-mod', div_below, mod_below, mul-add-lt}
use Rattle.maps.specs.Links.{pair_at}
use Rattle.maps.specs.HexLinks.{space_at, beside, across, hex_links}
use Rattle.maps.specs.Ranges.{blocks, length_blocks, length_hex}
use Rattle.maps.proofs.Blocks.{at_blocks}
use Rattle.maps.proofs.Pairing.{some_pair, no_pair}

-- a place among n blocks of k: there is room in a block
pub room : (i n k : ℕ) → i < n * k → 0 < k
room i n zero l = omega (arith, mul-zero n)
room i n (suc k) l = omega arith

module _ (w h i : ℕ) where
  pair_beside_lem : i < h * (w - 1) → Some (beside w (i / (w - 1)) (i % (w - 1))) ≡ pair_at (hex_links w h) i
  unfolding hex_links
  pair_beside_lem l =
      let z = room i h (w - 1) l in
      let n = length_blocks (beside w) (w - 1) 0 h in
      let k : i < length (blocks (beside w) (w - 1) 0 h) = omega arith in
      some_pair (hex_links w h) i _ (omega (arith, length_hex w h))
      (get_or_append_left (blocks (beside w) (w - 1) 0 h) (blocks (across w) (2 * w - 1) 0 (h - 1)) (0, 0) i k
      ∙ at_blocks (beside w) (w - 1) h i (0, 0) z (div_below i (w - 1) h z l))

  pair_across_lem : 1 ≤ w → i / (2 * w - 1) < h - 1 → Some (across w (i / (2 * w - 1)) (i % (2 * w - 1))) ≡ pair_at (hex_links w h) (h * (w - 1) + i)
  unfolding hex_links
  pair_across_lem o r =
      let z : 0 < 2 * w - 1 = omega arith in
      let p = mul-add-lt (i / (2 * w - 1)) (2 * w - 1) (i % (2 * w - 1)) (h - 1) r (mod_below i (2 * w - 1) z) in
      let s = div-add-mod' i (2 * w - 1) in
      let e : h * (w - 1) + i - h * (w - 1) ≡ i = omega arith in
      some_pair (hex_links w h) (h * (w - 1) + i) _ (omega (arith, length_hex w h))
      (get_or-append_right (blocks (beside w) (w - 1) 0 h) (blocks (across w) (2 * w - 1) 0 (h - 1)) (h * (w - 1)) (h * (w - 1) + i) (0, 0) (length_blocks (beside w) (w - 1) 0 h) (omega arith)
      ∙ (ap (λ (j : ℕ). get_or (blocks (across w) (2 * w - 1) 0 (h - 1)) j (0, 0)) e
      ∙ at_blocks (across w) (2 * w - 1) (h - 1) i (0, 0) z r))

  pub pair_past : 1 ≤ w → h - 1 ≤ i / (2 * w - 1) → None ≡ pair_at (hex_links w h) (h * (w - 1) + i)
  pair_past o r = no_pair (hex_links w h) (h * (w - 1) + i) (omega (arith, length_hex w h, div-add-mod' i (2 * w - 1), mul-le-mul_right (2 * w - 1) r))

-- the same, for two ends that are known by their rows and columns
module _ (w h i a b : ℕ) where
  pub ends_beside : i < h * (w - 1) → a ≡ space_at w (i / (w - 1)) (i % (w - 1)) → b ≡ space_at w (i / (w - 1)) (i % (w - 1) + 1) →
      Some (a, b) ≡ pair_at (hex_links w h) i
  ends_beside l p q = rw (p, q) (pair_beside_lem w h i l)

  pub ends_even : 1 ≤ w → i / (2 * w - 1) < h - 1 → i / (2 * w - 1) % 2 ≡ 0 →
      a ≡ space_at w (i / (2 * w - 1)) ((i % (2 * w - 1) + 1) / 2) → b ≡ space_at w (i / (2 * w - 1) + 1) (i % (2 * w - 1) / 2) →
      Some (a, b) ≡ pair_at (hex_links w h) (h * (w - 1) + i)
  ends_even o r e p q =
      let t : eqb (i / (2 * w - 1) % 2) 0 ≡ true = eq-eqb (i / (2 * w - 1) % 2) 0 e in
      rw (p, q) (rw t at (pair_across_lem w h i o r))

  pub ends_odd : 1 ≤ w → i / (2 * w - 1) < h - 1 → (i / (2 * w - 1) % 2 ≡ 0 → ⊥) →
      a ≡ space_at w (i / (2 * w - 1)) (i % (2 * w - 1) / 2) → b ≡ space_at w (i / (2 * w - 1) + 1) ((i % (2 * w - 1) + 1) / 2) →
      Some (a, b) ≡ pair_at (hex_links w h) (h * (w - 1) + i)
  ends_odd o r e p q =
      let t : eqb (i / (2 * w - 1) % 2) 0 ≡ false = ne_eqb (i / (2 * w - 1) % 2) 0 e in
      rw (p, q) (rw t at (pair_across_lem w h i o r))

-- where the row and the columns of a link between neighbours lie
pub row_beside : (w h i : ℕ) → i < h * (w - 1) → i / (w - 1) < h
row_beside w h i l = div_below i (w - 1) h (room i h (w - 1) l) l

pub column_beside : (w h i : ℕ) → i < h * (w - 1) → i % (w - 1) + 1 < w
column_beside w h i l = let z = room i h (w - 1) l in omega (arith, mod_below i (w - 1) z)
