-- The two sources of maps keep the ranges that every source owes: the proofs that their members `fits` cite.
use Rattle.std.specs.Prelude.{◌≡◌, ℕ, zero, suc, ◌+◌, ◌-◌, ◌*◌, ◌/◌, ◌%◌, ◌^◌, ◌<◌, ◌≤◌, min, List, [], ◌∷◌, map, length, ◌==◌, slice_index, slice_index_or, refl}
use Rattle.std.proofs.Common.{sym, ◌∙◌, arith, not-suc-le-zero, suc-mul, zero-mul, length-take, length-append, get_or-take}
use Rattle.std.proofs.Math.Nat.{mul-le-mul}
use Rattle.std.specs.List.{range_with_len, flat_map, AllByRecursion}
use Rattle.std.proofs.ByRecursion.{All-from_get_or, All-append, All-map}
use Rattle.std.proofs.lemmas.List.FromFn.{length-map-range_with_len}
use Rattle.std.proofs.lemmas.Nat.{mul-add-lt}
use Rattle.std.proofs.lemmas.Bool.{cond_both}
use Rattle.maps.specs.Links.{Link, InRange}
use Rattle.maps.specs.DrawnLinks.{pairs, drawn_links, drawn_meaning}
use Rattle.maps.specs.HexLinks.{Size, space_at, beside, upper, lower, across, hex_links, hex_meaning}

-- drawn maps

-- twice the number of pairs, and at most one number more
pub pairs_length : (l : List ℕ) → (2 * length (pairs l) ≤ length l) × (length l ≤ 2 * length (pairs l) + 1)
pairs_length [] = (omega arith, omega arith)
pairs_length (a ∷ []) = (omega arith, omega arith)
pairs_length (a ∷ (b ∷ r)) = let h = pairs_length r in (omega arith, omega arith)

-- each pair is two neighbours of the list
pub pairs_get_or : (l : List ℕ) (i : ℕ) → i < length (pairs l) → slice_index_or (pairs l) i (0, 0) ≡ (slice_index l (2 * i), slice_index l (2 * i + 1))
pairs_get_or [] i h = absurd (not-suc-le-zero h)
pairs_get_or (a ∷ []) i h = absurd (not-suc-le-zero h)
pairs_get_or (a ∷ (b ∷ r)) zero h = refl
pairs_get_or (a ∷ (b ∷ r)) (suc i) h =
    let e : 2 * suc i ≡ suc (suc (2 * i)) = omega arith in
    let f : suc (suc (2 * i)) + 1 ≡ suc (suc (2 * i + 1)) = omega arith in
    let k : i < length (pairs r) = omega arith in
    rw (e, f) (pairs_get_or r i k)

pub drawn_length : (l : List ℕ) → length (drawn_links l) ≡ min 4294967295 (length (pairs l))
unfolding drawn_links
drawn_length l = length-take 4294967295 (pairs l)

pub drawn_get_or : (l : List ℕ) (i : ℕ) → i < 4294967295 → i < length (pairs l) → slice_index_or (drawn_links l) i (0, 0) ≡ (slice_index l (2 * i), slice_index l (2 * i + 1))
unfolding drawn_links
drawn_get_or l i a b = get_or-take 4294967295 (pairs l) i (0, 0) a ∙ pairs_get_or l i b

abbrev EndsFit : Link → Type 0
EndsFit l = (l.0 < 2 ^ 16) × (l.1 < 2 ^ 16)

pub drawn_in_range : (n : ℕ) (l : List ℕ) → n < 2 ^ 32 → ((i : ℕ) → i < length l → slice_index l i < 2 ^ 16) → InRange (drawn_meaning n l)
drawn_in_range n l a h =
    record {
      spaces_fit = a;
      links_fit = omega (arith, drawn_length l);
      ends_fit = All-from_get_or EndsFit (drawn_links l) (0, 0) (λ i b.
          let few : i < 4294967295 = omega (arith, drawn_length l) in
          let in_pairs : i < length (pairs l) = omega (arith, drawn_length l) in
          rw (drawn_get_or l i few in_pairs) (h (2 * i) (omega (arith, pairs_length l)), h (2 * i + 1) (omega (arith, pairs_length l))));
    }

-- hex sheets: lists of n blocks, one for each of the numbers from a on, each of w elements

abbrev pub blocks : {X : Type 0} → (ℕ → ℕ → X) → ℕ → ℕ → ℕ → List X
blocks g w a n = flat_map (λ q. map (g q) (range_with_len 0 w)) (range_with_len a n)

pub length_blocks : {X : Type 0} (g : ℕ → ℕ → X) (w a n : ℕ) → length (blocks g w a n) ≡ n * w
length_blocks g w a zero = sym (zero-mul w)
length_blocks g w a (suc n) =
    length-append (map (g a) (range_with_len 0 w)) (blocks g w (a + 1) n)
    ∙ omega (arith, length-map-range_with_len (g a) 0 w, length_blocks g w (a + 1) n, suc-mul n w)

all_counting : (P : ℕ → Type 0) (a n : ℕ) → ((i : ℕ) → i < a + n → P i) → AllByRecursion P (range_with_len a n)
all_counting P a zero h = tt
all_counting P a (suc n) h = (h a (omega arith), all_counting P (a + 1) n (λ i l. h i (omega arith)))

all_blocks : {X : Type 0} (P : X → Type 0) (g : ℕ → ℕ → X) (w a n : ℕ) → ((q r : ℕ) → q < a + n → r < w → P (g q r)) → AllByRecursion P (blocks g w a n)
all_blocks P g w a zero h = tt
all_blocks P g w a (suc n) h =
    All-append P (map (g a) (range_with_len 0 w)) (blocks g w (a + 1) n)
    (All-map P (g a) (range_with_len 0 w) (all_counting (λ r. P (g a r)) 0 w (λ r l. h a r (omega arith) (omega arith))))
    (all_blocks P g w (a + 1) n (λ q r l k. h q r (omega arith) k))

pub length_hex : (w h : ℕ) → length (hex_links w h) ≡ h * (w - 1) + (h - 1) * (2 * w - 1)
unfolding hex_links
length_hex w h =
    length-append (blocks (beside w) (w - 1) 0 h) (blocks (across w) (2 * w - 1) 0 (h - 1))
    ∙ omega (arith, length_blocks (beside w) (w - 1) 0 h, length_blocks (across w) (2 * w - 1) 0 (h - 1))

module _ (w h : ℕ) (sw : Size w) (sh : Size h) where
  space_fits : (r c : ℕ) → r < h → c < w → space_at w r c < 2 ^ 16
  space_fits r c lr lc = omega (arith, mul-add-lt r w c h lr lc, mul-le-mul sh.1 sw.1)

  beside_fits : (r c : ℕ) → r < 0 + h → c < w - 1 → EndsFit (beside w r c)
  beside_fits r c lr lc = (space_fits r c (omega arith) (omega arith), space_fits r (c + 1) (omega arith) (omega arith))

  across_fits : (r t : ℕ) → r < 0 + (h - 1) → t < 2 * w - 1 → EndsFit (across w r t)
  across_fits r t lr lt = (
    space_fits r (upper r t) (omega arith) (cond_both (r % 2 == 0) ((t + 1) / 2) (t / 2) (λ c. c < w) (λ _. omega arith) (λ _. omega arith)),
    space_fits (r + 1) (lower r t) (omega arith) (cond_both (r % 2 == 0) (t / 2) ((t + 1) / 2) (λ c. c < w) (λ _. omega arith) (λ _. omega arith)),
  )

  few_links : length (hex_links w h) < 2 ^ 32
  few_links =
      let a : h * (w - 1) ≤ 64 * 64 = mul-le-mul sh.1 (let l : w - 1 ≤ 64 = omega arith in l) in
      let b : (h - 1) * (2 * w - 1) ≤ 64 * 128 = mul-le-mul (let l : h - 1 ≤ 64 = omega arith in l) (let l : 2 * w - 1 ≤ 128 = omega arith in l) in
      omega (arith, length_hex w h)

  pub hex_in_range : InRange (hex_meaning w h)
  unfolding hex_links
  hex_in_range =
      record {
        spaces_fit = omega (arith, mul-le-mul sw.1 sh.1);
        links_fit = few_links;
        ends_fit = All-append EndsFit (blocks (beside w) (w - 1) 0 h) (blocks (across w) (2 * w - 1) 0 (h - 1))
            (all_blocks EndsFit (beside w) (w - 1) 0 h beside_fits)
            (all_blocks EndsFit (across w) (2 * w - 1) 0 (h - 1) across_fits);
      }
