-- The element at a place of a list made of blocks of equal width.
use Rattle.std.proofs.Common.{◌≡◌, ℕ, zero, suc, ◌+◌, ◌-◌, ◌*◌, ◌/◌, ◌%◌, ◌<◌, map, length, get_or, sym, ap, ◌∙◌, le_of_suc-le-suc, not-suc-le-zero, add-zero, suc-mul, zero-add, zero-mul, arith}
use Rattle.std.specs.List.{range_with_len}
use Rattle.std.proofs.lemmas.List.{get_or_append_left, get_or-append_right}
use Rattle.std.proofs.lemmas.List.FromFn.{length-map-range_with_len, get_or-map-range_with_len}
use Rattle.std.proofs.lemmas.Nat.{div-add-mod', mod_below}
use Rattle.maps.specs.Ranges.{blocks}

pub get_or_blocks : {X : Type 0} (g : ℕ → ℕ → X) (w a n q r : ℕ) (d : X) → q < n → r < w → get_or (blocks g w a n) (q * w + r) d ≡ g (a + q) r
get_or_blocks g w a zero q r d h k = absurd (not-suc-le-zero h)
get_or_blocks g w a (suc n) zero r d h k =
    let e : 0 * w + r ≡ r = omega (arith, zero-mul w) in
    let l : r < length (map (g a) (range_with_len 0 w)) = omega (arith, length-map-range_with_len (g a) 0 w) in
    rw (e, add-zero) (get_or_append_left (map (g a) (range_with_len 0 w)) (blocks g w (a + 1) n) d r l ∙ get_or-map-range_with_len (g a) 0 w r r d k (omega arith))
get_or_blocks g w a (suc n) (suc q) r d h k =
    let e : suc q * w + r - w ≡ q * w + r = omega (arith, suc-mul q w) in
    let f : a + 1 + q ≡ a + suc q = omega arith in
    get_or-append_right (map (g a) (range_with_len 0 w)) (blocks g w (a + 1) n) w (suc q * w + r) d (length-map-range_with_len (g a) 0 w) (omega (arith, suc-mul q w))
    ∙ ap (λ i. get_or (blocks g w (a + 1) n) i d) e
    ∙ get_or_blocks g w (a + 1) n q r d (le_of_suc-le-suc h) k
    ∙ ap (λ i. g i r) f

-- the element at i is at place i % w of block i / w
pub at_blocks : {X : Type 0} (g : ℕ → ℕ → X) (w n i : ℕ) (d : X) → 0 < w → i / w < n → get_or (blocks g w 0 n) i d ≡ g (i / w) (i % w)
at_blocks g w n i d z h =
    ap (λ j. get_or (blocks g w 0 n) j d) (sym (div-add-mod' i w))
    ∙ get_or_blocks g w 0 n (i / w) (i % w) d h (mod_below i w z)
    ∙ ap (λ j. g j (i % w)) (zero-add (i / w))
