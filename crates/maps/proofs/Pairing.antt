-- The pair at a place of a drawn map's links.
use Rattle.std.proofs.Common.{◌≡◌, ℕ, ◌+◌, ◌*◌, ◌<◌, ◌≤◌, min, true, false, ltb, List, length, get_or, take, drop, Some, None, Ok, Err, Result, inl, inr, ap, ◌∙◌, arith, get_or-drop, get_or-take, le-ltb, lt-ltb}
use Rattle.std.proofs.lemmas.Bool.{cases_lt}
use Rattle.std.specs.Result.{OkIff, result_unwrap_or}
use Rattle.maps.specs.Links.{Link, pair_at}
use Rattle.maps.specs.DrawnLinks.{pairs, drawn_links}
use Rattle.maps.specs.Ranges.{pairs_length, drawn_length, drawn_get_or}

pub some_pair : (l : List Link) (i : ℕ) (x : Link) → i < length l → get_or l i (0, 0) ≡ x → Some x ≡ pair_at l i
some_pair l i x h e = let b : ltb i (length l) ≡ true = lt-ltb i (length l) h in rw (b, e)

pub no_pair : (l : List Link) (i : ℕ) → length l ≤ i → None ≡ pair_at l i
no_pair l i h = let b : ltb i (length l) ≡ false = le-ltb i (length l) h in rw b

pub drawn_none : (l : List ℕ) (i : ℕ) → 4294967295 ≤ i → None ≡ pair_at (drawn_links l) i
drawn_none l i h = no_pair (drawn_links l) i (omega (arith, drawn_length l))

pub drawn_past : (l : List ℕ) (i : ℕ) → length l ≤ 2 * i + 1 → None ≡ pair_at (drawn_links l) i
drawn_past l i h = no_pair (drawn_links l) i (omega (arith, drawn_length l, pairs_length l))

-- what the pattern reads of the slice from 2 i on
pub drawn_some : (l : List ℕ) (i n : ℕ) → i < 4294967295 → 2 * i + 1 < length l → 1 < n →
    Some (get_or (take n (drop (2 * i) l)) 0 0, get_or (take n (drop (2 * i) l)) 1 0) ≡ pair_at (drawn_links l) i
drawn_some l i n a h o =
    let z : 0 < n = omega arith in
    let b : i < length (pairs l) = omega (arith, pairs_length l) in
    let x : get_or (take n (drop (2 * i) l)) 0 0 ≡ get_or l (2 * i) 0 = get_or-take n (drop (2 * i) l) 0 0 z ∙ get_or-drop (2 * i) l 0 0 ∙ ap (λ (t : ℕ). get_or l t 0) (omega arith) in
    let y : get_or (take n (drop (2 * i) l)) 1 0 ≡ get_or l (2 * i + 1) 0 = get_or-take n (drop (2 * i) l) 1 0 o ∙ get_or-drop (2 * i) l 1 0 in
    some_pair (drawn_links l) i _ (omega (arith, drawn_length l)) (rw (x, y) (drawn_get_or l i a b))

-- a number that is cut off at the largest of 32 bits
pub capped : {E : Type 0} (r : Result ℕ E) (x : ℕ) → OkIff r (x < 4294967296) x → result_unwrap_or r 4294967295 ≡ min 4294967295 x
capped (Ok y) x (low, is) = omega arith
capped (Err e) x high = elim (cases_lt x 4294967296) [ inl low ↦ absurd (high low) | inr k ↦ omega arith ]
