-- The surveys worked by hand: each fact is a test that is computed.
use Rattle.std.proofs.Common.{◌≡◌, ℕ, zero, suc, ◌<◌, Bool, true, false, not, ◌&&◌, ◌||◌, T, eqb, ltb, leb, List, [], ◌∷◌, length, get_or, take, refl, ap, ◌∙◌, inl, inr, arith, lit<, lit≤}
use Rattle.std.specs.List.{AllByRecursion}
use Rattle.std.proofs.lemmas.Bool.{cases_eq, and_parts, ltb-true, leb-true, eqb-true, eq-eqb}
use Rattle.maps.specs.Links.{Link, some_same}
use Rattle.maps.specs.Sets.{Spaces}
use Rattle.maps.specs.Density.{neighbours_in, Dense, LargestThick}
use Rattle.maps.specs.HexLinks.{hex_links}
use Rattle.maps.specs.LinkChecks.{AllLinksGood}
use Rattle.maps.proofs.Good.{links_good}
use Rattle.survey.specs.Orders.{times, before}
use Rattle.survey.specs.Filling.{outside, Peeled}
use Rattle.survey.specs.WorkedCases.{listed, triangle, WorkedCases}
use Rattle.maps.proofs.Good.{T_true, true_T}
use Rattle.survey.proofs.Peeling.{peeled_thick, ordering_not_dense}

-- a test of all numbers below m
abbrev all_below : (ℕ → Bool) → ℕ → Bool
all_below p zero = true
all_below p (suc m) = p m && all_below p m

below : (p : ℕ → Bool) (m : ℕ) → all_below p m ≡ true → (q : ℕ) → q < m → p q ≡ true
below p zero e q l = absurd (omega arith)
below p (suc m) e q l =
    let (here, rest) = and_parts (p m) (all_below p m) e in
    elim (cases_eq q m) [
      | inl x ↦ ap p x ∙ here
      | inr ne ↦ below p m rest q (omega arith)
    ]

-- where a test fails or another passes
implied : (a b : Bool) → (not a || b) ≡ true → T a → b ≡ true
implied true b e t = e
implied false b e t = absurd t

-- the checks of a link

passes_test : ℕ → List Link → ℕ → Bool
passes_test n links q =
    let l : Link = get_or links q (0, 0) in
    ltb l.0 n && (ltb l.1 n && (not (eqb l.0 l.1) && not (some_same l (take q links))))

refuted : (b : Bool) → not b ≡ true → b ≡ true → ⊥
refuted true e h = absurd (true_T false e)
refuted false e h = absurd (true_T false h)

good_by_test : (n : ℕ) (links : List Link) → all_below (passes_test n links) (length links) ≡ true → AllLinksGood n links
unfolding passes_test
good_by_test n links e q l =
    let a : ℕ = (get_or links q (0, 0)).0 in
    let b : ℕ = (get_or links q (0, 0)).1 in
    let (la, r) = and_parts (ltb a n) _ (below (passes_test n links) (length links) e q l) in
    let (lb, s) = and_parts (ltb b n) _ r in
    let (ne, new) = and_parts (not (eqb a b)) _ s in
    inr (
      (λ bad. elim bad [ inl x ↦ omega (arith, ltb-true a n la) | inr x ↦ omega (arith, ltb-true b n lb) ]),
      inr (
        (λ same. refuted (eqb a b) ne (eq-eqb a b same)),
        inr ((λ again. refuted (some_same (get_or links q (0, 0)) (take q links)) new (T_true _ again)), tt),
      ),
    )

-- a set that is thick, and contains every space that is not peeled off
largest_by_test : (k n : ℕ) (links : List Link) (s : Spaces) (placed : List ℕ) → AllLinksGood n links → AllByRecursion (λ v. v < n) placed → Peeled k links placed →
    (v : ℕ) → v < n → T (s v) →
    all_below (λ w. not (s w) || ltb k (neighbours_in links s w)) n ≡ true →
    all_below (λ w. not (outside placed w) || s w) n ≡ true → LargestThick k n links s
largest_by_test k n links s placed good spaces peeled v lv sv thick rest = (
  ((v, lv, sv), λ w lw m. ltb-true k (neighbours_in links s w) (implied (s w) _ (below (λ x. not (s x) || ltb k (neighbours_in links s x)) n thick w lw) m)),
  λ t h w lw m. true_T (s w) (implied (outside placed w) (s w) (below (λ x. not (outside placed x) || s x) n rest w lw) (peeled_thick k n links (links_good n links good) placed spaces peeled t h w lw m)),
)

-- an order
not_dense_by_test : (k n : ℕ) (links : List Link) (order : List ℕ) → AllLinksGood n links → length order ≡ n →
    all_below (λ v. eqb (times v order) 1) n ≡ true → all_below (λ v. leb (neighbours_in links (before order v) v) k) n ≡ true → Dense k n links → ⊥
not_dense_by_test k n links order good long once few =
    ordering_not_dense k n links (links_good n links good) order
    (record {
      long = long;
      once = λ v l. eqb-true (times v order) 1 (below (λ w. eqb (times w order) 1) n once v l);
      few = λ v l. leb-true (neighbours_in links (before order v) v) k (below (λ w. leb (neighbours_in links (before order w) w) k) n few v l);
    })

hex_is_good : AllLinksGood 9 (hex_links 3 3)
unfolding hex_links passes_test
hex_is_good = good_by_test 9 (hex_links 3 3) refl

hex_is_dense : LargestThick 2 9 (hex_links 3 3) (listed (1 ∷ (2 ∷ (3 ∷ (4 ∷ (5 ∷ (7 ∷ (8 ∷ []))))))))
unfolding hex_links
hex_is_dense =
    largest_by_test 2 9 (hex_links 3 3) (listed (1 ∷ (2 ∷ (3 ∷ (4 ∷ (5 ∷ (7 ∷ (8 ∷ [])))))))) (6 ∷ (0 ∷ [])) hex_is_good (lit< tt, (lit< tt, tt)) (lit≤ tt, (lit≤ tt, tt)) 1 (lit< tt) tt refl refl

hex_is_ordered : Dense 3 9 (hex_links 3 3) → ⊥
unfolding hex_links
hex_is_ordered = not_dense_by_test 3 9 (hex_links 3 3) (4 ∷ (3 ∷ (7 ∷ (1 ∷ (8 ∷ (6 ∷ (5 ∷ (2 ∷ (0 ∷ []))))))))) hex_is_good refl refl refl

triangle_is_good : AllLinksGood 3 triangle
unfolding passes_test
triangle_is_good = good_by_test 3 triangle refl

single_is_good : AllLinksGood 1 []
single_is_good q l = absurd (omega arith)

pub worked_cases : WorkedCases
worked_cases =
    record {
      hex_good = hex_is_good;
      hex_at_2 = hex_is_dense;
      hex_at_3 = hex_is_ordered;
      triangle_good = triangle_is_good;
      triangle_at_1 = largest_by_test 1 3 triangle (listed (0 ∷ (1 ∷ (2 ∷ [])))) [] triangle_is_good tt tt 0 (lit< tt) tt refl refl;
      single_good = single_is_good;
      single_at_1 = not_dense_by_test 1 1 [] (0 ∷ []) single_is_good refl refl refl;
    }
