-- The places of an order, and the table filled link by link.
use Rattle.std.proofs.Common.{◌≡◌, ℕ, zero, suc, ◌+◌, ◌*◌, ◌<◌, ◌≤◌, eqb, leb, ◌⊎◌, List, [], ◌∷◌, ◌++◌, length, get_or, take, set, replicate, count_by, sym, refl, ap, ◌∙◌, subst, inl, inr, mul-le-mul_right, arith}
use Rattle.std.specs.List.{AllByRecursion}
use Rattle.std.proofs.lemmas.List.{take_more, take_all, length-set, length-replicate, get_or-set_same, get_or-set_other, get_or-replicate}
use Rattle.std.proofs.lemmas.List.Sums.{sum_by-take-le, sum_by-cons}
use Rattle.std.proofs.ByRecursion.{All-get_or}
use Rattle.std.proofs.lemmas.Bool.{cases_eq, cases_lt, cases_order, eq-eqb, ne_eqb, le-leb, lt-leb}
use Rattle.maps.specs.Links.{Link}
use Rattle.maps.specs.Density.{joins_in, neighbours_in}
use Rattle.maps.specs.LinkChecks.{GoodLinks}
use Rattle.survey.specs.Orders.{times, place, before, Ordering}
use Rattle.survey.specs.Tables.{Table}
use Rattle.survey.specs.Filling.{earlier_ends, Entered}
use Rattle.survey.specs.Walk.{Filled, Placed}
use Rattle.survey.proofs.Counts.{bit, total}
use Rattle.survey.proofs.Places.{place_at, place_apart}
use Rattle.survey.proofs.Cells.{nowhere_else}
use Rattle.survey.proofs.Build.{ends_at}
use Rattle.survey.proofs.Rows.{entering, entering_none, entered_table}

-- an ordering has nothing but spaces below n

split_total : (n : ℕ) (xs : List ℕ) → total (λ v. times v xs) n + count_by (leb n) xs ≡ length xs
split_total n [] = zeros n
  where
    zeros : (m : ℕ) → total (λ _. 0) m + 0 ≡ 0
    zeros zero = refl
    zeros (suc m) = omega (arith, zeros m)
split_total n (x ∷ xs) = omega (arith, split_total n xs, add n, sum_by-cons (λ y. bit (leb n y)) x xs, one n)
  where
    add : (m : ℕ) → total (λ v. times v (x ∷ xs)) m ≡ total (λ v. bit (eqb x v)) m + total (λ v. times v xs) m
    add zero = refl
    add (suc m) = omega (arith, add m, sum_by-cons (λ y. bit (eqb y m)) x xs)

    one : (m : ℕ) → total (λ v. bit (eqb x v)) m + bit (leb m x) ≡ 1
    one zero = omega (arith, ap bit (le-leb 0 x (omega arith)))
    one (suc m) =
        elim (cases_order x m) [
          | inl q ↦ omega (arith, one m, ap bit (le-leb m x (omega arith)), ap bit (eq-eqb x m q), ap bit (lt-leb (suc m) x (omega arith)))
          | inr (inl b) ↦ omega (arith, one m, ap bit (lt-leb m x b), ap bit (ne_eqb x m (λ e. omega arith)), ap bit (lt-leb (suc m) x (omega arith)))
          | inr (inr b) ↦ omega (arith, one m, ap bit (le-leb m x (omega arith)), ap bit (ne_eqb x m (λ e. omega arith)), ap bit (le-leb (suc m) x (omega arith)))
        ]

total_ones : (f : ℕ → ℕ) (n : ℕ) → ((v : ℕ) → v < n → f v ≡ 1) → total f n ≡ n
total_ones f zero h = refl
total_ones f (suc n) h = omega (arith, total_ones f n (λ v l. h v (omega arith)), h n (omega arith))

none_above : (n : ℕ) (xs : List ℕ) → count_by (leb n) xs ≡ 0 → AllByRecursion (λ v. v < n) xs
none_above n [] e = tt
none_above n (x ∷ xs) e =
    elim (cases_lt x n) [
      | inl l ↦ (l, none_above n xs (omega (arith, sum_by-cons (λ y. bit (leb n y)) x xs)))
      | inr l ↦ absurd (omega (arith, sum_by-cons (λ y. bit (leb n y)) x xs, ap bit (le-leb n x l)))
    ]

module _ {k n : ℕ} {links : List Link} {order : List ℕ} (o : Ordering k n links order) where
  pub ordering_in : AllByRecursion (λ v. v < n) order
  ordering_in = none_above n order (omega (arith, split_total n order, total_ones (λ v. times v order) n o.once, o.long))

  pub at_in : (i : ℕ) → i < n → get_or order i 0 < n
  at_in i l = All-get_or (λ v. v < n) order i 0 (omega (arith, o.long)) ordering_in

  apart : (i j : ℕ) → i < n → j < n → (i ≡ j → ⊥) → get_or order i 0 ≡ get_or order j 0 → ⊥
  apart i j li lj ne e = ne (nowhere_else order 0 (get_or order j 0) (omega (arith, o.once (get_or order j 0) (at_in j lj))) i j (omega (arith, o.long)) (omega (arith, o.long)) e refl)

  pub places_more : (places : List ℕ) (i : ℕ) → length places ≡ n → i < n → ((j : ℕ) → j < i → get_or places (get_or order j 0) 0 ≡ j) → (j : ℕ) → j < i + 1 → get_or (set places (get_or order i 0) i) (get_or order j 0) 0 ≡ j
  places_more places i wide l h j lj =
      elim (cases_eq j i) [
        | inl q ↦ rw q (get_or-set_same places (get_or order i 0) i 0 (omega (arith, at_in i l)))
        | inr ne ↦ get_or-set_other places (get_or order i 0) (get_or order j 0) i 0 (apart j i (omega arith) l ne) ∙ h j (omega arith)
      ]

  pub places_all : (places : List ℕ) (i : ℕ) → length places ≡ n → n ≤ i → ((j : ℕ) → j < i → get_or places (get_or order j 0) 0 ≡ j) → Placed n order places
  places_all places i wide l h =
      record {
        wide = wide;
        all = λ v lv.
            let (lp, e) = place_at order v (omega (arith, o.once v lv)) in
            ap (λ (x : ℕ). get_or places x 0) (sym e) ∙ h (place order v) (omega (arith, o.long));
      }

  -- one link more

  module _ (g : GoodLinks n links) {table count : List ℕ} {i : ℕ} (s : Filled k n links order table count i) (l : i < length links) where
    pub fill_step : (a b : ℕ) → (get_or links i (0, 0) ≡ (a, b)) ⊎ (get_or links i (0, 0) ≡ (b, a)) → b < n → (a ≡ b → ⊥) → place order a < place order b →
        (get_or count b 0 < k) × (b * k + get_or count b 0 < length table) ×
        Filled k n links order (set table (b * k + get_or count b 0) a) (set count b (get_or count b 0 + 1)) (i + 1)
    fill_step a b is lb ne up =
        let m : Link = get_or links i (0, 0) in
        let front : take (i + 1) links ≡ take i links ++ m ∷ [] = take_more links i (0, 0) l in
        let here : get_or count b 0 ≡ length (earlier_ends order b (take i links)) = s.counts b lb in
        let few : neighbours_in (take i links ++ m ∷ []) (before order b) b ≤ k =
        omega (arith, ap (λ (xs : List Link). neighbours_in xs (before order b) b) front, sum_by-take-le (λ x. bit (joins_in (before order b) b x)) links (i + 1), o.few b lb) in
        let (room, on, up') = entering k n order (take i links) table s.entered m a b is lb ne up few in
        let cells : b * k + length (earlier_ends order b (take i links)) ≡ b * k + get_or count b 0 = omega arith in (
          omega arith,
          omega (arith, s.entered.long, mul-le-mul_right k lb),
          record {
            entered = subst (λ (xs : List Link). Entered k n order xs (set table (b * k + get_or count b 0) a)) (sym front) (subst (λ (x : ℕ). Entered k n order (take i links ++ m ∷ []) (set table x a)) cells on);
            wide = length-set count b (get_or count b 0 + 1) ∙ s.wide;
            counts = λ v lv. elim (cases_eq v b) [
              | inl q ↦ rw q (get_or-set_same count b (get_or count b 0 + 1) 0 (omega (arith, s.wide)) ∙ omega (arith, up' b, ap bit (eq-eqb b b refl), ap (λ (xs : List Link). length (earlier_ends order b xs)) front))
              | inr nb ↦ get_or-set_other count b v (get_or count b 0 + 1) 0 nb ∙ omega (arith, s.counts v lv, up' v, ap bit (ne_eqb v b nb), ap (λ (xs : List Link). length (earlier_ends order v xs)) front)
            ];
          },
        )

-- an empty table
pub filled_none : (k n : ℕ) (links : List Link) (order table count : List ℕ) (m p : ℕ) → table ≡ replicate m 65535 → m ≡ n * k → count ≡ replicate p 0 → p ≡ n → Filled k n links order table count 0
filled_none k n links order table count m p e long f wide =
    record {
      entered = subst (λ (t : List ℕ). Entered k n order (take 0 links) t) (sym (e ∙ ap (λ (x : ℕ). replicate x 65535) long)) (entering_none k n order);
      wide = ap length f ∙ (length-replicate p 0 ∙ wide);
      counts = λ v l. ap (λ (xs : List ℕ). get_or xs v 0) f ∙ get_or-replicate p v 0 0 (omega arith);
    }

pub filled_all : {k n m : ℕ} {links : List Link} {order table count : List ℕ} {i : ℕ} → n ≡ m → n ≤ 65535 → GoodLinks n links → Ordering k n links order → length links ≤ i → Filled k n links order table count i → Table k m links order table
filled_all {k} {n} {m} {links} {order} {table} {count} {i} e small g o l s =
    subst (λ (x : ℕ). Table k x links order table) e
    (entered_table k n links g small order table o (subst (λ (xs : List Link). Entered k n order xs table) (take_all i links l) s.entered))

-- what the code asks at a row, and where it then stands
pub record Turn (k n : ℕ) (links : List Link) (order table count : List ℕ) (i v w : ℕ) : Type 0 where
  pub asked : (v < length count) × (v * k + get_or count v 0 < length table) × (get_or count v 0 < k) × (k ≤ 8) × (v < 4096)
  pub after : Filled k n links order (set table (v * k + get_or count v 0) w) (set count v (get_or count v 0 + 1)) (i + 1)

module _ {k n m : ℕ} {links : List Link} {order places table count : List ℕ} {i : ℕ} (same : m ≡ n) (g : GoodLinks n links) (o : Ordering k n links order) (narrow : k ≤ 8) (small : n ≤ 4096) (p : Placed m order places) (l : i < length links) (s : Filled k n links order table count i) where
  place_of : (v : ℕ) → v < n → get_or places v 0 ≡ place order v
  place_of v lv = p.all v (omega arith)

  turn : (v w : ℕ) → (get_or links i (0, 0) ≡ (w, v)) ⊎ (get_or links i (0, 0) ≡ (v, w)) → v < n → w < n → (w ≡ v → ⊥) → get_or places w 0 < get_or places v 0 → Turn k n links order table count i v w
  turn v w is lv lw ne up =
      let t = fill_step o g s l w v is lv ne (omega (arith, place_of v lv, place_of w lw)) in
      record { asked = (omega (arith, s.wide), t.1, t.0, narrow, omega arith); after = t.2 }

  pub turn_then : get_or places (get_or links i (0, 0)).0 0 < get_or places (get_or links i (0, 0)).1 0 → Turn k n links order table count i (get_or links i (0, 0)).1 (get_or links i (0, 0)).0
  turn_then up = let e = ends_at i g l in turn (get_or links i (0, 0)).1 (get_or links i (0, 0)).0 (inl refl) e.1 e.0 e.2 up

  pub turn_else : get_or places (get_or links i (0, 0)).1 0 ≤ get_or places (get_or links i (0, 0)).0 0 → Turn k n links order table count i (get_or links i (0, 0)).0 (get_or links i (0, 0)).1
  turn_else up =
      let e = ends_at i g l in
      let a : ℕ = (get_or links i (0, 0)).0 in
      let b : ℕ = (get_or links i (0, 0)).1 in
      let ne : get_or places b 0 ≡ get_or places a 0 → ⊥ = λ q. e.2 (place_apart order a b (omega (arith, o.once a e.0)) (omega (arith, o.once b e.1)) (omega (arith, place_of a e.0, place_of b e.1))) in
      turn a b (inr refl) e.0 e.1 (λ q. e.2 (sym q)) (elim (cases_order (get_or places b 0) (get_or places a 0)) [ inl q ↦ absurd (ne q) | inr (inl x) ↦ x | inr (inr x) ↦ absurd (omega arith) ])
