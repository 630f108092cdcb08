-- The degrees and the first queue; and what the end of the work gives.
use Rattle.std.proofs.Common.{◌≡◌, ℕ, zero, suc, ◌+◌, ◌-◌, ◌<◌, ◌≤◌, Bool, true, false, ◌&&◌, ◌||◌, eqb, ltb, leb, List, [], ◌∷◌, length, get_or, take, drop, set, sym, refl, ap, ◌∙◌, subst, inl, inr, arith}
use Rattle.std.specs.List.{AllByRecursion}
use Rattle.std.proofs.lemmas.List.{drop_all, take_all, drop-set, length-set, length-take, length-drop, get_or-set_same, get_or-set_other}
use Rattle.std.proofs.lemmas.List.Sums.{sum_by_more, count_by-le-length}
use Rattle.std.proofs.ByRecursion.{All-get_or}
use Rattle.std.proofs.lemmas.Bool.{cases_eq, eqb-true, eq-eqb, ne_eqb, le-leb, lt-leb, lt-ltb, le-ltb, and_left, and_right, and_from, ltb-true}
use Rattle.std.proofs.lemmas.Bool.Decides.{nat_tests}
use Rattle.maps.specs.Links.{Link}
use Rattle.maps.specs.Density.{joins_in, neighbours_in, LargestThick}
use Rattle.maps.specs.LinkChecks.{GoodLinks}
use Rattle.survey.specs.Orders.{times, Ordering}
use Rattle.survey.specs.Filling.{outside, Peeled}
use Rattle.survey.specs.Walk.{Queue, Work, Degrees, Seeding}
use Rattle.maps.proofs.Good.{T_true, true_T}
use Rattle.survey.proofs.Counts.{bit, times_yes, times_no, largest, neighbours_le, list_total, total}
use Rattle.survey.proofs.Peeling.{peeled_thick, peeled_ordering, all_listed}
use Rattle.survey.proofs.Walk.{bit_le_one}

-- degrees

joins_all : (c d v : ℕ) → (c ≡ d → ⊥) → bit ((eqb c v && true) || (eqb d v && true)) ≡ bit (eqb v c) + bit (eqb v d)
joins_all c d v apart = grind (arith, nat_tests)

add_at : (n : ℕ) (xs : List ℕ) (a v : ℕ) → length xs ≡ n → a < n → get_or (set xs a (get_or xs a 0 + 1)) v 0 ≡ get_or xs v 0 + bit (eqb v a)
add_at n xs a v wide l =
    elim (cases_eq v a) [
      | inl q ↦ rw q (get_or-set_same xs a (get_or xs a 0 + 1) 0 (omega arith) ∙ omega (arith, ap bit (eq-eqb a a refl)))
      | inr ne ↦ get_or-set_other xs a v (get_or xs a 0 + 1) 0 ne ∙ omega (arith, ap bit (ne_eqb v a ne))
    ]

pub degrees_more : {n : ℕ} {links : List Link} {degree : List ℕ} (i : ℕ) → GoodLinks n links → i < length links → Degrees n (take i links) degree →
    let a : ℕ = (get_or links i (0, 0)).0 in
    let b : ℕ = (get_or links i (0, 0)).1 in
    let once : List ℕ = set degree a (get_or degree a 0 + 1) in
    Degrees n (take (i + 1) links) (set once b (get_or once b 0 + 1))
degrees_more {n} {links} {degree} i g l h =
    let a : ℕ = (get_or links i (0, 0)).0 in
    let b : ℕ = (get_or links i (0, 0)).1 in
    let once : List ℕ = set degree a (get_or degree a 0 + 1) in
    let ends = All-get_or (λ m. (m.0 < n) × (m.1 < n) × (m.0 ≡ m.1 → ⊥)) links i (0, 0) l g.ends in
    let wide : length once ≡ n = length-set degree a (get_or degree a 0 + 1) ∙ h.wide in
    record {
      wide = length-set once b (get_or once b 0 + 1) ∙ wide;
      all = λ v lv. omega (arith, add_at n once b v wide ends.1, add_at n degree a v h.wide ends.0, h.all v lv, sum_by_more (λ m. bit (joins_in (outside []) v m)) links i (0, 0) l, joins_all a b v ends.2);
    }

pub degree_le : (n i : ℕ) (links : List Link) (degree : List ℕ) → Degrees n (take i links) degree → (v : ℕ) → v < n → get_or degree v 0 ≤ length (take i links)
degree_le n i links degree h v l = omega (arith, h.all v l, count_by-le-length (joins_in (outside []) v) (take i links))

-- the first queue

pub seeding_none : (k n : ℕ) (order degree : List ℕ) → length order ≡ n → Seeding k n order degree n 0
seeding_none k n order degree long =
    let none : drop n order ≡ [] = drop_all n order (omega arith) in
    record {
      long = long;
      low = omega arith;
      room = omega arith;
      spaces = subst (λ (xs : List ℕ). AllByRecursion (λ w. w < n) xs) (sym none) tt;
      seen = λ w l. ap (times w) none ∙ ap bit (sym (and_left _ _ (le-ltb w 0 (omega arith))));
    }

seen_same : (w v : ℕ) (b : Bool) → (w ≡ v → ⊥) → (ltb w v && b) ≡ (ltb w (v + 1) && b)
seen_same w v b ne = grind (arith, nat_tests)

pub seeding_skip : {k n : ℕ} {order degree : List ℕ} {queued v : ℕ} → k < get_or degree v 0 → Seeding k n order degree queued v → Seeding k n order degree queued (v + 1)
seeding_skip {k} {n} {order} {degree} {queued} {v} above s =
    record {
      long = s.long;
      low = s.low;
      room = omega (arith, s.room);
      spaces = s.spaces;
      seen = λ w l. s.seen w l ∙ ap bit (elim (cases_eq w v) [
        | inl q ↦ let no_more : leb (get_or degree w 0) k ≡ false = lt-leb (get_or degree w 0) k (omega (arith, ap (λ (x : ℕ). get_or degree x 0) q)) in and_right _ _ no_more ∙ sym (and_right _ _ no_more)
        | inr ne ↦ seen_same w v (leb (get_or degree w 0) k) ne
      ]);
    }

pub seeding_more : {k n : ℕ} {order degree : List ℕ} {queued v : ℕ} → v < n → get_or degree v 0 ≤ k → Seeding k n order degree queued v → (1 ≤ queued) × Seeding k n (set order (queued - 1) v) degree (queued - 1) (v + 1)
seeding_more {k} {n} {order} {degree} {queued} {v} lv below s =
    let room : 1 ≤ queued = omega (arith, s.room) in
    let e : queued - 1 + 1 ≡ queued = omega arith in
    let pushed : drop (queued - 1) (set order (queued - 1) v) ≡ v ∷ drop queued order = drop-set order (queued - 1) v (omega (arith, s.low, s.long)) ∙ ap (λ (i : ℕ). v ∷ drop i order) e in (
      room,
      record {
        long = length-set order (queued - 1) v ∙ s.long;
        low = omega (arith, s.low);
        room = omega (arith, s.room);
        spaces = subst (λ (xs : List ℕ). AllByRecursion (λ w. w < n) xs) (sym pushed) (lv, s.spaces);
        seen = λ w l. ap (times w) pushed ∙ elim (cases_eq w v) [
          | inl q ↦ omega (
            arith,
            ap (λ (x : ℕ). times x (v ∷ drop queued order)) q,
            times_yes v (drop queued order),
            ap (λ (x : ℕ). times x (drop queued order)) q,
            s.seen w l,
            ap bit (and_left (ltb w v) (leb (get_or degree w 0) k) (le-ltb w v (omega arith))),
            ap bit (and_from (ltb w (v + 1)) (leb (get_or degree w 0) k) (lt-ltb w (v + 1) (omega arith)) (le-leb (get_or degree w 0) k (omega (arith, ap (λ (x : ℕ). get_or degree x 0) q)))),
          )
          | inr ne ↦ times_no v w (drop queued order) ne ∙ (s.seen w l ∙ ap bit (seen_same w v (leb (get_or degree w 0) k) ne))
        ];
      },
    )

-- the work, at its start and at its end

pub work_start : {k n : ℕ} {links : List Link} {order degree : List ℕ} {queued : ℕ} → Degrees n links degree → Queue k n order degree queued → Work k n links order degree n queued
work_start {k} {n} {links} {order} {degree} {queued} d q =
    let none : drop n order ≡ [] = drop_all n order (omega (arith, q.long)) in
    record {
      queue = q;
      low = q.low;
      high = omega arith;
      free = λ w l. d.all w l ∙ ap (λ (xs : List ℕ). neighbours_in links (outside xs) w) (sym none);
      peeled = subst (λ (xs : List ℕ). Peeled k links xs) (sym none) tt;
    }

-- n spaces below n, each at most once, and fewer than n: one is missing
pub missing_one : (n : ℕ) (xs : List ℕ) → AllByRecursion (λ v. v < n) xs → ((v : ℕ) → v < n → times v xs ≤ 1) → length xs < n → (v : ℕ) × (v < n) × (times v xs ≡ 0)
missing_one n xs a h l =
    elim (largest (λ v. eqb (times v xs) 0) (λ v. v) n) [
      | inr (v, lv, e, _) ↦ (v, lv, eqb-true (times v xs) 0 e)
      | inl none ↦ absurd (omega (arith, list_total n xs a, sum_ones (λ v. times v xs) n (λ v lv. elim (cases_eq (times v xs) 0) [ inl q ↦ absurd (none v lv (eq-eqb (times v xs) 0 q)) | inr ne ↦ omega arith ])))
    ]
  where
    sum_ones : (f : ℕ → ℕ) (n : ℕ) → ((v : ℕ) → v < n → 1 ≤ f v) → n ≤ total f n
    sum_ones f zero h = omega arith
    sum_ones f (suc n) h = omega (arith, sum_ones f n (λ v l. h v (omega arith)), h n (omega arith))

module _ {k n : ℕ} {links : List Link} {order degree : List ℕ} {at : ℕ} (g : GoodLinks n links) (s : Work k n links order degree at at) where
  at_most : (v : ℕ) → v < n → times v (drop at order) ≤ 1
  at_most v l = omega (arith, s.queue.seen v l, bit_le_one (leb (get_or degree v 0) k))

  pub work_ordering : at ≡ 0 → Ordering k n links order
  work_ordering e =
      let whole : drop at order ≡ order = ap (λ (i : ℕ). drop i order) e in
      peeled_ordering k n links g order s.queue.long
      (all_listed n order s.queue.long (subst (λ (xs : List ℕ). AllByRecursion (λ v. v < n) xs) whole s.queue.spaces) (λ v l. omega (arith, at_most v l, ap (times v) whole)))
      (subst (λ (xs : List ℕ). Peeled k links xs) whole s.peeled)

  left : (v : ℕ) → v < n → ltb k (get_or degree v 0) ≡ outside (drop at order) v
  left v l = agree (get_or degree v 0) k (times v (drop at order)) (s.queue.seen v l)
    where
      agree : (d k t : ℕ) → t ≡ bit (leb d k) → ltb k d ≡ eqb t 0
      agree d k t e = grind (arith, nat_tests)

  pub work_dense : 0 < at → LargestThick k n links (λ v. ltb k (get_or degree v 0))
  work_dense l = (
    (
      (let (v, lv, e) = missing_one n (drop at order) s.queue.spaces at_most (omega (arith, length-drop at order, s.queue.long, s.high)) in
          (v, lv, true_T _ (left v lv ∙ eq-eqb (times v (drop at order)) 0 e))),
      λ v lv m. omega (
        arith,
        ltb-true k (get_or degree v 0) (T_true _ m),
        s.free v lv,
        neighbours_le n v links g.ends (outside (drop at order)) (λ w. ltb k (get_or degree w 0)) (λ w lw _ o. left w lw ∙ o),
      ),
    ),
    λ t h w lw m. true_T _ (left w lw ∙ T_true _ (peeled_thick k n links g (drop at order) s.queue.spaces s.peeled t h w lw m)),
  )

pub ends_at : {n : ℕ} {links : List Link} (i : ℕ) → GoodLinks n links → i < length links → ((get_or links i (0, 0)).0 < n) × ((get_or links i (0, 0)).1 < n) × ((get_or links i (0, 0)).0 ≡ (get_or links i (0, 0)).1 → ⊥)
ends_at {n} {links} i g l = All-get_or (λ m. (m.0 < n) × (m.1 < n) × (m.0 ≡ m.1 → ⊥)) links i (0, 0) l g.ends

-- the same number of spaces, said in another way
pub good_at : {n m : ℕ} {links : List Link} → n ≡ m → GoodLinks n links → GoodLinks m links
good_at {n} {m} {links} e g = subst (λ (x : ℕ). GoodLinks x links) e g

-- a degree is at most the number of links, with one end of the next link entered or none
pub degree_fits : {n : ℕ} {links : List Link} {degree : List ℕ} (i : ℕ) → GoodLinks n links → length links ≤ 32768 → i < length links → Degrees n (take i links) degree →
    (get_or degree (get_or links i (0, 0)).0 0 ≤ 32768) × (get_or (set degree (get_or links i (0, 0)).0 (get_or degree (get_or links i (0, 0)).0 0 + 1)) (get_or links i (0, 0)).1 0 ≤ 32768)
degree_fits {n} {links} {degree} i g few l h =
    let ends = ends_at i g l in
    let a : ℕ = (get_or links i (0, 0)).0 in
    let b : ℕ = (get_or links i (0, 0)).1 in (
      omega (arith, degree_le n i links degree h a ends.0, length-take i links),
      omega (arith, degree_le n i links degree h b ends.1, length-take i links, get_or-set_other degree a b (get_or degree a 0 + 1) 0 (λ e. ends.2 (sym e))),
    )

pub degrees_all : {n m : ℕ} {links : List Link} {degree : List ℕ} {i : ℕ} → n ≡ m → length links ≤ i → Degrees n (take i links) degree → Degrees m links degree
degrees_all {n} {m} {links} {degree} {i} e l h =
    subst (λ (x : ℕ). Degrees x links degree) e (subst (λ (xs : List Link). Degrees n xs degree) (take_all i links l) h)

pub peel_start : {k n a b : ℕ} {links : List Link} {order degree : List ℕ} {queued : ℕ} → a ≡ n → b ≡ n → Degrees a links degree → Queue k b order degree queued → Work k n links order degree n queued
peel_start {k} {n} {a} {b} {links} {order} {degree} {queued} p q d s = work_start (subst (λ (x : ℕ). Degrees x links degree) p d) (subst (λ (x : ℕ). Queue k x order degree queued) q s)

pub peel_end : {k n m : ℕ} {links : List Link} {order degree : List ℕ} {settled queued : ℕ} → n ≡ m → GoodLinks m links → settled ≤ queued → Work k n links order degree settled queued →
    (settled ≡ 0 → Ordering k m links order) × (0 < settled → LargestThick k m links (λ v. ltb k (get_or degree v 0)))
peel_end {k} {n} {m} {links} {order} {degree} {settled} {queued} e g l s =
    let same : queued ≡ settled = omega (arith, s.low) in
    let end : Work k m links order degree settled settled = subst (λ (x : ℕ). Work k x links order degree settled settled) e (subst (λ (x : ℕ). Work k n links order degree settled x) same s) in
    (work_ordering g end, work_dense g end)
