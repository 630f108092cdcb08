-- Placing one space: its links are walked along their chain.
use Rattle.std.proofs.Common.{◌≡◌, ℕ, zero, suc, ◌+◌, ◌-◌, ◌<◌, ◌≤◌, Bool, true, false, ◌&&◌, ◌||◌, eqb, leb, List, [], ◌∷◌, length, get_or, drop, set, count_by, Some, sym, refl, ap, ◌∙◌, subst, inl, inr, arith}
use Rattle.std.specs.List.{AllByRecursion}
use Rattle.std.proofs.lemmas.List.{drop-drop, get_or-drop, drop-set, drop-set-lt, drop_more, drop_all, length-set, length-drop, get_or-set_same, get_or-set_other}
use Rattle.std.proofs.lemmas.List.Sums.{sum_by-take-drop, sum_by-cons}
use Rattle.std.proofs.ByRecursion.{All-get_or}
use Rattle.std.proofs.lemmas.Bool.{cases_eq, cases_Bool, cases_lt, eq-eqb, ne_eqb, le-leb, lt-leb, leb-true}
use Rattle.std.proofs.lemmas.Bool.Decides.{nat_tests}
use Rattle.maps.proofs.Repeating.{same_of, same_not, round_step}
use Rattle.maps.specs.declared.chains.Chained.{Chained}
use Rattle.maps.specs.Links.{Link, same}
use Rattle.maps.specs.Density.{joins_in, neighbours_in}
use Rattle.maps.specs.LinkChecks.{GoodLinks}
use Rattle.maps.specs.Chains.{other, touches, Next, StepsRound}
use Rattle.survey.specs.Orders.{times}
use Rattle.survey.specs.Filling.{outside, Peeled}
use Rattle.survey.specs.Walk.{Work, Lower}
use Rattle.survey.proofs.Counts.{bit, times_yes, times_no, count_no, list_total, total_tight}

-- n spaces are not listed while one is missing
pub room_left : (n : ℕ) (xs : List ℕ) → AllByRecursion (λ v. v < n) xs → ((v : ℕ) → v < n → times v xs ≤ 1) → (v : ℕ) → v < n → times v xs ≡ 0 → length xs < n
room_left n xs a h v l e =
    elim (cases_lt (length xs) n) [
      | inl b ↦ b
      | inr b ↦ absurd (omega (arith, total_tight (λ w. times w xs) n h (omega (arith, list_total n xs a)) v l))
    ]

pub bit_le_one : (b : Bool) → bit b ≤ 1
bit_le_one true = omega arith
bit_le_one false = omega arith

quiet_count : (links : List Link) (v x c m : ℕ) → c + m ≤ length links → ((j : ℕ) → c ≤ j → j < c + m → touches v (get_or links j (0, 0)) ≡ false) → count_by (same (v, x)) (drop c links) ≡ count_by (same (v, x)) (drop (c + m) links)
quiet_count links v x c zero l h = ap (λ (i : ℕ). count_by (same (v, x)) (drop i links)) (let e : c ≡ c + 0 = omega arith in e)
quiet_count links v x c (suc m) l h =
    let e : (c + m) + 1 ≡ c + suc m = omega arith in
    quiet_count links v x c m (omega arith) (λ j a b. h j a (omega arith))
    ∙ (ap (count_by (same (v, x))) (drop_more links (c + m) (0, 0) (omega arith))
    ∙ (count_no (same (v, x)) (get_or links (c + m) (0, 0)) (drop (c + m + 1) links) (same_not (get_or links (c + m) (0, 0)).0 (get_or links (c + m) (0, 0)).1 v x (h (c + m) (omega arith) (omega arith)))
    ∙ ap (λ (i : ℕ). count_by (same (v, x)) (drop i links)) e))

pub next_count : (links : List Link) (v c p : ℕ) → Next links v c p → (x : ℕ) → count_by (same (v, x)) (drop c links) ≡ count_by (same (v, x)) (drop p links)
next_count links v c p h x =
    let e : c + (p - c) ≡ p = omega (arith, h.low) in
    quiet_count links v x c (p - c) (omega (arith, h.high)) (λ j a b. h.quiet j a (omega arith))
    ∙ ap (λ (i : ℕ). count_by (same (v, x)) (drop i links)) e

module _ (n : ℕ) (links : List Link) (g : GoodLinks n links) where
  module _ (c : ℕ) (c_in : c < length links) (v : ℕ) (t : touches v (get_or links c (0, 0)) ≡ true) where
    one_more : (x : ℕ) → count_by (same (v, x)) (drop c links) ≡ count_by (same (v, x)) (drop (c + 1) links) + bit (eqb x (other v (get_or links c (0, 0))))
    one_more x =
        omega (
          arith,
          ap (count_by (same (v, x))) (drop_more links c (0, 0) c_in),
          sum_by-cons (λ l. bit (same (v, x) l)) (get_or links c (0, 0)) (drop (c + 1) links),
          ap bit (same_of (get_or links c (0, 0)).0 (get_or links c (0, 0)).1 v x t),
        )

    pub other_in : other v (get_or links c (0, 0)) < n
    other_in =
        let o = All-get_or (λ l. (l.0 < n) × (l.1 < n) × (l.0 ≡ l.1 → ⊥)) links c (0, 0) c_in g.ends in
        grind (arith, o.0, o.1)

  -- one step of the walk
  module _ (k : ℕ) (v : ℕ) (placed order degree : List ℕ) (settled queued c : ℕ) (c_in : c < length links) (s : Lower k n links v placed order degree settled queued c) (p : ℕ) (on : Next links v (c + 1) p) (w : ℕ) (is : w ≡ other v (get_or links c (0, 0))) where
    touch : touches v (get_or links c (0, 0)) ≡ true
    touch = s.here c_in

    counted : (x : ℕ) → count_by (same (v, x)) (drop c links) ≡ count_by (same (v, x)) (drop p links) + bit (eqb x w)
    counted x = omega (arith, one_more c c_in v touch x, next_count links v (c + 1) p on x, ap (λ (y : ℕ). bit (eqb x y)) is)

    pub w_in : w < n
    w_in = omega (arith, other_in c c_in v touch)

    -- the degree of w counts the link
    pub some : 1 ≤ get_or degree w 0
    some = omega (arith, s.free w w_in, counted w, ap bit (eq-eqb w w refl))

    abbrev pub lowered : List ℕ
    lowered = set degree w (get_or degree w 0 - 1)

    lowered_here : get_or lowered w 0 ≡ get_or degree w 0 - 1
    lowered_here = get_or-set_same degree w (get_or degree w 0 - 1) 0 (omega (arith, w_in, s.queue.wide))

    lowered_else : (x : ℕ) → (x ≡ w → ⊥) → get_or lowered x 0 ≡ get_or degree x 0
    lowered_else x ne = get_or-set_other degree w x (get_or degree w 0 - 1) 0 ne

    free_on : (x : ℕ) → x < n → get_or lowered x 0 ≡ neighbours_in links (outside (v ∷ placed)) x + count_by (same (v, x)) (drop p links)
    free_on x l =
        elim (cases_eq x w) [
          | inl q ↦ rw q (omega (arith, lowered_here, some, s.free w w_in, counted w, ap bit (eq-eqb w w refl)))
          | inr ne ↦ omega (arith, lowered_else x ne, s.free x l, counted x, ap bit (ne_eqb x w ne))
        ]

    wide_on : length lowered ≡ n
    wide_on = length-set degree w (get_or degree w 0 - 1) ∙ s.queue.wide

    -- w stays where it was
    pub stays : (get_or degree w 0 - 1 ≡ k → ⊥) → Lower k n links v placed order lowered settled queued p
    stays ne =
        record {
          queue = record {
            long = s.queue.long;
            wide = wide_on;
            low = s.queue.low;
            spaces = s.queue.spaces;
            seen = λ x l. elim (cases_eq x w) [
              | inl q ↦ rw q (s.queue.seen w w_in ∙ ap bit (alike (get_or degree w 0) (get_or lowered w 0) some lowered_here ne))
              | inr nx ↦ s.queue.seen x l ∙ ap (λ (d : ℕ). bit (leb d k)) (sym (lowered_else x nx))
            ];
          };
          low = s.low;
          kept = s.kept;
          free = free_on;
          within = on.high;
          here = on.here;
        }
      where
        alike : (d e : ℕ) → 1 ≤ d → e ≡ d - 1 → (d - 1 ≡ k → ⊥) → leb d k ≡ leb e k
        alike d e h i j = grind (arith, nat_tests)

    -- w joins the queue
    module _ (falls : get_or degree w 0 - 1 ≡ k) where
      missing : times w (drop queued order) ≡ 0
      missing = s.queue.seen w w_in ∙ ap bit (lt-leb (get_or degree w 0) k (omega (arith, some)))

      pub room : 0 < queued
      room = omega (
        arith,
        length-drop queued order,
        s.queue.long,
        room_left n (drop queued order) s.queue.spaces (λ x l. omega (arith, s.queue.seen x l, bit_le_one (leb (get_or degree x 0) k))) w w_in missing,
      )

      pushed : drop (queued - 1) (set order (queued - 1) w) ≡ w ∷ drop queued order
      pushed =
          let e : queued - 1 + 1 ≡ queued = omega (arith, room) in
          drop-set order (queued - 1) w (omega (arith, room, s.queue.low, s.queue.long)) ∙ ap (λ (i : ℕ). w ∷ drop i order) e

      pub joins : Lower k n links v placed (set order (queued - 1) w) lowered settled (queued - 1) p
      joins =
          record {
            queue = record {
              long = length-set order (queued - 1) w ∙ s.queue.long;
              wide = wide_on;
              low = omega (arith, s.queue.low);
              spaces = subst (λ (xs : List ℕ). AllByRecursion (λ x. x < n) xs) (sym pushed) (w_in, s.queue.spaces);
              seen = λ x l. ap (times x) pushed ∙ elim (cases_eq x w) [
                | inl q ↦ rw q (times_yes w (drop queued order) ∙ (ap suc missing ∙ ap bit (sym (le-leb (get_or lowered w 0) k (omega (arith, lowered_here))))))
                | inr nx ↦ times_no w x (drop queued order) nx ∙ (s.queue.seen x l ∙ ap (λ (d : ℕ). bit (leb d k)) (sym (lowered_else x nx)))
              ];
            };
            low = omega (arith, s.low);
            kept = drop-set-lt settled order (queued - 1) w (omega (arith, room, s.low)) ∙ s.kept;
            free = free_on;
            within = on.high;
            here = on.here;
          }

-- the start and the end of the walk

times_part : (xs : List ℕ) (i j w : ℕ) → i ≤ j → times w (drop j xs) ≤ times w (drop i xs)
times_part xs i j w l =
    let e : i + (j - i) ≡ j = omega arith in
    omega (arith, sum_by-take-drop (λ x. bit (eqb x w)) (drop i xs) (j - i), ap (times w) (drop-drop (j - i) i xs), ap (λ (m : ℕ). times w (drop m xs)) e)

-- a space that is placed takes its links with it
taken_of : (c d v w : ℕ) (sc sd tc td : Bool) → (c ≡ d → ⊥) → ((c ≡ v) → (sc ≡ true) × (tc ≡ false)) → ((d ≡ v) → (sd ≡ true) × (td ≡ false)) → ((c ≡ v → ⊥) → sc ≡ tc) → ((d ≡ v → ⊥) → sd ≡ td) →
    bit ((eqb c w && sd) || (eqb d w && sc)) ≡ bit ((eqb c w && td) || (eqb d w && tc)) + bit ((eqb v c && eqb w d) || (eqb v d && eqb w c))
taken_of c d v w sc sd tc td apart hc hd nc nd = grind (arith, nat_tests)

module _ (n : ℕ) (v w : ℕ) (placed : List ℕ) (none : times v placed ≡ 0) where
  out_here : (x : ℕ) → x ≡ v → (outside placed x ≡ true) × (outside (v ∷ placed) x ≡ false)
  out_here x q = (eq-eqb _ 0 (ap (λ (y : ℕ). times y placed) q ∙ none), ne_eqb _ 0 (λ e. omega (arith, times_yes v placed, ap (λ (y : ℕ). times y (v ∷ placed)) q)))

  out_else : (x : ℕ) → (x ≡ v → ⊥) → outside placed x ≡ outside (v ∷ placed) x
  out_else x ne = ap (λ (m : ℕ). eqb m 0) (sym (times_no v x placed ne))

  taken : (links : List Link) → AllByRecursion (λ l. (l.0 < n) × (l.1 < n) × (l.0 ≡ l.1 → ⊥)) links → neighbours_in links (outside placed) w ≡ neighbours_in links (outside (v ∷ placed)) w + count_by (same (v, w)) links
  taken [] a = refl
  taken (l ∷ links) a =
      omega (
        arith,
        taken links a.1,
        sum_by-cons (λ m. bit (joins_in (outside placed) w m)) l links,
        sum_by-cons (λ m. bit (joins_in (outside (v ∷ placed)) w m)) l links,
        sum_by-cons (λ m. bit (same (v, w) m)) l links,
        taken_of l.0 l.1 v w (outside placed l.0) (outside placed l.1) (outside (v ∷ placed) l.0) (outside (v ∷ placed) l.1) a.0.2 (out_here l.0) (out_here l.1) (out_else l.0) (out_else l.1),
      )

module _ (k n : ℕ) (links : List Link) (g : GoodLinks n links) (order degree : List ℕ) (settled queued : ℕ) where
  module _ (s : Work k n links order degree (settled + 1) queued) (low : queued ≤ settled) where
    v : ℕ
    v = get_or order settled 0

    opened : drop settled order ≡ v ∷ drop (settled + 1) order
    unfolding v
    opened = drop_more order settled 0 (omega (arith, s.high, s.queue.long))

    pub settled_in : get_or order settled 0 < n
    settled_in =
        let i : queued + (settled - queued) ≡ settled = omega arith in
        let e : get_or (drop queued order) (settled - queued) 0 ≡ get_or order settled 0 = get_or-drop queued order (settled - queued) 0 ∙ ap (λ (j : ℕ). get_or order j 0) i in
        omega (arith, All-get_or (λ x. x < n) (drop queued order) (settled - queued) 0 (omega (arith, length-drop queued order, s.queue.long, s.high)) s.queue.spaces)

    unplaced : times v (drop (settled + 1) order) ≡ 0
    unfolding v
    unplaced = omega (arith, times_part order queued settled v low, ap (times v) opened, times_yes v (drop (settled + 1) order), s.queue.seen v settled_in, bit_le_one (leb (get_or degree v 0) k))

    pub lower_start : (c : ℕ) → Next links (get_or order settled 0) 0 c → Lower k n links (get_or order settled 0) (drop (settled + 1) order) order degree settled queued c
    unfolding v
    lower_start c b =
        record {
          queue = s.queue;
          low = low;
          kept = opened;
          free = λ w l. omega (arith, s.free w l, taken n v w (drop (settled + 1) order) unplaced links g.ends, next_count links v 0 c b w);
          within = b.high;
          here = b.here;
        }

  pub lower_end : (v : ℕ) (placed : List ℕ) → v < n → Peeled k links placed → settled ≤ n → (c : ℕ) → length links ≤ c → Lower k n links v placed order degree settled queued c → Work k n links order degree settled queued
  lower_end v placed lv p high c end s =
      let now : (w : ℕ) → w < n → get_or degree w 0 ≡ neighbours_in links (outside (v ∷ placed)) w = λ w l. omega (arith, s.free w l, ap (count_by (same (v, w))) (drop_all c links end)) in
      let few : get_or degree v 0 ≤ k = elim (cases_Bool (leb (get_or degree v 0) k)) [
        | inl e ↦ leb-true (get_or degree v 0) k e
        | inr e ↦ absurd (omega (arith, s.queue.seen v lv, ap bit e, times_part order queued settled v s.low, ap (times v) s.kept, times_yes v placed))
      ] in
      record {
        queue = s.queue;
        low = s.low;
        high = high;
        free = λ w l. now w l ∙ ap (λ (xs : List ℕ). neighbours_in links (outside xs) w) (sym s.kept);
        peeled = subst (λ (xs : List ℕ). Peeled k links xs) (sym s.kept) (omega (arith, now v lv), p);
      }

-- one turn, from what the code knows
pub lower_step : {k n : ℕ} {links : List Link} {v : ℕ} {placed order degree : List ℕ} {settled queued c w p : ℕ} →
    GoodLinks n links → Lower k n links v placed order degree settled queued c → c < length links →
    w ≡ other v (get_or links c (0, 0)) → Next links v (c + 1) p →
    (w < n) × (1 ≤ get_or degree w 0) ×
    (get_or degree w 0 - 1 ≡ k → (1 ≤ queued) × Lower k n links v placed (set order (queued - 1) w) (set degree w (get_or degree w 0 - 1)) settled (queued - 1) p) ×
    ((get_or degree w 0 - 1 ≡ k → ⊥) → Lower k n links v placed order (set degree w (get_or degree w 0 - 1)) settled queued p)
lower_step {k} {n} {links} {v} {placed} {order} {degree} {settled} {queued} {c} {w} {p} g s l e on = (
  w_in n links g k v placed order degree settled queued c l s p on w e,
  some n links g k v placed order degree settled queued c l s p on w e,
  (λ h. (room n links g k v placed order degree settled queued c l s p on w e h, joins n links g k v placed order degree settled queued c l s p on w e h)),
  stays n links g k v placed order degree settled queued c l s p on w e,
)

-- the same, from what the walk tells
pub lower_told : {k n : ℕ} {ch it : Chained} {u v : ℕ} {placed order degree : List ℕ} {settled queued : ℕ} (at to p w : ℕ) →
    GoodLinks n ch.links.now → it ≡ ch → u ≡ v → Lower k n ch.links.now v placed order degree settled queued at → StepsRound it.links.now u at (Some (p, w)) to →
    (w < n) × (1 ≤ get_or degree w 0) ×
    (get_or degree w 0 - 1 ≡ k → (1 ≤ queued) × Lower k n ch.links.now v placed (set order (queued - 1) w) (set degree w (get_or degree w 0 - 1)) settled (queued - 1) to) ×
    ((get_or degree w 0 - 1 ≡ k → ⊥) → Lower k n ch.links.now v placed order (set degree w (get_or degree w 0 - 1)) settled queued to)
lower_told at to p w g e f s step =
    let told = round_step at to (Some (p, w)) e f step in
    lower_step g s told.0 told.2 told.3
