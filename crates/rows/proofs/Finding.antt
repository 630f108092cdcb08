-- The steps of a search along the rows, and what it has shown when it ends.
use Rattle.std.proofs.Common.{◌≡◌, ℕ, zero, suc, ◌+◌, ◌<◌, ◌≤◌, Bool, true, false, not, ◌&&◌, eqb, ltb, ◌⊎◌, List, length, get_or, set, Decides, sym, refl, ap, ◌∙◌, inl, inr, arith}
use Rattle.std.specs.List.{ContainsAt}
use Rattle.std.proofs.lemmas.List.{get_or-set_same, get_or-set_other}
use Rattle.std.proofs.lemmas.Bool.{cases_eq, both_ways, and_from, and_parts, lt-ltb, ltb-true, ne_eqb}
use Rattle.maps.specs.Links.{Link}
use Rattle.maps.specs.Marks.{marked}
use Rattle.maps.specs.Sets.{Spaces, size}
use Rattle.crowding.specs.Capacity.{total}
use Rattle.crowding.specs.Orientation.{Rows, Oriented}
use Rattle.crowding.specs.Reach.{Reach, at_u, at_v, on}
use Rattle.crowding.specs.Turning.{Turning}
use Rattle.rows.specs.Search.{among, Search, Grown, Spread}
use Rattle.crowding.proofs.Sums.{bit, total_but, total_le}
use Rattle.crowding.proofs.Uniform.{size_total}

-- how many a set has

total_ones : (n : ℕ) → total (λ _. 1) n ≡ n
total_ones zero = refl
total_ones (suc n) = omega (arith, total_ones n)

bit_le : (b : Bool) → bit b ≤ 1
bit_le true = omega arith
bit_le false = omega arith

pub size_le : (n : ℕ) (S : Spaces) → size n S ≤ n
size_le n S = omega (arith, size_total n S, total_ones n, total_le (λ v. bit (S v)) (λ _. 1) n (λ v l. bit_le (S v)))

total_none : (n : ℕ) (S : Spaces) → ((x : ℕ) → x < n → S x ≡ false) → total (λ v. bit (S v)) n ≡ 0
total_none zero S h = refl
total_none (suc n) S h = omega (arith, total_none n S (λ x l. h x (omega arith)), ap bit (h n (omega arith)))

size_none : (n : ℕ) (S : Spaces) → ((x : ℕ) → x < n → S x ≡ false) → size n S ≡ 0
size_none n S h = size_total n S ∙ total_none n S h

pub size_more : (n : ℕ) (S S' : Spaces) (c : ℕ) → c < n → S c ≡ false → S' c ≡ true → ((x : ℕ) → (x ≡ c → ⊥) → S' x ≡ S x) → size n S' ≡ size n S + 1
size_more n S S' c l e e' h =
    omega (arith, size_total n S, size_total n S', total_but (λ v. bit (S' v)) (λ v. bit (S v)) n c (λ v k ne. ap bit (h v ne)) l, ap bit e, ap bit e')

-- a search that has found nothing
pub search_none : (n : ℕ) (row : Rows) (S : Spaces) (queue parent turn : ℕ → ℕ) → ((x : ℕ) → S x ≡ false) → Search n row S queue parent turn 0
search_none n row S queue parent turn h =
    record {
      count = size_none n S (λ x l. h x);
      inside = λ x e. absurd (both_ways (S x) (h x) e);
      listed = λ i l. absurd (omega arith);
      noted = λ x e. absurd (both_ways (S x) (h x) e);
      back = λ x e. absurd (both_ways (S x) (h x) e);
    }

-- one space more
module _
    (n : ℕ) (row : Rows) (S S' : Spaces) (queue queue' parent parent' turn turn' : ℕ → ℕ) (tail c p : ℕ)
    (s : Search n row S queue parent turn tail) (c_in : c < n) (fresh : S c ≡ false)
    (now_c : S' c ≡ true) (else_S : (x : ℕ) → (x ≡ c → ⊥) → S' x ≡ S x)
    (now_q : queue' tail ≡ c) (else_q : (i : ℕ) → (i ≡ tail → ⊥) → queue' i ≡ queue i)
    (now_parent : parent' c ≡ p) (else_parent : (x : ℕ) → (x ≡ c → ⊥) → parent' x ≡ parent x)
    (now_turn : turn' c ≡ tail) (else_turn : (x : ℕ) → (x ≡ c → ⊥) → turn' x ≡ turn x)
    (why : (tail < 2) ⊎ ((S p ≡ true) × ContainsAt (row p) c)) where
  not_c : (x : ℕ) → S x ≡ true → x ≡ c → ⊥
  not_c x e q = both_ways (S c) fresh (rw q at e)

  pub room_left : tail < n
  room_left = omega (arith, size_more n S S' c c_in fresh now_c else_S, size_le n S', s.count)

  kept : (x : ℕ) → S x ≡ true → S' x ≡ true
  kept x e = else_S x (not_c x e) ∙ e

  pub grown_more : Grown S S' queue queue' tail (tail + 1)
  grown_more = record { more = omega arith; kept = kept; order = λ i l. else_q i (λ e. omega arith) }

  turn_old : (x : ℕ) → S x ≡ true → turn' x ≡ turn x
  turn_old x e = else_turn x (not_c x e)

  pub search_more : Search n row S' queue' parent' turn' (tail + 1)
  search_more =
      record {
        count = omega (arith, size_more n S S' c c_in fresh now_c else_S, s.count);
        inside = λ x e. elim (cases_eq x c) [ inl q ↦ rw q c_in | inr ne ↦ s.inside x (sym (else_S x ne) ∙ e) ];
        listed = λ i l. elim (cases_eq i tail) [
          | inl q ↦ rw (q, now_q) (now_c, now_turn)
          | inr ne ↦
              let h = s.listed i (omega arith) in
              rw (else_q i ne) (kept (queue i) h.0, turn_old (queue i) h.0 ∙ h.1)
        ];
        noted = λ x e. elim (cases_eq x c) [
          | inl q ↦ rw (q, now_turn) (omega arith, now_q)
          | inr ne ↦
              let h = s.noted x (sym (else_S x ne) ∙ e) in
              rw (else_turn x ne) (omega (arith, h.0), else_q (turn x) (λ k. omega (arith, h.0)) ∙ h.1)
        ];
        back = λ x e. elim (cases_eq x c) [
          | inl q ↦ elim why [
            | inl few ↦ inl (rw (q, now_turn) few)
            | inr (fp, has) ↦ inr (rw (q, now_parent, now_turn) (kept p fp, rw (turn_old p fp) (s.noted p fp).0, has))
          ]
          | inr ne ↦
              let old : S x ≡ true = sym (else_S x ne) ∙ e in
              elim (s.back x old) [
                | inl few ↦ inl (rw (else_turn x ne) few)
                | inr (fp, lt, has) ↦ inr (rw (else_parent x ne, else_turn x ne) (kept (parent x) fp, rw (turn_old (parent x) fp) lt, has))
              ]
        ];
      }

-- what stays when more is found
pub grown_same : (S : Spaces) (queue : ℕ → ℕ) (tail : ℕ) → Grown S S queue queue tail tail
grown_same S queue tail = record { more = omega arith; kept = λ x e. e; order = λ i l. refl }

pub grown_trans : (S S' S'' : Spaces) (queue queue' queue'' : ℕ → ℕ) (tail tail' tail'' : ℕ) → Grown S S' queue queue' tail tail' → Grown S' S'' queue' queue'' tail' tail'' → Grown S S'' queue queue'' tail tail''
grown_trans S S' S'' queue queue' queue'' tail tail' tail'' g h =
    record {
      more = omega (arith, g.more, h.more);
      kept = λ x e. h.kept x (g.kept x e);
      order = λ i l. h.order i (omega (arith, g.more)) ∙ g.order i l;
    }

pub spread_grown : (k : ℕ) (row : Rows) (S S' : Spaces) (queue queue' : ℕ → ℕ) (head tail tail' : ℕ) → head ≤ tail → Grown S S' queue queue' tail tail' → Spread k row S queue head → Spread k row S' queue' head
spread_grown k row S S' queue queue' head tail tail' le g h i l =
    rw (g.order i (omega arith)) ((h i l).0, λ c has. g.kept c ((h i l).1 c has))

-- what was found was reached
module _ (n : ℕ) (row : Rows) (S : Spaces) (queue parent turn : ℕ → ℕ) (tail a b : ℕ) (s : Search n row S queue parent turn tail) (at_0 : queue 0 ≡ a) (at_1 : queue 1 ≡ b) where
  first_two : (x : ℕ) → S x ≡ true → turn x < 2 → (x ≡ a) ⊎ (x ≡ b)
  first_two x e l =
      elim (cases_eq (turn x) 0) [
        | inl q ↦ inl (sym (s.noted x e).1 ∙ ap queue q ∙ at_0)
        | inr ne ↦ let q : turn x ≡ 1 = omega arith in inr (sym (s.noted x e).1 ∙ ap queue q ∙ at_1)
      ]

  reached_by : (m x : ℕ) → turn x < m → S x ≡ true → Reach row a b x
  reached_by zero x l e = absurd (omega arith)
  reached_by (suc m) x l e =
      elim (s.back x e) [
        | inl few ↦ elim (first_two x e few) [ inl q ↦ rw q at_u | inr q ↦ rw q at_v ]
        | inr (fp, lt, has) ↦ on (reached_by m (parent x) (omega arith) fp) has
      ]

  pub reached : (x : ℕ) → S x ≡ true → Reach row a b x
  reached x e = reached_by (suc (turn x)) x (omega arith) e

  -- where the search has gone through all that it found, it found all that is reached
  module _ (k : ℕ) (two : 2 ≤ tail) (spread : Spread k row S queue tail) where
    full_at : (x : ℕ) → S x ≡ true → (length (row x) ≡ k) × ((c : ℕ) → ContainsAt (row x) c → S c ≡ true)
    full_at x e = let h = spread (turn x) (s.noted x e).0 in rw (s.noted x e).1 at h

    all_found : (x : ℕ) → Reach row a b x → S x ≡ true
    all_found _ at_u = rw at_0 at (s.listed 0 (omega arith)).0
    all_found _ at_v = rw at_1 at (s.listed 1 (omega arith)).0
    all_found _ (on {x} {y} r has) = (full_at x (all_found x r)).1 y has

    pub settles : (x : ℕ) → Decides (S x) (Reach row a b x)
    settles x = (reached x, all_found x)

    pub all_full : (x : ℕ) → Reach row a b x → length (row x) ≡ k
    all_full x r = (full_at x (all_found x r)).0

  -- a free cell that was found is on its way back
  pub turning : (cap : ℕ → ℕ) (links : List Link) → Oriented cap n row links → (w : ℕ) → S w ≡ true → length (row w) < cap w → Turning cap n links a b S parent turn row w
  turning cap links o w e free =
      record {
        board = o;
        here = e;
        free = free;
        inside = s.inside;
        back = λ x fx l. elim (s.back x fx) [ inl few ↦ inl (first_two x fx few) | inr h ↦ inr h ];
      }

-- marks

module _ (n : ℕ) (m : List ℕ) where
  pub among_in : (x : ℕ) → among n m x ≡ true → x < n
  among_in x e = ltb-true x n (and_parts (ltb x n) (marked m x) e).0

  module _ (c : ℕ) (c_in : c < n) (long : c < length m) where
    pub among_new : among n (set m c 1) c ≡ true
    among_new = and_from (ltb c n) (marked (set m c 1) c) (lt-ltb c n c_in) (ap not (ne_eqb (get_or (set m c 1) c 0) 0 (λ e. omega (arith, get_or-set_same m c 1 0 long))))

    pub among_else : (x : ℕ) → (x ≡ c → ⊥) → among n (set m c 1) x ≡ among n m x
    among_else x ne = ap (λ (y : ℕ). ltb x n && not (eqb y 0)) (get_or-set_other m c x 1 0 ne)

-- no more are found than there are
pub tail_le : (n : ℕ) (row : Rows) (S : Spaces) (queue parent turn : ℕ → ℕ) (tail : ℕ) → Search n row S queue parent turn tail → tail ≤ n
tail_le n row S queue parent turn tail s = omega (arith, s.count, size_le n S)
