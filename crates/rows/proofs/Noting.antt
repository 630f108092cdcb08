-- One space noted, in lists.
use Rattle.std.proofs.Common.{◌≡◌, ℕ, ◌+◌, ◌<◌, ◌≤◌, true, false, cond, ltb, ◌⊎◌, List, length, set, sym, ap, ◌∙◌, subst, arith}
use Rattle.std.specs.List.{ContainsAt}
use Rattle.std.proofs.lemmas.List.{length-map, get_or-set_same, get_or-set_other}
use Rattle.std.proofs.lemmas.Bool.{cond-true, lt-ltb}
use Rattle.maps.specs.declared.marks.Marks.{Marks}
use Rattle.crowding.specs.Orientation.{Rows}
use Rattle.maps.specs.Past.{SameFrom}
use Rattle.rows.specs.Search.{among, nth, Search, Grown}
use Rattle.maps.specs.Searching.{MarksOf, SameMarks}
use Rattle.rows.specs.Steps.{seen, Searching, Noted, Kept, WentOn}
use Rattle.rows.specs.View.{queues, parents, turns, rows_of, queue_of, parent_of, turn_of, Ready}
use Rattle.rows.specs.declared.memory.Memory.{Memory}
use Rattle.maps.proofs.Past.{past_write}
use Rattle.rows.proofs.Ghosts.{ready_written, rows_same}
use Rattle.rows.proofs.Finding.{size_more, size_le, search_more, grown_more, among_new, among_else}

nth_same : (q q' : List ℕ) (i x : ℕ) → i < length q → q' ≡ set q i x → nth q' i ≡ x
nth_same q q' i x l e = ap (λ (l : List ℕ). nth l i) e ∙ get_or-set_same q i x 0 l

nth_else : (q q' : List ℕ) (i x : ℕ) → q' ≡ set q i x → (j : ℕ) → (j ≡ i → ⊥) → nth q' j ≡ nth q j
nth_else q q' i x e j ne = ap (λ (l : List ℕ). nth l j) e ∙ get_or-set_other q i j x 0 ne

module _
    (n : ℕ) (row : Rows) (m q pr tn : List ℕ) (tail x : ℕ) (s : Search n row (among n m) (nth q) (nth pr) (nth tn) tail)
    (x_in : x < n) (x_long : n ≤ length m) (fresh : among n m x ≡ false) where
  -- where some space is not yet found, there is a place for it in the queue
  pub tail_in : tail < n
  tail_in = omega (arith, size_more n (among n m) (among n (set m x 1)) x x_in fresh (among_new n m x x_in (omega arith)) (among_else n m x x_in (omega arith)), size_le n (among n (set m x 1)), s.count)

  module _ (m' : List ℕ) (em : m' ≡ set m x 1) where
    pub noted_here : among n m' x ≡ true
    noted_here = ap (λ (l : List ℕ). among n l x) em ∙ among_new n m x x_in (omega arith)

    noted_else : (y : ℕ) → (y ≡ x → ⊥) → among n m' y ≡ among n m y
    noted_else y ne = ap (λ (l : List ℕ). among n l y) em ∙ among_else n m x x_in (omega arith) y ne

    module _
        (q' pr' tn' : List ℕ) (p : ℕ) (q_long : n ≤ length q) (pr_long : n ≤ length pr) (tn_long : n ≤ length tn)
        (eq : q' ≡ set q tail x) (epr : pr' ≡ set pr x p) (etn : tn' ≡ set tn x tail) (why : (tail < 2) ⊎ ((among n m p ≡ true) × ContainsAt (row p) x)) where
      pub noted_search : Search n row (among n m') (nth q') (nth pr') (nth tn') (tail + 1)
      noted_search =
          search_more n row (among n m) (among n m') (nth q) (nth q') (nth pr) (nth pr') (nth tn) (nth tn') tail x p s x_in fresh
          noted_here noted_else
          (nth_same q q' tail x (omega (arith, tail_in)) eq) (nth_else q q' tail x eq)
          (nth_same pr pr' x p (omega arith) epr) (nth_else pr pr' x p epr)
          (nth_same tn tn' x tail (omega arith) etn) (nth_else tn tn' x tail etn)
          why

      pub noted_grown : Grown (among n m) (among n m') (nth q) (nth q') tail (tail + 1)
      noted_grown =
          grown_more n row (among n m) (among n m') (nth q) (nth q') (nth pr) (nth pr') (nth tn) (nth tn') tail x p s x_in fresh
          noted_here noted_else
          (nth_same q q' tail x (omega (arith, tail_in)) eq) (nth_else q q' tail x eq)
          (nth_same pr pr' x p (omega arith) epr) (nth_else pr pr' x p epr)
          (nth_same tn tn' x tail (omega arith) etn) (nth_else tn tn' x tail etn)
          why

    pub noted_past : SameFrom n m m'
    noted_past = subst (λ (l : List ℕ). SameFrom n m l) (sym em) (past_write n m x 1 x_in)

-- what marking a space below n writes
pub marked_so : (n n' x : ℕ) (m m' : List ℕ) → n' ≡ n → x < n → m' ≡ cond (ltb x n') (set m x 1) m → m' ≡ set m x 1
marked_so n n' x m m' e l h = h ∙ cond-true (ltb x n') (set m x 1) m (lt-ltb x n' (omega arith))

-- marks for each space, some steps on
marked_kept : {m m' : Memory} {a b : Marks} → Kept m m' a b → MarksOf m.n a → MarksOf m'.n b
marked_kept p h = (omega (arith, p.n, h.0, p.lent.same.n), omega (arith, p.n, p.lent.bytes.len, h.1))

-- one space noted, in memory
module _ {m : Memory} {marks : Marks} {tail : ℕ} (r : Ready m) (s : Searching m marks tail) (x : ℕ) (x_in : x < m.n) (fresh : seen m marks x ≡ false) where
  pub tail_space : tail < m.n
  tail_space = tail_in m.n (rows_of m) marks.bytes.now (queues m.records.now) (parents m.records.now) (turns m.records.now) tail x s.search x_in s.marked.1 fresh

  module _ {m' : Memory} {p : ℕ} (e : Noted m m' tail x p) where
    pub noted_ready : Ready m'
    noted_ready = ready_written m m' m.table.now e.n e.k (e.past m.n tail_space x_in).len e.table r r.sound

    module _
        (marks' : Marks) (same : SameMarks marks marks')
        (em : marks'.bytes.now ≡ cond (ltb x marks.n) (set marks.bytes.now x 1) marks.bytes.now)
        (why : (tail < 2) ⊎ ((seen m marks p ≡ true) × ContainsAt (rows_of m p) x)) where
      is : marks'.bytes.now ≡ set marks.bytes.now x 1
      is = marked_so m.n marks.n x marks.bytes.now marks'.bytes.now s.marked.0 x_in em

      q_long : m.n ≤ length (queues m.records.now)
      q_long = omega (arith, length-map m.records.now (λ r. r.queue), r.room)

      pr_long : m.n ≤ length (parents m.records.now)
      pr_long = omega (arith, length-map m.records.now (λ r. r.parent), r.room)

      tn_long : m.n ≤ length (turns m.records.now)
      tn_long = omega (arith, length-map m.records.now (λ r. r.turn), r.room)

      kept : Kept m m' marks marks'
      kept =
          record {
            n = e.n;
            k = e.k;
            table = e.table;
            records = e.past m.n tail_space x_in;
            lent = record {
              same = same;
              bytes = noted_past m.n (rows_of m) marks.bytes.now (queues m.records.now) (parents m.records.now) (turns m.records.now) tail x s.search x_in s.marked.1 fresh marks'.bytes.now is;
            };
          }

      found : Search m.n (rows_of m) (seen m marks') (queue_of m') (parent_of m') (turn_of m') (tail + 1)
      found =
          noted_search m.n (rows_of m) marks.bytes.now (queues m.records.now) (parents m.records.now) (turns m.records.now) tail x s.search x_in s.marked.1 fresh marks'.bytes.now is
          (queues m'.records.now) (parents m'.records.now) (turns m'.records.now) p q_long pr_long tn_long e.queue e.parent e.turn why

      -- all that is kept of the search
      pub noted : Kept m m' marks marks' × Searching m' marks' (tail + 1) × WentOn m m' marks marks' tail (tail + 1) × (seen m marks' x ≡ true)
      noted = (
        kept,
        record {
          marked = marked_kept kept s.marked;
          search = subst (λ (n : ℕ). Search n (rows_of m') (among n marks'.bytes.now) (queue_of m') (parent_of m') (turn_of m') (tail + 1)) (sym e.n)
              (subst (λ (w : Rows). Search m.n w (seen m marks') (queue_of m') (parent_of m') (turn_of m') (tail + 1)) (sym (rows_same m m' e.k e.table)) found);
        },
        noted_grown m.n (rows_of m) marks.bytes.now (queues m.records.now) (parents m.records.now) (turns m.records.now) tail x s.search x_in s.marked.1 fresh marks'.bytes.now is
            (queues m'.records.now) (parents m'.records.now) (turns m'.records.now) p q_long pr_long tn_long e.queue e.parent e.turn why,
        noted_here m.n (rows_of m) marks.bytes.now (queues m.records.now) (parents m.records.now) (turns m.records.now) tail x s.search x_in s.marked.1 fresh marks'.bytes.now is,
      )
