-- What a search keeps from step to step, and one cell of a row.
use Rattle.std.proofs.Common.{◌≡◌, ℕ, ◌+◌, ◌*◌, ◌<◌, ◌≤◌, Bool, true, ◌&&◌, ltb, List, length, get_or, Decides, sym, refl, ap, ◌∙◌, subst, inl, inr, arith}
use Rattle.std.specs.List.{ContainsAt}
use Rattle.std.proofs.lemmas.List.{get_or-map}
use Rattle.std.proofs.lemmas.Bool.{cases_eq}
use Rattle.maps.specs.Links.{Link}
use Rattle.maps.specs.Marks.{marked}
use Rattle.maps.specs.declared.marks.Marks.{Marks}
use Rattle.crowding.specs.Orientation.{Rows, Oriented}
use Rattle.crowding.specs.Reach.{Reach}
use Rattle.crowding.proofs.Tables.{row_full, row_has}
use Rattle.rows.specs.Keeping.{Keeps, SameShape}
use Rattle.maps.specs.Searching.{StillLent}
use Rattle.maps.specs.Past.{SameFrom}
use Rattle.rows.specs.Search.{among, Grown, Spread}
use Rattle.rows.specs.Sound.{cell, Sound}
use Rattle.rows.specs.Steps.{Kept, Searching, WentOn, SpreadOut, ReadTo, Stuck}
use Rattle.rows.specs.View.{rows_of, queue_of, queued, parent_of, turn_of, Ready}
use Rattle.rows.specs.declared.memory.Memory.{Memory}
use Rattle.rows.specs.declared.memory.SpaceRecord.{SpaceRecord}
use Rattle.maps.proofs.Repeating.{lent_trans}
use Rattle.maps.proofs.Past.{past_same, past_trans, past_at}
use Rattle.rows.proofs.Finding.{grown_trans, among_in, spread_grown, tail_le}
use Rattle.rows.proofs.Ghosts.{keeps_at, rows_same}
use Rattle.rows.proofs.Table.{row_in, row_cell}

pub kept_same : (m : Memory) (marks : Marks) → Kept m m marks marks
kept_same m marks =
    record {
      n = refl;
      k = refl;
      table = refl;
      records = past_same m.n m.records.now;
      lent = record { same = record { n = refl; same = refl }; bytes = past_same m.n marks.bytes.now };
    }

pub kept_trans : {m m' m'' : Memory} {a b c : Marks} → Kept m m' a b → Kept m' m'' b c → Kept m m'' a c
kept_trans {m} {m'} {m''} {a} {b} {c} p q =
    record {
      n = q.n ∙ p.n;
      k = q.k ∙ p.k;
      table = q.table ∙ p.table;
      records = past_trans m.n m.records.now m'.records.now m''.records.now p.records (subst (λ (n : ℕ). SameFrom n m'.records.now m''.records.now) p.n q.records);
      lent = lent_trans p.lent (subst (λ (n : ℕ). StillLent n b c) p.n q.lent);
    }

pub ready_kept : {m m' : Memory} {a b : Marks} → Kept m m' a b → Ready m → Ready m'
ready_kept {m} {m'} p r =
    record {
      sound = subst (λ (n : ℕ). Sound n m'.k m'.table.now) (sym p.n)
          (subst (λ (k : ℕ). Sound m.n k m'.table.now) (sym p.k) (subst (λ (t : List ℕ). Sound m.n m.k t) (sym p.table) r.sound));
      room = omega (arith, p.n, p.records.len, r.room);
    }

pub rows_kept : {m m' : Memory} {a b : Marks} → Kept m m' a b → rows_of m' ≡ rows_of m
rows_kept {m} {m'} p = rows_same m m' p.k p.table

-- a search leaves the links, and the shape
pub keeps_kept : {m m' : Memory} {a b : Marks} → Kept m m' a b → (links : List Link) → Keeps m links → Keeps m' links
keeps_kept {m} {m'} p links h =
    keeps_at m' m.n m.k links p.n p.k (subst (λ (w : Rows). Oriented (λ _. m.k) m.n w links) (sym (rows_kept p)) h)

pub stuck_kept : {m m' : Memory} {x y : Marks} → Kept m m' x y → (a b : ℕ) → Stuck m' y a b → Stuck m y a b
stuck_kept {m} {m'} {x} {y} p a b s =
    let e : rows_of m' ≡ rows_of m = rows_kept p in
    record {
      reached = λ z. subst (λ (n : ℕ). Decides (among n y.bytes.now z) (Reach (rows_of m) a b z)) p.n
          (subst (λ (w : Rows). Decides (among m'.n y.bytes.now z) (Reach w a b z)) e (s.reached z));
      full = λ z h. ap (λ (w : Rows). length (w z)) (sym e) ∙ s.full z (subst (λ (w : Rows). Reach w a b z) (sym e) h) ∙ p.k;
    }

pub shape_searched : {m m' : Memory} {a b : Marks} → Kept m m' a b → Ready m' → SameShape m m'
shape_searched {m} p r =
    record {
      n = p.n;
      k = p.k;
      records = p.records;
      sound = r.sound;
      past = subst (λ (t : List ℕ). SameFrom (m.n * m.k) m.table.now t) (sym p.table) (past_same (m.n * m.k) m.table.now);
    }

pub shape_kept : {m m' m'' : Memory} {a b : Marks} → Kept m m' a b → SameShape m' m'' → SameShape m m''
shape_kept {m} {m'} {m''} p q =
    record {
      n = q.n ∙ p.n;
      k = q.k ∙ p.k;
      records = past_trans m.n m.records.now m'.records.now m''.records.now p.records (subst (λ (n : ℕ). SameFrom n m'.records.now m''.records.now) p.n q.records);
      sound = q.sound;
      past = past_at (m'.n * m'.k) (m.n * m.k) m'.table.now m.table.now m''.table.now (ap (λ (x : ℕ). x * m'.k) p.n ∙ ap (λ (x : ℕ). m.n * x) p.k) p.table q.past;
    }

pub went_on_trans
    : {m m' m'' : Memory} {a b c : Marks} {t t' t'' : ℕ} → Kept m m' a b → Kept m' m'' b c → WentOn m m' a b t t' → WentOn m' m'' b c t' t'' → WentOn m m'' a c t t''
went_on_trans {m} {m'} {m''} {a} {b} {c} {t} {t'} {t''} p _ g h =
    grown_trans (among m.n a.bytes.now) (among m.n b.bytes.now) (among m.n c.bytes.now) (queue_of m) (queue_of m') (queue_of m'') t t' t'' g
    (subst (λ (n : ℕ). Grown (among n b.bytes.now) (among n c.bytes.now) (queue_of m') (queue_of m'') t' t'') p.n h)

-- the cell at place j of a row v that was found, some steps on
module _ {m m' : Memory} {a b : Marks} (kept : Kept m m' a b) (r : Ready m) (v j : ℕ) (j_in : j < m.k) (found : among m.n a.bytes.now v ≡ true) where
  abbrev c : ℕ
  c = get_or m'.table.now (v * m.k + j) 0

  pub v_in : v < m.n
  v_in = among_in m.n a.bytes.now v found

  pub row_long : v * m.k + m.k ≤ length m.table.now
  row_long = row_in m.n m.k (length m.table.now) v r.sound.long v_in

  pub same_cell : c ≡ cell m.k m.table.now v j
  same_cell = ap (λ (t : List ℕ). get_or t (v * m.k + j) 0) kept.table

  pub cell_at : v * m.k + j < length m'.table.now
  cell_at = omega (arith, ap (λ (t : List ℕ). length t) kept.table, row_long)

  -- an empty cell is a free one
  pub cell_free : c ≡ 65535 → length (rows_of m v) < m.k
  cell_free e = (row_full m.k m.table.now v row_long).1 j j_in (sym same_cell ∙ e)

  -- what the guard tells of it
  pub cell_seen : (g : ℕ) (ok : Bool) → g ≡ m'.n → ok ≡ (ltb c g && marked b.bytes.now c) → among m'.n b.bytes.now c ≡ ok
  cell_seen g ok e h = ap (λ (n : ℕ). among n b.bytes.now c) (sym e) ∙ sym h

  module _ (some : c ≡ 65535 → ⊥) where
    pub cell_some : cell m.k m.table.now v j ≡ 65535 → ⊥
    cell_some e = some (same_cell ∙ e)

    named : cell m.k m.table.now v j < m.n
    named = r.sound.named v j v_in j_in cell_some

    pub cell_in : c < m'.n
    cell_in = omega (arith, named, same_cell, kept.n)

    pub cell_why : (t t' : ℕ) → WentOn m m' a b t t' → (among m'.n b.bytes.now v ≡ true) × ContainsAt (rows_of m' v) c
    cell_why t t' on = (
      ap (λ (n : ℕ). among n b.bytes.now v) kept.n ∙ on.kept v found,
      subst (λ (w : Rows). ContainsAt (w v) c) (sym (rows_kept kept)) ((row_has m.k m.table.now v c row_long some).0 j j_in (sym same_cell)),
    )

    -- the set at the first n, at the cell as it was
    pub cell_then : (x : Marks) → among m'.n x.bytes.now c ≡ true → (cell m.k m.table.now v j ≡ 65535 → ⊥) × (among m.n x.bytes.now (cell m.k m.table.now v j) ≡ true)
    cell_then x e = (cell_some, ap (λ (y : ℕ). among m.n x.bytes.now y) (sym same_cell) ∙ ap (λ (n : ℕ). among n x.bytes.now c) (sym kept.n) ∙ e)

-- what was read stays found
pub read_on
    : {m m' m'' : Memory} {a b c : Marks} (v j : ℕ) {t t' : ℕ} → Kept m m' a b → Kept m' m'' b c → WentOn m' m'' b c t t' → ReadTo m b v j → ReadTo m c v j
read_on {m} {m'} {m''} {a} {b} {c} v j p _ g h i l =
    ((h i l).0, subst (λ (n : ℕ). among n b.bytes.now (cell m.k m.table.now v i) ≡ true → among n c.bytes.now (cell m.k m.table.now v i) ≡ true) p.n (g.kept (cell m.k m.table.now v i)) (h i l).1)

-- what the record at place i has as the i-th found
pub queue_at : (m : Memory) (i : ℕ) → i < length m.records.now → queue_of m i ≡ queued m i
queue_at m i l = get_or-map (λ (r : SpaceRecord). r.queue) m.records.now i (record { parent = 0; queue = 0; turn = 0 }) 0 l

-- one space more is gone through
module _
    {m m' : Memory} {a b : Marks} (kept : Kept m m' a b) (r : Ready m) (head v t t' : ℕ) (head_in : head < t) (here : queue_of m head ≡ v)
    (v_in : v < m.n) (on : WentOn m m' a b t t') (all : ReadTo m b v m.k) (old : SpreadOut m a head) where
  row' : v * m.k + m.k ≤ length m.table.now
  row' = row_in m.n m.k (length m.table.now) v r.sound.long v_in

  one : (length (rows_of m v) ≡ m.k) × ((c : ℕ) → ContainsAt (rows_of m v) c → among m.n b.bytes.now c ≡ true)
  one = (
    (row_full m.k m.table.now v row').0 (λ i l. (all i l).0),
    λ c h. let (j, lj, e) = row_cell m.k m.table.now v c row' h in subst (λ (y : ℕ). among m.n b.bytes.now y ≡ true) e (all j lj).1,
  )

  spread' : Spread m.k (rows_of m) (among m.n b.bytes.now) (queue_of m') (head + 1)
  spread' i l =
      elim (cases_eq i head) [
        | inl q ↦ subst (λ (y : ℕ). (length (rows_of m y) ≡ m.k) × ((c : ℕ) → ContainsAt (rows_of m y) c → among m.n b.bytes.now c ≡ true)) (sym (ap (queue_of m') q ∙ on.order head head_in ∙ here)) one
        | inr ne ↦ spread_grown m.k (rows_of m) (among m.n a.bytes.now) (among m.n b.bytes.now) (queue_of m) (queue_of m') head t t' (omega arith) on old i (omega arith)
      ]

  pub spread_more : SpreadOut m' b (head + 1)
  spread_more =
      subst (λ (n : ℕ). Spread m'.k (rows_of m') (among n b.bytes.now) (queue_of m') (head + 1)) (sym kept.n)
      (subst (λ (w : Rows). Spread m'.k w (among m.n b.bytes.now) (queue_of m') (head + 1)) (sym (rows_kept kept))
      (subst (λ (k : ℕ). Spread k (rows_of m) (among m.n b.bytes.now) (queue_of m') (head + 1)) (sym kept.k) spread'))

-- the space v at `head` of the queue, some steps on
module _ {m₀ m : Memory} {a₀ a : Marks} (kept : Kept m₀ m a₀ a) (r : Ready m₀) (tail : ℕ) (s : Searching m a tail) where
  pub tail_small : tail ≤ m₀.n
  tail_small = omega (arith, tail_le m.n (rows_of m) (among m.n a.bytes.now) (queue_of m) (parent_of m) (turn_of m) tail s.search, kept.n)

  pub tail_room : tail ≤ length m.records.now
  tail_room = omega (arith, tail_small, (ready_kept kept r).room, kept.n)

  module _ (head v : ℕ) (lt : head < tail) (is : v ≡ queued m head) where
    pub head_here : queue_of m head ≡ v
    head_here = queue_at m head (omega (arith, tail_room)) ∙ sym is

    pub head_found : among m.n a.bytes.now v ≡ true
    head_found = subst (λ (y : ℕ). among m.n a.bytes.now y ≡ true) head_here (s.search.listed head lt).0

    pub head_space : v < m.n
    head_space = among_in m.n a.bytes.now v head_found

-- a space that was found and has a free cell, some steps on
pub found_free
    : {m m' : Memory} {a b : Marks} → Kept m m' a b → (v t t' : ℕ) → WentOn m m' a b t t' → among m.n a.bytes.now v ≡ true → length (rows_of m v) < m.k
    → (among m'.n b.bytes.now v ≡ true) × (length (rows_of m' v) < m'.k)
found_free {m} {m'} {a} {b} p v t t' g e free =
    (ap (λ (n : ℕ). among n b.bytes.now v) p.n ∙ g.kept v e, omega (arith, ap (λ (w : Rows). length (w v)) (rows_kept p), p.k))
