-- Memory that is in order, by the parts that a ghost field states.
use Rattle.std.proofs.Common.{◌≡◌, ◌≢◌, ℕ, ◌*◌, ◌<◌, ◌≤◌, List, length, sym, refl, ap, ◌∙◌, subst, arith}
use Rattle.maps.specs.Links.{Link}
use Rattle.crowding.specs.Orientation.{Oriented}
use Rattle.crowding.specs.Table.{table_rows}
use Rattle.rows.specs.Keeping.{Keeps, SameShape}
use Rattle.maps.specs.Past.{SameFrom}
use Rattle.rows.specs.Sound.{cell, Sound}
use Rattle.rows.specs.Steps.{SameBesideCells}
use Rattle.rows.specs.View.{rows_of, Ready, InSize, InNames, InFront}
use Rattle.maps.proofs.Past.{past_same, past_trans}
use Rattle.rows.specs.declared.link_rows.LinkRows.{LinkRows}
use Rattle.rows.specs.declared.memory.Memory.{Memory}
use Rattle.rows.specs.declared.memory.SpaceRecord.{SpaceRecord}

pub ready_by : (m : Memory) → InSize m → InNames m → InFront m → Ready m
ready_by m s n f =
    record {
      sound = record {
        small = (s.0, s.1);
        long = s.2;
        named = λ v j lv lj some. n (v, j) (lv, lj, some);
        first = λ v lv i j le lj e. f (v, i, j) (lv, le, lj, e);
      };
      room = s.3;
    }

module _ (m : Memory) (r : Ready m) where
  pub size_of : InSize m
  size_of = (r.sound.small.0, r.sound.small.1, r.sound.long, r.room)

  pub names_of : InNames m
  names_of p h = r.sound.named p.0 p.1 h.0 h.1 h.2

  pub front_of : InFront m
  front_of p h = r.sound.first p.0 h.0 p.1 p.2 h.1 h.2 h.3

pub ready_of : (r : LinkRows) → Ready r.memory
ready_of r = ready_by r.memory r.sizes r.names r.front

-- the parts, of a table that is in order
module _ (n k : ℕ) (t : List ℕ) (s : Sound n k t) where
  pub names_in : (p : ℕ × ℕ) → ((p.0 < n) × (p.1 < k) × (cell k t p.0 p.1 ≢ 65535)) → cell k t p.0 p.1 < n
  names_in p h = s.named p.0 p.1 h.0 h.1 h.2

  pub front_in : (p : ℕ × ℕ × ℕ) → ((p.0 < n) × (p.1 ≤ p.2) × (p.2 < k) × (cell k t p.0 p.1 ≡ 65535)) → cell k t p.0 p.2 ≡ 65535
  front_in p h = s.first p.0 h.0 p.1 p.2 h.1 h.2 h.3

pub ready_after : (m m' : Memory) → Ready m → SameShape m m' → Ready m'
ready_after m m' r s = record { sound = s.sound; room = omega (arith, s.records.len, s.n, r.room) }

pub shape_same : (m : Memory) → Ready m → SameShape m m
shape_same m r = record { n = refl; k = refl; records = past_same m.n m.records.now; sound = r.sound; past = past_same (m.n * m.k) m.table.now }

-- another table of the same rows
pub ready_written
    : (m m' : Memory) (t : List ℕ) → m'.n ≡ m.n → m'.k ≡ m.k → length m'.records.now ≡ length m.records.now → m'.table.now ≡ t
    → Ready m → Sound m.n m.k t → Ready m'
ready_written m m' t en ek el et r s =
    let P : ℕ → ℕ → List ℕ → Type 0 = Sound in
    record {
      sound = subst (λ (x : ℕ). P x m'.k m'.table.now) (sym en) (subst (λ (x : ℕ). P m.n x m'.table.now) (sym ek) (subst (P m.n m.k) (sym et) s));
      room = omega (arith, r.room);
    }

pub rest_trans : (m m' m'' : Memory) → SameBesideCells m m' → SameBesideCells m' m'' → SameBesideCells m m''
rest_trans m m' m'' p q =
    record {
      n = q.n ∙ p.n;
      k = q.k ∙ p.k;
      records = q.records ∙ p.records;
      past = past_trans (m.n * m.k) m.table.now m'.table.now m''.table.now p.past
          (subst (λ (x : ℕ). SameFrom (m.n * x) m'.table.now m''.table.now) p.k (subst (λ (x : ℕ). SameFrom (x * m'.k) m'.table.now m''.table.now) p.n q.past));
    }

pub shape_by : (m m' : Memory) → Ready m' → SameBesideCells m m' → SameShape m m'
shape_by m m' r p =
    record {
      n = p.n;
      k = p.k;
      records = subst (λ (l : List SpaceRecord). SameFrom m.n m.records.now l) (sym p.records) (past_same m.n m.records.now);
      sound = r.sound;
      past = p.past;
    }

-- the links of memory that has these numbers
pub keeps_at : (m : Memory) (n k : ℕ) (links : List Link) → m.n ≡ n → m.k ≡ k → Oriented (λ _. k) n (rows_of m) links → Keeps m links
keeps_at m n k links en ek o =
    subst (λ (x : ℕ). Oriented (λ _. m.k) x (rows_of m) links) (sym en) (subst (λ (x : ℕ). Oriented (λ _. x) n (rows_of m) links) (sym ek) o)

pub rows_same : (m m' : Memory) → m'.k ≡ m.k → m'.table.now ≡ m.table.now → rows_of m' ≡ rows_of m
rows_same m m' ek et = ap (λ (k : ℕ). table_rows k m'.table.now) ek ∙ ap (table_rows m.k) et
