-- What the lent memory holds, as numbers, lists and rows, and when it is in order. Assumes nothing.
use Rattle.std.specs.Prelude.{◌≡◌, ℕ, ◌*◌, ◌<◌, ◌≤◌, List, map, length, ◌≢◌, slice_index_or}
use Rattle.crowding.specs.Orientation.{Rows}
use Rattle.crowding.specs.Table.{table_rows}
use Rattle.rows.specs.Search.{nth}
use Rattle.rows.specs.Sound.{cell, Sound}
use Rattle.rows.specs.declared.memory.Memory.{Memory}
use Rattle.rows.specs.declared.memory.SpaceRecord.{SpaceRecord}

abbrev pub queues : List SpaceRecord → List ℕ
queues = map (λ r. r.queue)

abbrev pub parents : List SpaceRecord → List ℕ
parents = map (λ r. r.parent)

abbrev pub turns : List SpaceRecord → List ℕ
turns = map (λ r. r.turn)

-- the rows that the table has
abbrev pub rows_of : Memory → Rows
rows_of m = table_rows m.k m.table.now

abbrev pub queue_of : Memory → ℕ → ℕ
queue_of m = nth (queues m.records.now)

-- the same of one record
abbrev pub queued : Memory → ℕ → ℕ
queued m i = (slice_index_or m.records.now i (record { parent = 0; queue = 0; turn = 0 })).queue

abbrev pub parent_of : Memory → ℕ → ℕ
parent_of m = nth (parents m.records.now)

abbrev pub turn_of : Memory → ℕ → ℕ
turn_of m = nth (turns m.records.now)

-- the rows are in order, and there is a record for each space
pub record Ready (m : Memory) : Type 0 where
  pub sound : Sound m.n m.k m.table.now
  pub room : m.n ≤ length m.records.now

-- the same in parts, each with few binders, as a ghost field wants them
abbrev pub InSize : Memory → Type 0
InSize m = (m.n ≤ 4096) × (m.k ≤ 8) × (m.n * m.k ≤ length m.table.now) × (m.n ≤ length m.records.now)

abbrev pub InNames : Memory → Type 0
InNames m = (p : ℕ × ℕ) → ((p.0 < m.n) × (p.1 < m.k) × (cell m.k m.table.now p.0 p.1 ≢ 65535)) → cell m.k m.table.now p.0 p.1 < m.n

abbrev pub InFront : Memory → Type 0
InFront m = (p : ℕ × ℕ × ℕ) → ((p.0 < m.n) × (p.1 ≤ p.2) × (p.2 < m.k) × (cell m.k m.table.now p.0 p.1 ≡ 65535)) → cell m.k m.table.now p.0 p.2 ≡ 65535
