-- A number taken out of a row: where it stands, and where the row's last occupied cell does.
use Rattle.std.proofs.Common.{◌≡◌, ℕ, ◌+◌, ◌-◌, ◌*◌, ◌<◌, ◌≤◌, Bool, true, false, MatchBool, eqb, List, length, get_or, set, position, unwrap_or, Some, Option, sym, ap, ◌∙◌, subst, arith}
use Rattle.std.specs.List.{ContainsAt}
use Rattle.maps.specs.Reading.{row}
use Rattle.crowding.specs.Orientation.{Rows}
use Rattle.crowding.specs.Putting.{Put}
use Rattle.crowding.specs.Table.{table_rows}
use Rattle.maps.specs.Past.{SameFrom}
use Rattle.rows.specs.Sound.{cell}
use Rattle.rows.specs.Steps.{SameBesideCells}
use Rattle.rows.specs.View.{rows_of, Ready}
use Rattle.rows.specs.declared.memory.Memory.{Memory}
use Rattle.rows.proofs.Backward.{row_before}
use Rattle.maps.proofs.Past.{past_weaker}
use Rattle.rows.proofs.Ghosts.{ready_written}
use Rattle.rows.proofs.Table.{row_in, found_at, stop, taken, put_out, sound_out, past_out}

-- rows of memory with another table
rows_at : (m m' : Memory) (t : List ℕ) → m'.k ≡ m.k → m'.table.now ≡ t → rows_of m' ≡ table_rows m.k t
rows_at m m' t ek et = ap (λ (k : ℕ). table_rows k m'.table.now) ek ∙ ap (table_rows m.k) et

module _
    (m : Memory) (r : Ready m) (v c i u : ℕ) (o : Option ℕ) (inside : (v < m.n) × (c < m.n))
    (gap : Some i ≡ position (λ x. eqb x c) (row m.k m.table.now v))
    (free : o ≡ position (λ x. eqb x 65535) (row m.k m.table.now v)) (until : u ≡ unwrap_or o m.k) where
  row_long : v * m.k + m.k ≤ length m.table.now
  row_long = row_in m.n m.k (length m.table.now) v r.sound.long inside.0

  some : c < 65535
  some = omega (arith, r.sound.small.0, inside.1)

  here : (i < m.k) × (cell m.k m.table.now v i ≡ c)
  here = let f = found_at m.k m.table.now v c i row_long (sym gap) in (f.0, f.1)

  last : (1 ≤ u) × (u - 1 < m.k) × (i ≤ u - 1) × (cell m.k m.table.now v (u - 1) ≡ 65535 → ⊥) × ((j : ℕ) → u - 1 < j → j < m.k → cell m.k m.table.now v j ≡ 65535)
  last =
      let s = stop m.k m.table.now v 65535 row_long o free in
      subst (λ (x : ℕ). (1 ≤ x) × (x - 1 < m.k) × (i ≤ x - 1) × (cell m.k m.table.now v (x - 1) ≡ 65535 → ⊥) × ((j : ℕ) → x - 1 < j → j < m.k → cell m.k m.table.now v j ≡ 65535))
      (sym until) (taken m.k m.table.now v i (unwrap_or o m.k) c (r.sound.first v inside.0) some here.0 here.1 s)

  pub last_from : 1 ≤ u
  last_from = last.0

  pub cells_in : (v * m.k + i < length m.table.now) × (v * m.k + (u - 1) < length m.table.now)
  cells_in = (omega (arith, row_long, here.0), omega (arith, row_long, last.1))

  abbrev written : List ℕ
  written = set (set m.table.now (v * m.k + i) (get_or m.table.now (v * m.k + (u - 1)) 0)) (v * m.k + (u - 1)) 65535

  module _ (m' : Memory) (en : m'.n ≡ m.n) (ek : m'.k ≡ m.k) (er : m'.records.now ≡ m.records.now) (et : m'.table.now ≡ written) where
    pub taken_ready : Ready m'
    taken_ready =
        ready_written m m' written en ek (ap (λ l. length l) er) et r
        (sound_out m.k m.table.now v i (u - 1) c here.0 last.1 last.2 row_long here.1 some last.3 m.n inside.0 last.4 r.sound)

    pub taken_put : Put m.n v c (rows_of m') (rows_of m)
    taken_put =
        subst (λ (w : Rows). Put m.n v c w (rows_of m)) (sym (rows_at m m' written ek et))
        (put_out m.k m.table.now v i (u - 1) c here.0 last.1 last.2 row_long here.1 some last.3 m.n)

    pub taken_rest : SameBesideCells m m'
    taken_rest =
        record {
          n = en;
          k = ek;
          records = er;
          past = subst (λ (t : List ℕ). SameFrom (m.n * m.k) m.table.now t) (sym et)
              (past_weaker (v * m.k + m.k) (m.n * m.k) m.table.now written (row_before m.n m.k v inside.0)
              (past_out m.k m.table.now v i (u - 1) c here.0 last.1 last.2 row_long here.1 some last.3));
        }

-- what a row had is taken out
pub out_of
    : {m m' : Memory} → SameBesideCells m m' → (v c : ℕ) (b : Bool)
    → MatchBool b (Put m.n v c (rows_of m') (rows_of m)) ((m'.table.now ≡ m.table.now) × (ContainsAt (rows_of m v) c → ⊥))
    → ContainsAt (rows_of m v) c → Put m.n v c (rows_of m') (rows_of m)
out_of _ v c true p h = p
out_of _ v c false n h = absurd (n.1 h)
