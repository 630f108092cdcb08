-- Turning links on the way back from a free cell.
use Rattle.std.proofs.Common.{◌≡◌, ℕ, ◌+◌, ◌*◌, ◌<◌, ◌≤◌, true, List, length, get_or, sym, refl, ap, ◌∙◌, subst, inl, inr, mul-le-mul_right, arith}
use Rattle.std.specs.List.{ContainsAt}
use Rattle.std.proofs.ByRecursion.{All-from_get_or, has_get_or}
use Rattle.std.proofs.lemmas.List.{get_or-map}
use Rattle.maps.specs.Links.{Link}
use Rattle.maps.specs.Sets.{Spaces}
use Rattle.crowding.specs.Orientation.{Rows, Oriented, cells}
use Rattle.crowding.specs.Putting.{Put}
use Rattle.crowding.specs.Table.{table_rows}
use Rattle.crowding.specs.Turning.{Turning}
use Rattle.rows.specs.Sound.{Sound}
use Rattle.rows.specs.Steps.{SameBesideCells, TurnedTo, OnTheWay}
use Rattle.rows.specs.View.{parents, rows_of, parent_of, turn_of, Ready}
use Rattle.crowding.proofs.Tables.{row_full}
use Rattle.crowding.proofs.Moves.{put_lengths}
use Rattle.crowding.proofs.Turning.{turned}
use Rattle.rows.specs.declared.memory.Memory.{Memory}
use Rattle.rows.specs.declared.memory.SpaceRecord.{SpaceRecord}
use Rattle.rows.proofs.Ghosts.{keeps_at, rest_trans}
use Rattle.rows.proofs.Table.{row_in, row_cell, row_some}

-- rows that are in order keep their own cells
pub own : (n k : ℕ) (t : List ℕ) → Sound n k t → Oriented (λ _. k) n (table_rows k t) (cells (table_rows k t) n)
own n k t s =
    record {
      fits = λ v l. (row_full k t v (row_in n k (length t) v s.long l)).2;
      inside = λ v l. All-from_get_or (λ c. c < n) (table_rows k t v) 0 (λ i li.
          let c : ℕ = get_or (table_rows k t v) i 0 in
          let h : ContainsAt (table_rows k t v) c = has_get_or (table_rows k t v) i 0 li in
          let (j, lj, e) = row_cell k t v c (row_in n k (length t) v s.long l) h in
          rw e at (s.named v j l lj (λ q. row_some k t v c h (sym e ∙ q))));
      same = λ p s. refl;
    }

pub row_before : (n k v : ℕ) → v < n → v * k + k ≤ n * k
row_before n k v l = omega (arith, mul-le-mul_right k l)

pub parent_at : (m m' : Memory) (x : ℕ) → m'.records.now ≡ m.records.now → x < length m'.records.now → parent_of m x ≡ (get_or m'.records.now x (record { parent = 0; queue = 0; turn = 0 })).parent
parent_at m m' x e l = ap (λ (l : List SpaceRecord). get_or (parents l) x 0) (sym e) ∙ get_or-map (λ (r : SpaceRecord). r.parent) m'.records.now x (record { parent = 0; queue = 0; turn = 0 }) 0 l

module _
    (m : Memory) (r : Ready m) (row : Rows) (found : Spaces) (a b w : ℕ)
    (trail : (links : List Link) → Oriented (λ _. m.k) m.n (rows_of m) links → Turning (λ _. m.k) m.n links a b found (parent_of m) (turn_of m) row w) where
  here : Turning (λ _. m.k) m.n (cells (rows_of m) m.n) a b found (parent_of m) (turn_of m) row w
  here = trail (cells (rows_of m) m.n) (own m.n m.k m.table.now r.sound)

  pub w_in : w < m.n
  w_in = here.inside w here.here

  pub w_free : length (row w) < m.k
  w_free = here.free

  module _ (p : ℕ) (is : parent_of m w ≡ p) (na : w ≡ a → ⊥) (nb : w ≡ b → ⊥) where
    back : (found p ≡ true) × (turn_of m p < turn_of m w) × ContainsAt (row p) w
    back =
        elim (here.back w here.here (omega arith)) [
          | inl (inl e) ↦ absurd (na e)
          | inl (inr e) ↦ absurd (nb e)
          | inr h ↦ subst (λ (x : ℕ). (found x ≡ true) × (turn_of m x < turn_of m w) × ContainsAt (row x) w) is h
        ]

    pub p_in : p < m.n
    p_in = here.inside p back.0

    pub p_less : turn_of m p < turn_of m w
    p_less = back.1

    pub p_has : ContainsAt (row p) w
    p_has = back.2

    apart : w ≡ p → ⊥
    apart e = omega (arith, p_less, ap (turn_of m) e)

    module _ (row' : Rows) (out : Put m.n p w row' row) where
      pub mid_free : length (row' w) < m.k
      mid_free = omega (arith, (put_lengths m.n p w row' row out).1 w w_in apart, w_free)

      pub trail_on
          : (row'' : Rows) → Put m.n w p row' row''
          → (links : List Link) → Oriented (λ _. m.k) m.n (rows_of m) links → Turning (λ _. m.k) m.n links a b found (parent_of m) (turn_of m) row'' p
      trail_on row'' in' links o =
          subst (λ (x : ℕ). Put m.n x w row' row → Put m.n w x row' row'' → Turning (λ _. m.k) m.n links a b found (parent_of m) (turn_of m) row'' x) is
          (λ o' i'. (turned (λ _. m.k) m.n links a b found (parent_of m) (turn_of m) row row' row'' w (trail links o) na nb o' i').0)
          out in'

put_of : (n n' u v : ℕ) (row row' : Rows) → n ≡ n' → Put n u v row row' → Put n' u v row row'
put_of n n' u v row row' e p = subst (λ (x : ℕ). Put x u v row row') e p

-- the same of memory s, in which some links are turned
module _ {m s : Memory} {a b w : ℕ} (i : OnTheWay m s a b w) (r : Ready m) (rs : Ready s) where
  pub w_space : w < s.n
  w_space = omega (arith, w_in m r (rows_of s) i.found a b w i.trail, i.rest.n)

  pub w_record : w < length s.records.now
  w_record = omega (arith, w_space, rs.room)

  pub turned_to : TurnedTo m s w
  turned_to =
      record {
        rest = i.rest;
        free = omega (arith, w_free m r (rows_of s) i.found a b w i.trail, i.rest.k);
        links = λ links o. keeps_at s m.n m.k links i.rest.n i.rest.k (i.trail links o).board;
      }

  abbrev parent : ℕ
  parent = (get_or s.records.now w (record { parent = 0; queue = 0; turn = 0 })).parent

  is : parent_of m w ≡ parent
  is = parent_at m s w i.rest.records w_record

  module _ (na : w ≡ a → ⊥) (nb : w ≡ b → ⊥) where
    pub parent_space : parent < s.n
    parent_space = omega (arith, p_in m r (rows_of s) i.found a b w i.trail parent is na nb, i.rest.n)

    pub parent_has : ContainsAt (rows_of s parent) w
    parent_has = p_has m r (rows_of s) i.found a b w i.trail parent is na nb

    pub parent_before : turn_of m parent < turn_of m w
    parent_before = p_less m r (rows_of s) i.found a b w i.trail parent is na nb

    module _ {s' : Memory} (rest' : SameBesideCells s s') (out : Put s.n parent w (rows_of s') (rows_of s)) where
      pub w_room : length (rows_of s' w) < s'.k
      w_room =
          omega (arith, mid_free m r (rows_of s) i.found a b w i.trail parent is na nb (rows_of s') (put_of s.n m.n parent w (rows_of s') (rows_of s) i.rest.n out), i.rest.k, rest'.k)

      pub gone_on : (s'' : Memory) → SameBesideCells s' s'' → Put s'.n w parent (rows_of s') (rows_of s'') → OnTheWay m s'' a b parent
      gone_on s'' rest'' in' =
          record {
            rest = rest_trans m s s'' i.rest (rest_trans s s' s'' rest' rest'');
            found = i.found;
            trail = trail_on m r (rows_of s) i.found a b w i.trail parent is na nb (rows_of s') (put_of s.n m.n parent w (rows_of s') (rows_of s) i.rest.n out)
                (rows_of s'') (put_of s'.n m.n w parent (rows_of s') (rows_of s'') (rest'.n ∙ i.rest.n) in');
          }
