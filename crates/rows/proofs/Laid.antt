-- A link laid in rows of a table, and rows that keep none.
use Rattle.std.proofs.Common.{◌≡◌, ℕ, ◌+◌, ◌*◌, ◌<◌, ◌≤◌, List, [], ◌∷◌, length, get_or, Ok, Err, Result, sym, ap, ◌∙◌, subst, inl, inr, mul-le-mul_right, arith}
use Rattle.std.specs.List.{ContainsAt}
use Rattle.std.proofs.lemmas.List.Sums.{sum_by-cons}
use Rattle.maps.specs.Density.{Crowded as Crowded-map}
use Rattle.maps.specs.Links.{Link}
use Rattle.maps.specs.Marks.{Cleared}
use Rattle.crowding.specs.Bags.{SameLinks}
use Rattle.crowding.specs.Orientation.{Rows, Oriented, cells}
use Rattle.crowding.specs.Putting.{Put}
use Rattle.crowding.specs.Table.{table_rows}
use Rattle.crowding.proofs.Moves.{laid, relinked}
use Rattle.crowding.proofs.Sums.{bit}
use Rattle.crowding.proofs.Uniform.{not_crowded}
use Rattle.rows.specs.Calls.{LayAnswer, LongEnough}
use Rattle.rows.specs.Keeping.{Keeps, Laid, SameShape}
use Rattle.rows.specs.LayEnd.{Ends, LayEnd, TwoSpaces}
use Rattle.rows.specs.Sound.{Sound}
use Rattle.rows.specs.View.{rows_of}
use Rattle.rows.specs.declared.link_rows.calls.Refusal.{Refusal}
use Rattle.rows.specs.declared.link_rows.calls.Refusal.TheVariants.{ShortMemory, EndOutOfRange, EqualEnds, Crowded}
use Rattle.rows.specs.declared.memory.Memory.{Memory}
use Rattle.rows.proofs.Backward.{own}
use Rattle.rows.proofs.Ghosts.{keeps_at}
use Rattle.rows.proofs.Kept.{no_cells}
use Rattle.rows.proofs.Table.{row_in, row_cell, row_some}

-- the two ends of a link, the other way round
pub swapped : (a b : ℕ) (links : List Link) → SameLinks ((b, a) ∷ links) ((a, b) ∷ links)
swapped a b links p s = omega (arith, sum_by-cons (λ l. bit (p l)) (b, a) links, sum_by-cons (λ l. bit (p l)) (a, b) links, ap bit (s a b))

-- one is put into row r
module _
    (n k : ℕ) (row row' : Rows) (links : List Link) (a b r o : ℕ) (a_in : a < n) (b_in : b < n) (ends : Ends a b r o)
    (kept : Oriented (λ _. k) n row links) (free : length (row r) < k) (put : Put n r o row row') where
  laid_here : Oriented (λ _. k) n row' ((a, b) ∷ links)
  laid_here =
      elim ends [
        | inl (ra, ob) ↦
            subst (λ (x : ℕ). Oriented (λ _. k) n row' ((a, x) ∷ links)) ob
            (subst (λ (x : ℕ). Oriented (λ _. k) n row' ((x, o) ∷ links)) ra
            (laid (λ _. k) n row row' links r o kept (rw ra a_in) (rw ob b_in) free put))
        | inr (rb, oa) ↦
            relinked (λ _. k) n row' ((b, a) ∷ links) ((a, b) ∷ links)
            (subst (λ (x : ℕ). Oriented (λ _. k) n row' ((b, x) ∷ links)) oa
            (subst (λ (x : ℕ). Oriented (λ _. k) n row' ((x, o) ∷ links)) rb
            (laid (λ _. k) n row row' links r o kept (rw rb b_in) (rw oa a_in) free put)))
            (swapped a b links)
      ]

  laid_fits : Crowded-map k n ((a, b) ∷ links) → ⊥
  laid_fits = not_crowded k n row' ((a, b) ∷ links) laid_here

-- the links are the same until one is put into row r
pub laid_by
    : (m m₁ m' : Memory) (a b r o : ℕ) → a < m₁.n → b < m₁.n → Ends a b r o → m₁.n ≡ m.n → m₁.k ≡ m.k → m'.n ≡ m₁.n → m'.k ≡ m₁.k
    → ((links : List Link) → Keeps m links → Keeps m₁ links) → length (rows_of m₁ r) < m₁.k → Put m₁.n r o (rows_of m₁) (rows_of m') → Laid m m' a b
laid_by m m₁ m' a b r o la lb ends en ek en' ek' same free put =
    record {
      keeps = λ links h. keeps_at m' m₁.n m₁.k ((a, b) ∷ links) en' ek' (laid_here m₁.n m₁.k (rows_of m₁) (rows_of m') links a b r o la lb ends (same links h) free put);
      fits = λ links h. subst (λ (x : ℕ). Crowded-map m.k x ((a, b) ∷ links) → ⊥) en
          (subst (λ (x : ℕ). Crowded-map x m₁.n ((a, b) ∷ links) → ⊥) ek (laid_fits m₁.n m₁.k (rows_of m₁) (rows_of m') links a b r o la lb ends (same links h) free put));
    }

-- rows whose cells are all empty keep nothing
pub empty_keeps : (n k : ℕ) (t : List ℕ) → n * k ≤ length t → ((i : ℕ) → i < n * k → get_or t i 0 ≡ 65535) → Sound n k t → Oriented (λ _. k) n (table_rows k t) []
empty_keeps n k t long h s =
    relinked (λ _. k) n (table_rows k t) (cells (table_rows k t) n) [] (own n k t s) (λ p _. no_cells p (table_rows k t) n (λ v c lv has _. none v c lv has))
  where
    none : (v c : ℕ) → v < n → ContainsAt (table_rows k t v) c → ⊥
    none v c lv has =
        let (j, lj, q) = row_cell k t v c (row_in n k (length t) v long lv) has in
        row_some k t v c has (sym q ∙ h (v * k + j) (omega (arith, mul-le-mul_right k lv)))

pub empty_sound : (n k : ℕ) (t : List ℕ) → n ≤ 4096 → k ≤ 8 → n * k ≤ length t → ((i : ℕ) → i < n * k → get_or t i 0 ≡ 65535) → Sound n k t
empty_sound n k t ln lk long h =
    record {
      small = (ln, lk);
      long = long;
      named = λ v j lv lj some. absurd (some (h (v * k + j) (omega (arith, mul-le-mul_right k lv))));
      first = λ v lv i j le lj e. h (v * k + j) (omega (arith, mul-le-mul_right k lv));
    }

-- which end, and the other
pub ends_in : (n a b r o : ℕ) → a < n → b < n → Ends a b r o → (r < n) × (o < n)
ends_in n a b r o la lb (inl (p, q)) = (rw p la, rw q lb)
ends_in n a b r o la lb (inr (p, q)) = (rw p lb, rw q la)

-- how a search ends, past the first three reasons
pub lay_by
    : (m m' : Memory) (a b : ℕ) (before after marks marks' : List ℕ) → LongEnough m before marks → TwoSpaces m a b → SameShape m m' → Cleared m.n marks marks'
    → (r : Result (Unit {0}) Refusal) → LayEnd m m' a b before after r → LayAnswer m m' a b before after marks marks' r
lay_by m m' a b before after marks marks' long ends shape clear (Ok _) e = (long, (ends.0, ends.1), ends.2, e.0, shape, e.1, clear)
lay_by m m' a b before after marks marks' long ends shape clear (Err Crowded) e = (long, (ends.0, ends.1), ends.2, e.1, shape, e.2, clear)
lay_by m m' a b before after marks marks' long ends shape clear (Err ShortMemory) e = let no : ⊥ = cc (e.0) in absurd no
lay_by m m' a b before after marks marks' long ends shape clear (Err EndOutOfRange) e = let no : ⊥ = cc (e.0) in absurd no
lay_by m m' a b before after marks marks' long ends shape clear (Err EqualEnds) e = let no : ⊥ = cc (e.0) in absurd no
