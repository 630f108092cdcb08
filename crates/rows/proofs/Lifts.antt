-- The answers of lifting and reading a link.
use Rattle.std.proofs.Common.{◌≡◌, ℕ, ◌<◌, ◌≤◌, Bool, true, false, MatchBool, ◌⊎◌, ◌∷◌, sym, ap, ◌∙◌, subst}
use Rattle.std.specs.List.{ContainsAt}
use Rattle.crowding.specs.Orientation.{Rows}
use Rattle.crowding.specs.Putting.{Put}
use Rattle.crowding.proofs.Moves.{lifted, relinked}
use Rattle.maps.specs.Reading.{reading}
use Rattle.rows.specs.Calls.{InsideEnds, LiftAnswer}
use Rattle.rows.specs.Keeping.{Tells}
use Rattle.rows.specs.Steps.{SameBesideCells}
use Rattle.rows.specs.View.{Ready, rows_of}
use Rattle.rows.specs.declared.memory.Memory.{Memory}
use Rattle.rows.proofs.Ghosts.{keeps_at, rows_same, rest_trans, shape_by}
use Rattle.rows.proofs.Kept.{not_kept, kept_first, kept_second, put_here, outside_not_kept}
use Rattle.rows.proofs.Laid.{swapped}
use Rattle.rows.proofs.Readings.{reading_tells}

module _ (m m' : Memory) (r' : Ready m') (a b : ℕ) (inside : InsideEnds m a b) (rest : SameBesideCells m m') where
  pub lifted_first : Put m.n a b (rows_of m') (rows_of m) → LiftAnswer m m' a b true
  lifted_first out = (
    record { kept = λ links o. sym (kept_first (λ _. m.k) m.n (rows_of m) links a b o inside.0 (put_here m.n a b (rows_of m') (rows_of m) out)) },
    record { keeps = λ links o. keeps_at m' m.n m.k links rest.n rest.k (lifted (λ _. m.k) m.n (rows_of m') (rows_of m) links a b o inside.0 out) },
    shape_by m m' r' rest,
    rest.records,
  )

  lifted_second : Put m.n b a (rows_of m') (rows_of m) → LiftAnswer m m' a b true
  lifted_second out = (
    record { kept = λ links o. sym (kept_second (λ _. m.k) m.n (rows_of m) links a b o inside.1 (put_here m.n b a (rows_of m') (rows_of m) out)) },
    record {
      keeps = λ links o. keeps_at m' m.n m.k links rest.n rest.k (lifted (λ _. m.k) m.n (rows_of m') (rows_of m) links b a
          (relinked (λ _. m.k) m.n (rows_of m) ((a, b) ∷ links) ((b, a) ∷ links) o (swapped b a links)) inside.1 out);
    },
    shape_by m m' r' rest,
    rest.records,
  )

  lifted_none : m'.table.now ≡ m.table.now → (ContainsAt (rows_of m a) b → ⊥) → (ContainsAt (rows_of m b) a → ⊥) → LiftAnswer m m' a b false
  lifted_none et na nb = (
    record { kept = λ links o. sym (not_kept (λ _. m.k) m.n (rows_of m) links a b o na nb) },
    (rest.n, rest.k, et, rest.records),
  )

-- where the first row does not hold the link, the second is asked
pub lifted_then
    : (m m₁ m₂ : Memory) → Ready m₂ → (a b : ℕ) → InsideEnds m a b → SameBesideCells m m₁
    → (m₁.table.now ≡ m.table.now) × (ContainsAt (rows_of m a) b → ⊥) → SameBesideCells m₁ m₂ → (t : Bool)
    → MatchBool t (Put m₁.n b a (rows_of m₂) (rows_of m₁)) ((m₂.table.now ≡ m₁.table.now) × (ContainsAt (rows_of m₁ b) a → ⊥)) → LiftAnswer m m₂ a b t
lifted_then m m₁ m₂ r a b inside p (et, na) q true out =
    lifted_second m m₂ r a b inside (rest_trans m m₁ m₂ p q)
    (subst (λ (n : ℕ). Put n b a (rows_of m₂) (rows_of m)) p.n
    (subst (λ (w : Rows). Put m₁.n b a (rows_of m₂) w) (rows_same m m₁ p.k et) out))
lifted_then m m₁ m₂ r a b inside p (et, na) q false (et', nb) =
    lifted_none m m₂ r a b inside (rest_trans m m₁ m₂ p q) (et' ∙ et) na
    (λ h. nb (subst (λ (w : Rows). ContainsAt (w b) a) (sym (rows_same m m₁ p.k et)) h))

-- a link with an end that is no space is not kept
pub outside_tells : (m : Memory) (a b : ℕ) → (m.n ≤ a) ⊎ (m.n ≤ b) → Tells m a b false
outside_tells m a b out = record { kept = λ links o. sym (outside_not_kept (λ _. m.k) m.n (rows_of m) links a b o out) }

-- what the reading rule answers
pub read_tells : (m : Memory) (a b : ℕ) (linked : Bool) (cells : ℕ) → Ready m → a < m.n → b < m.n → (linked, cells) ≡ reading m.k m.table.now a b → Tells m a b linked
read_tells m a b linked cells r la lb e =
    record { kept = λ links o. ap (λ (p : Bool × ℕ). p.0) e ∙ reading_tells m.n m.k m.table.now r.sound links o a b la lb }
