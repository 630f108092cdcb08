-- How a search begins, and what it has shown when it ends.
use Rattle.std.proofs.Common.{◌≡◌, ℕ, ◌<◌, ◌≤◌, true, false, not, ltb, List, length, get_or, Some, None, Option, sym, ap, ◌∙◌, inl, inr, arith, MatchOption}
use Rattle.std.proofs.lemmas.Bool.{cases_lt, cases_eq, cases_Bool, and_left, and_right, le-ltb, eq-eqb}
use Rattle.maps.specs.declared.marks.Marks.{Marks}
use Rattle.maps.specs.Marks.{marked}
use Rattle.maps.specs.Sets.{Spaces}
use Rattle.crowding.specs.Orientation.{Rows}
use Rattle.rows.specs.Search.{among, Search}
use Rattle.rows.specs.Steps.{Searching, SpreadOut, Trail, Stuck}
use Rattle.rows.specs.View.{rows_of, queue_of, parent_of, turn_of}
use Rattle.rows.specs.declared.memory.Memory.{Memory}
use Rattle.rows.proofs.Finding.{turning, settles, all_full}

pub among_none : (n : ℕ) (m : List ℕ) → ((x : ℕ) → x < n → get_or m x 0 ≡ 0) → (x : ℕ) → among n m x ≡ false
among_none n m h x =
    elim (cases_lt x n) [
      | inl l ↦ and_right (ltb x n) (marked m x) (ap not (eq-eqb (get_or m x 0) 0 (h x l)))
      | inr g ↦ and_left (ltb x n) (marked m x) (le-ltb x n g)
    ]

module _ (n : ℕ) (row : Rows) (S : Spaces) (queue parent turn : ℕ → ℕ) (a b : ℕ) where
  -- the first one found
  pub one_first : Search n row S queue parent turn 1 → S a ≡ true → queue 0 ≡ a
  one_first s e = let h = s.noted a e in let z : turn a ≡ 0 = omega (arith, h.0) in ap queue (sym z) ∙ h.1

  -- and no other is yet found
  pub one_alone : Search n row S queue parent turn 1 → S a ≡ true → (a ≡ b → ⊥) → S b ≡ false
  one_alone s e ne =
      elim (cases_Bool (S b)) [
        | inl f ↦ let h = s.noted b f in let z : turn b ≡ 0 = omega (arith, h.0) in absurd (ne (sym (one_first s e) ∙ ap queue (sym z) ∙ h.1))
        | inr f ↦ f
      ]

  pub two_first : Search n row S queue parent turn 2 → queue 0 ≡ a → S b ≡ true → (a ≡ b → ⊥) → queue 1 ≡ b
  two_first s q e ne =
      let h = s.noted b e in
      elim (cases_eq (turn b) 0) [
        | inl z ↦ absurd (ne (sym q ∙ ap queue (sym z) ∙ h.1))
        | inr nz ↦ let z : turn b ≡ 1 = omega (arith, h.0) in ap queue (sym z) ∙ h.1
      ]

pub answered
    : (m : Memory) (marks : Marks) (tail a b : ℕ) → Searching m marks tail → 2 ≤ tail → queue_of m 0 ≡ a → queue_of m 1 ≡ b → (r : Option ℕ)
    → MatchOption r (SpreadOut m marks tail) (λ w. (among m.n marks.bytes.now w ≡ true) × (length (rows_of m w) < m.k))
    → MatchOption r (Stuck m marks a b) (λ w. Trail m (among m.n marks.bytes.now) a b w)
answered m marks tail a b s two q₀ q₁ None h =
    record {
      reached = settles m.n (rows_of m) (among m.n marks.bytes.now) (queue_of m) (parent_of m) (turn_of m) tail a b s.search q₀ q₁ m.k two h;
      full = all_full m.n (rows_of m) (among m.n marks.bytes.now) (queue_of m) (parent_of m) (turn_of m) tail a b s.search q₀ q₁ m.k two h;
    }
answered m marks tail a b s two q₀ q₁ (Some w) h =
    λ links o. turning m.n (rows_of m) (among m.n marks.bytes.now) (queue_of m) (parent_of m) (turn_of m) tail a b s.search q₀ q₁ (λ _. m.k) links o w h.0 h.1
