use Rattle.std.proofs.Common.{◌≡◌, ℕ, true, ap, ◌∙◌, arith}
use Rattle.rows.specs.Search.{among}
use Rattle.rows.specs.View.{rows_of, queue_of, parent_of, turn_of}
use Rattle.rows.proofs.Finding.{search_none}
use Rattle.rows.proofs.Ending.{one_first, two_first, answered}
use Rattle.rows.proofs.link_rows.LinkRows.reach.Goals as goal

pub note-requires-clause-searching : goal.note-requires-clause-searching
note-requires-clause-searching c =
    let m = c.args.self.now.memory in
    record {
      marked = c.requires.marked;
      search = search_none m.n (rows_of m) (among m.n c.args.marks.now.bytes.now) (queue_of m) (parent_of m) (turn_of m) c.requires.none;
    }

pub returns-clause-answer : goal.returns-clause-answer
returns-clause-answer c =
    let m₁ = c.note.new.self.memory in
    let m₂ = c.note-2.new.self.memory in
    let m = c.spread.new.self.memory in
    let x₁ = c.note.new.marks in
    let x₂ = c.note-2.new.marks in
    let x = c.spread.new.marks in
    let k₁ = c.note.ensures.kept in
    let k₂ = c.note-2.ensures.kept in
    let k = c.spread.ensures.kept in
    let e = c.spread.ensures.ended in
    let here₁ : among m₁.n x₁.bytes.now c.args.a ≡ true = ap (λ (n : ℕ). among n x₁.bytes.now c.args.a) k₁.n ∙ c.note.ensures.here in
    let here₂ : among m₂.n x₂.bytes.now c.args.b ≡ true = ap (λ (n : ℕ). among n x₂.bytes.now c.args.b) k₂.n ∙ c.note-2.ensures.here in
    let q₀ : queue_of m₁ 0 ≡ c.args.a = one_first m₁.n (rows_of m₁) (among m₁.n x₁.bytes.now) (queue_of m₁) (parent_of m₁) (turn_of m₁) c.args.a c.args.b c.note.ensures.searching.search here₁ in
    let q₀' : queue_of m₂ 0 ≡ c.args.a = c.note-2.ensures.grown.order 0 (omega arith) ∙ q₀ in
    let q₁' : queue_of m₂ 1 ≡ c.args.b = two_first m₂.n (rows_of m₂) (among m₂.n x₂.bytes.now) (queue_of m₂) (parent_of m₂) (turn_of m₂) c.args.a c.args.b c.note-2.ensures.searching.search q₀' here₂ c.requires.ends.2 in
    answered m x e.tail c.args.a c.args.b e.searching e.grown.more (e.grown.order 0 (omega arith) ∙ q₀') (e.grown.order 1 (omega arith) ∙ q₁') c.spread.result e.answer
