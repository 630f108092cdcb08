-- Marks that are cleared, used and cleared again; and the set that they show.
use Rattle.std.proofs.Common.{◌≡◌, ℕ, ◌<◌, ◌≤◌, cond, List, ◌++◌, length, get_or, take, drop, sym, ap, ◌∙◌, subst, arith}
use Rattle.std.proofs.lemmas.List.FromFn.{fill_by_all}
use Rattle.std.proofs.lemmas.List.{take-append-drop, length-take, get_or-take}
use Rattle.maps.specs.Marks.{Cleared}
use Rattle.maps.specs.Sets.{Spaces, bytes}
use Rattle.maps.specs.declared.marks.Marks.{Marks}
use Rattle.crowding.proofs.Uniform.{crowding_at}
use Rattle.rows.specs.Keeping.{Reported}
use Rattle.maps.specs.Searching.{StillLent}
use Rattle.maps.specs.Past.{SameFrom}
use Rattle.rows.specs.Search.{among}
use Rattle.rows.specs.Steps.{Stuck}
use Rattle.rows.specs.View.{rows_of}
use Rattle.rows.specs.declared.memory.Memory.{Memory}
use Rattle.maps.proofs.Past.{past_by_places, past_trans}

pub cleared_past : (n n' : ℕ) (a b : List ℕ) → n ≡ n' → Cleared n a b → SameFrom n' a b
cleared_past n n' a b e p = past_by_places n' a b p.len (λ x l. p.high x (omega arith))

-- marks cleared, and then used
pub searched_marks : (n : ℕ) (x y z : Marks) → x.n ≡ n → Cleared x.n x.bytes.now y.bytes.now → StillLent n y z → SameFrom n x.bytes.now z.bytes.now
searched_marks n x y z e p q = past_trans n x.bytes.now y.bytes.now z.bytes.now (cleared_past x.n n x.bytes.now y.bytes.now e p) q.bytes

-- bytes written one by one
pub bytes_written
    : (n : ℕ) (s : Spaces) (before after : List ℕ) → n ≤ length before → length after ≡ length before
    → ((x : ℕ) → x < n → get_or after x 0 ≡ cond (s x) 1 0) → ((x : ℕ) → n ≤ x → get_or after x 0 ≡ get_or before x 0) → after ≡ bytes n s ++ drop n before
bytes_written n s before after l e low high =
    let front : take n after ≡ bytes n s = fill_by_all (λ v. cond (s v) 1 0) (take n after) n 0 (omega (arith, length-take n after)) (λ x lx. get_or-take n after x 0 lx ∙ low x lx) in
    let back : drop n after ≡ drop n before = (past_by_places n before after e high).rest in
    sym (take-append-drop n after) ∙ (ap (λ (x : List ℕ). x ++ drop n after) front ∙ ap (λ (x : List ℕ). bytes n s ++ x) back)

pub reported
    : (m : Memory) (n : ℕ) (marks : Marks) (a b : ℕ) (before after : List ℕ) → n ≡ m.n → a < m.n → b < m.n → Stuck m marks a b → n ≤ length before → length after ≡ length before
    → ((x : ℕ) → x < n → get_or after x 0 ≡ cond (among n marks.bytes.now x) 1 0) → ((x : ℕ) → n ≤ x → get_or after x 0 ≡ get_or before x 0) → Reported m a b before after
reported m n marks a b before after en la lb s l e low high =
    record {
      members = among m.n marks.bytes.now;
      written = subst (λ (x : ℕ). after ≡ bytes x (among x marks.bytes.now) ++ drop x before) en (bytes_written n (among n marks.bytes.now) before after l e low high);
      smallest = λ links o. crowding_at m.k m.n (rows_of m) links o a b la lb (among m.n marks.bytes.now) s.reached s.full;
    }
