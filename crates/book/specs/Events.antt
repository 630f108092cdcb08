-- What a run of calls has done, told by the calls and their replies alone. Assumes nothing.
use Rattle.std.specs.Prelude.{◌≡◌, ℕ, Bool, false, T, List, [], ◌∷◌, ◌++◌, fold, ◌==◌}
use Rattle.std.specs.List.{ContainsAt, AllByRecursion}
use Rattle.maps.specs.Links.{Link, Meaning, same}
use Rattle.book.specs.Book.{Entry, On, Apart, printed_entry}
use Rattle.book.specs.Calls.{Columns, Lent, Call, Reply}
use Rattle.book.specs.Calls.Call.{set_up, opening, closing, look_up, total, counts}
use Rattle.book.specs.Calls.Reply.{refused, done, closed_for, linked, sum, counted}

-- a call and its reply
abbrev pub Event : Type 0
Event = Call × Reply

abbrev pub events : List Call → List Reply → List Event
events [] rs = []
events (c ∷ cs) [] = []
events (c ∷ cs) (r ∷ rs) = (c, r) ∷ events cs rs

-- An accepted set-up lays each link of its map, for owner 0 with the zero value; an accepted open lays its link for its owner with its value.
pub data Lays (width : ℕ) : Event → Entry → Type 0 where
  printing : {m : Meaning} {k : ℕ} {lent : Lent} {l : Link} → ContainsAt m.links l → Lays width (set_up m k lent, done) (printed_entry width l)
  opened : {l : Link} {o : ℕ} {v : Columns} {lent : Lent} → Lays width (opening l o v lent, done) (record { link = l; owner = o; value = v })

-- an accepted close of the link
pub data Strikes : Event → Link → Type 0 where
  struck : {l m : Link} {o : ℕ} → T (same l m) → Strikes (closing l, closed_for o) m

-- After these events the entry stands: one of them laid it, and none closed its link since.
pub record Stands (width : ℕ) (es : List Event) (e : Entry) : Type 0 where
  pub before : List Event
  pub event : Event
  pub since : List Event
  pub split : es ≡ before ++ (event ∷ since)
  pub lays : Lays width event e
  pub open_since : AllByRecursion (λ f. Strikes f e.link → ⊥) since

-- the entries are exactly what stands after these events, no link twice
pub record Standing (width : ℕ) (es : List Event) (entries : List Entry) : Type 0 where
  pub sound : (e : Entry) → On entries e → Stands width es e
  pub whole : (e : Entry) → Stands width es e → On entries e
  pub apart : Apart entries

-- how many spaces there are, and how many cells to each: those of the last accepted set-up, none before one
abbrev pub sized : ℕ × ℕ → Event → ℕ × ℕ
sized size (set_up m k lent, done) = (m.spaces, k)
sized size (set_up m k lent, refused n p s) = size
sized size (set_up m k lent, closed_for o) = size
sized size (set_up m k lent, linked a c) = size
sized size (set_up m k lent, sum v) = size
sized size (set_up m k lent, counted s o c) = size
sized size (opening l o v lent, r) = size
sized size (closing l, r) = size
sized size (look_up l, r) = size
sized size (total o, r) = size
sized size (counts o, r) = size

abbrev pub size_after : List Event → ℕ × ℕ
size_after es = fold sized (0, 0) es

-- an accepted open for the owner
abbrev pub opened_for : ℕ → Event → Bool
opened_for o (opening l w v lent, done) = o == w
opened_for o (opening l w v lent, refused n p s) = false
opened_for o (opening l w v lent, closed_for x) = false
opened_for o (opening l w v lent, linked a c) = false
opened_for o (opening l w v lent, sum x) = false
opened_for o (opening l w v lent, counted x y z) = false
opened_for o (set_up m k lent, r) = false
opened_for o (closing l, r) = false
opened_for o (look_up l, r) = false
opened_for o (total w, r) = false
opened_for o (counts w, r) = false

-- an accepted close that struck out a link of the owner
abbrev pub closed_for_owner : ℕ → Event → Bool
closed_for_owner o (closing l, closed_for w) = o == w
closed_for_owner o (closing l, refused n p s) = false
closed_for_owner o (closing l, done) = false
closed_for_owner o (closing l, linked a c) = false
closed_for_owner o (closing l, sum v) = false
closed_for_owner o (closing l, counted x y z) = false
closed_for_owner o (set_up m k lent, r) = false
closed_for_owner o (opening l w v lent, r) = false
closed_for_owner o (look_up l, r) = false
closed_for_owner o (total w, r) = false
closed_for_owner o (counts w, r) = false
