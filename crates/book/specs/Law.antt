-- The law over every run of calls on a new board. Assumes nothing.
use Rattle.std.specs.Prelude.{◌≡◌, ℕ, ◌+◌, ◌*◌, ◌<◌, ◌≤◌, min, Bool, T, ◌⊎◌, List, ◌∷◌, ◌++◌, length, take, Some, None, count_by}
use Rattle.maps.specs.Density.{Crowded, SmallestOverfull}
use Rattle.maps.specs.LinkChecks.{AllLinksGood}
use Rattle.maps.specs.Links.{Link, Meaning, same}
use Rattle.maps.specs.Sets.{Spaces, bytes}
use Rattle.book.specs.Answers.{Leads}
use Rattle.book.specs.Book.{Entry, Book, new_book, links_of, stands_in, of_owner, total_of}
use Rattle.book.specs.Calls.{Columns, Memory, Lent, Call, Reply}
use Rattle.book.specs.Calls.Call.{set_up, opening, look_up, total, counts}
use Rattle.book.specs.Calls.Reply.{refused, done, linked, sum, counted}
use Rattle.book.specs.Events.{Event, events, Stands, Standing, size_after, opened_for, closed_for_owner}
use Rattle.book.specs.Rows.{set_up_row, lent_row, open_row, Passed}

-- Refused as crowded, at this place if there is one, exactly if some set is overfull; the set reported is one and lies inside every other. Otherwise done.
abbrev pub CrowdingDecides : (k n : ℕ) → List Link → Reply → Type 0
CrowdingDecides k n links r =
    ((s : Spaces) × SmallestOverfull k n links s × (r ≡ refused 24 None (Some (bytes n s))))
    ⊎ ((Crowded k n links → ⊥) × (r ≡ done))

-- the same for a list of links laid one after the other: refused at the first that makes an overfull set with those before it
abbrev pub PrintingDecides : (k n : ℕ) → List Link → Reply → Type 0
PrintingDecides k n links r =
    ((p : ℕ) × (s : Spaces) × (p < length links) × (Crowded k n (take p links) → ⊥)
    × SmallestOverfull k n (take (p + 1) links) s × (r ≡ refused 24 (Some p) (Some (bytes n s))))
    ⊎ ((Crowded k n links → ⊥) × (r ≡ done))

-- What holds of these calls and replies, made one after the other on a new board over this memory. `es` are the events; each field that speaks of an event is about every place in the run where it stands.
pub record Law (width : ℕ) (mem : Memory) (calls : List Call) (replies : List Reply) : Type 0 where
  -- each reply is that of a plain book that is kept from a new one on
  pub book : (b : Book) × Leads width mem new_book calls replies b
  -- after every part of the run the standing entries can be listed
  pub listed : (before since : List Event) → events calls replies ≡ before ++ since → (entries : List Entry) × Standing width before entries
  -- an open past its other checks is crowded exactly if, with its link, some set would hold more standing links than k times its spaces
  pub crowding :
      (before since : List Event) (l : Link) (o : ℕ) (v : Columns) (lent : Lent) (r : Reply) (entries : List Entry)
      → events calls replies ≡ before ++ ((opening l o v lent, r) ∷ since) → Standing width before entries
      → Passed (lent_row (size_after before).0 lent)
      → Passed (open_row (size_after before).0 l o v (stands_in l entries) mem.ledger (length entries))
      → CrowdingDecides (size_after before).1 (size_after before).0 (l ∷ links_of entries) r
  -- and so is each printed link in its turn
  pub printing :
      (before since : List Event) (m : Meaning) (k : ℕ) (lent : Lent) (r : Reply)
      → events calls replies ≡ before ++ ((set_up m k lent, r) ∷ since)
      → Passed (set_up_row (size_after before).0 k m.spaces (length m.links) mem lent)
      → AllLinksGood m.spaces m.links
      → PrintingDecides k m.spaces m.links r
  -- a look-up says yes exactly for a link that was laid and not closed since, and reads at most 2k cells
  pub look_ups :
      (before since : List Event) (l : Link) (answer : Bool) (cells : ℕ)
      → events calls replies ≡ before ++ ((look_up l, linked answer cells) ∷ since)
      → (T answer → (e : Entry) × T (same l e.link) × Stands width before e)
      × (((e : Entry) × T (same l e.link) × Stands width before e) → T answer)
      × (cells ≤ 2 * (size_after before).1)
  -- a total is the sum, column by column, over the values of the owner's standing links
  pub totals :
      (before since : List Event) (o : ℕ) (v : Columns) (entries : List Entry)
      → events calls replies ≡ before ++ ((total o, sum v) ∷ since) → Standing width before entries
      → v ≡ total_of width (of_owner o entries)
  -- counts are how many of the owner's links stand, and how many were opened and closed, 65,535 if above
  pub counting :
      (before since : List Event) (o s op cl : ℕ) (entries : List Entry)
      → events calls replies ≡ before ++ ((counts o, counted s op cl) ∷ since) → Standing width before entries
      → (s ≡ length (of_owner o entries)) × (op ≡ min 65535 (count_by (opened_for o) before)) × (cl ≡ min 65535 (count_by (closed_for_owner o) before))
