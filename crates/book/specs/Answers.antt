-- The book's reply to each call, and the book after it. Assumes nothing.
use Rattle.std.specs.Prelude.{◌≡◌, ℕ, ◌+◌, ◌*◌, ◌<◌, ◌≤◌, min, T, ◌⊎◌, List, [], ◌∷◌, length, take, Some, None}
use Rattle.maps.specs.Checks.{decided}
use Rattle.maps.specs.Density.{Crowded, SmallestOverfull}
use Rattle.maps.specs.LinkChecks.{FirstBadLink, AllLinksGood}
use Rattle.maps.specs.Links.{Link, Meaning, same}
use Rattle.maps.specs.Sets.{Spaces, bytes}
use Rattle.book.specs.Book.{Entry, Book, links_of, stands_in, On, of_owner, total_of, entered, struck_out, laid}
use Rattle.book.specs.Calls.{Memory, Call, Reply}
use Rattle.book.specs.Calls.Call.{set_up, opening, closing, look_up, total, counts}
use Rattle.book.specs.Calls.Reply.{refused, done, closed_for, linked, sum, counted}
use Rattle.book.specs.Rows.{set_up_row, lent_row, open_row, close_row, look_up_row, owner_row}

-- a refusal that names no place and no set leaves the book unchanged
abbrev pub refusal : Book → Book → Reply → ℕ → Type 0
refusal b b' r number = (r ≡ refused number None None) × (b' ≡ b)

-- the first bad link of the list refuses the map
pub record BadList (b : Book) (m : Meaning) (r : Reply) (b' : Book) : Type 0 where
  pub place : ℕ
  pub number : ℕ
  pub first : FirstBadLink m.spaces m.links place number
  pub reply : r ≡ refused number (Some place) None
  pub book : b' ≡ b

-- the map is crowded at the first link which, with those before it, makes an overfull set; the smallest such set is reported
pub record CrowdedAt (b : Book) (m : Meaning) (k : ℕ) (r : Reply) (b' : Book) : Type 0 where
  pub place : ℕ
  pub members : Spaces
  pub within : place < length m.links
  pub before : Crowded k m.spaces (take place m.links) → ⊥
  pub smallest : SmallestOverfull k m.spaces (take (place + 1) m.links) members
  pub reply : r ≡ refused 24 (Some place) (Some (bytes m.spaces members))
  pub book : b' ≡ b

-- no set is overfull, and the map is laid
pub record MapLaid (width : ℕ) (b : Book) (m : Meaning) (k : ℕ) (r : Reply) (b' : Book) : Type 0 where
  pub fits : Crowded k m.spaces m.links → ⊥
  pub reply : r ≡ done
  pub book : b' ≡ laid width b m k

-- a set-up past its first checks
abbrev pub SetsUp : (width : ℕ) → Book → Meaning → ℕ → Reply → Book → Type 0
SetsUp width b m k r b' =
    BadList b m r b' ⊎ (AllLinksGood m.spaces m.links × (CrowdedAt b m k r b' ⊎ MapLaid width b m k r b'))

-- with the link of the entry some set is overfull; the smallest such set is reported
pub record OpenCrowded (b : Book) (e : Entry) (r : Reply) (b' : Book) : Type 0 where
  pub members : Spaces
  pub smallest : SmallestOverfull b.depth b.spaces (e.link ∷ links_of b.entries) members
  pub reply : r ≡ refused 24 None (Some (bytes b.spaces members))
  pub book : b' ≡ b

-- with the link of the entry no set is overfull, and it is entered
pub record OpenEntered (b : Book) (e : Entry) (r : Reply) (b' : Book) : Type 0 where
  pub fits : Crowded b.depth b.spaces (e.link ∷ links_of b.entries) → ⊥
  pub reply : r ≡ done
  pub book : b' ≡ entered b e

-- an open past its first checks
abbrev pub Opens : Book → Entry → Reply → Book → Type 0
Opens b e r b' = OpenCrowded b e r b' ⊎ OpenEntered b e r b'

-- a close past its checks: the link's entry is struck out, and its owner replied
pub record Closes (b : Book) (l : Link) (r : Reply) (b' : Book) : Type 0 where
  pub entry : Entry
  pub on : On b.entries entry
  pub link : T (same l entry.link)
  pub reply : r ≡ closed_for entry.owner
  pub book : b' ≡ struck_out b l entry.owner

-- a look-up past its checks: how many cells were read is the table's matter, at most twice the depth
pub record LooksUp (b : Book) (l : Link) (r : Reply) (b' : Book) : Type 0 where
  pub cells : ℕ
  pub few : cells ≤ 2 * b.depth
  pub reply : r ≡ linked (stands_in l b.entries) cells
  pub book : b' ≡ b

abbrev pub Totals : (width : ℕ) → Book → (owner : ℕ) → Reply → Book → Type 0
Totals width b o r b' = (r ≡ sum (total_of width (of_owner o b.entries))) × (b' ≡ b)

-- the counts of opened and closed links stop at 65,535
abbrev pub Counts : Book → (owner : ℕ) → Reply → Book → Type 0
Counts b o r b' = (r ≡ counted (length (of_owner o b.entries)) (min 65535 (b.opened o)) (min 65535 (b.closed o))) × (b' ≡ b)

-- The first check that holds refuses the call. `width` is how many columns the kind of value has.
abbrev pub Answers : (width : ℕ) → Memory → Book → Call → Reply → Book → Type 0
Answers width mem b (set_up m k lent) r b' =
    decided (set_up_row b.spaces k m.spaces (length m.links) mem lent) (refusal b b' r) (SetsUp width b m k r b')
Answers width mem b (opening l o v lent) r b' =
    decided (lent_row b.spaces lent) (refusal b b' r)
    (decided (open_row b.spaces l o v (stands_in l b.entries) mem.ledger (length b.entries)) (refusal b b' r)
    (Opens b (record { link = l; owner = o; value = v }) r b'))
Answers width mem b (closing l) r b' = decided (close_row b.spaces l (stands_in l b.entries)) (refusal b b' r) (Closes b l r b')
Answers width mem b (look_up l) r b' = decided (look_up_row b.spaces l) (refusal b b' r) (LooksUp b l r b')
Answers width mem b (total o) r b' = decided (owner_row o) (refusal b b' r) (Totals width b o r b')
Answers width mem b (counts o) r b' = decided (owner_row o) (refusal b b' r) (Counts b o r b')

-- these calls got these replies, and led the one book to the other
abbrev pub Leads : (width : ℕ) → Memory → Book → List Call → List Reply → Book → Type 0
Leads width mem b [] [] b' = b' ≡ b
Leads width mem b [] (r ∷ rs) b' = ⊥
Leads width mem b (c ∷ cs) [] b' = ⊥
Leads width mem b (c ∷ cs) (r ∷ rs) b' = (next : Book) × Answers width mem b c r next × Leads width mem next cs rs b'
