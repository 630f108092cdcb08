-- What one answer changes in the book: rows of checks, and a step by each call.
use Rattle.std.proofs.Common.{◌≡◌, ℕ, ◌+◌, ◌<◌, Bool, true, false, cond, T, eqb, ◌⊎◌, List, [], ◌∷◌, ◌++◌, map, length, Some, None, Option, sym, refl, ap, ◌∙◌, subst, inl, inr, ⊎_elim, append-nil, add-zero, arith}
use Rattle.std.proofs.lemmas.Bool.{cases_Bool, both_ways}
use Rattle.std.specs.List.{ContainsAt}
use Rattle.maps.specs.Checks.{Check, decided}
use Rattle.maps.specs.LinkChecks.{AllLinksGood}
use Rattle.maps.specs.Links.{Link, Meaning, same}
use Rattle.maps.specs.Sets.{bytes}
use Rattle.maps.proofs.Good.{T_true, true_T}
use Rattle.crowding.proofs.Sums.{bit}
use Rattle.book.specs.Answers.{refusal, SetsUp, Opens, Closes, LooksUp, Totals, Counts, Answers}
use Rattle.book.specs.Book.{Entry, Book, stands_in, On, Apart, without, printed_entry, entered, struck_out, laid}
use Rattle.book.specs.Calls.{Columns, Memory, Lent, Call, Reply}
use Rattle.book.specs.Calls.Call.{set_up, opening, closing, look_up, total, counts}
use Rattle.book.specs.Calls.Reply.{refused, done, closed_for}
use Rattle.book.specs.Events.{Event, Lays, Strikes, sized, opened_for, closed_for_owner}
use Rattle.book.specs.Events.Lays.{printing, opened}
use Rattle.book.specs.Events.Strikes.{struck}
use Rattle.book.specs.Rows.{set_up_row, lent_row, open_row, close_row, look_up_row, owner_row, Passed}
use Rattle.book.proofs.Entries.{apart_more, apart_without, apart_printed, on_append, on_left, on_right, on_printed, printed_on, on_without, without_on}

-- rows of checks

-- what holds of every refusal, and of what passed, holds
pub by_row : (row : List Check) (b b' : Book) (r : Reply) (passed : Type 0) (G : Reply → Book → Type 0)
    → ((n : ℕ) → G (refused n None None) b) → (Passed row → passed → G r b') → decided row (refusal b b' r) passed → G r b'
by_row [] b b' r passed G off go h = go tt h
by_row (c ∷ row) b b' r passed G off go (inl h) = subst (λ (x : Reply). G x b') (sym h.1.0) (subst (λ (x : Book). G (refused c.0 None None) x) (sym h.1.1) (off c.0))
by_row (c ∷ row) b b' r passed G off go (inr h) = by_row row b b' r passed G off (λ p. go (inr (h.0, p))) h.1

pub row_head : (c : Check) (row : List Check) → Passed (c ∷ row) → c.1 → ⊥
row_head c row (inl h) = absurd h.1
row_head c row (inr h) = h.0

pub row_tail : (c : Check) (row : List Check) → Passed (c ∷ row) → Passed row
row_tail c row (inl h) = absurd h.1
row_tail c row (inr h) = h.1

-- a row that no check refuses leaves what passed
pub row_passed : (row : List Check) (R : ℕ → Type 0) (passed : Type 0) → Passed row → decided row R passed → passed
row_passed [] R passed p h = h
row_passed (c ∷ row) R passed p (inl h) = absurd (row_head c row p h.0)
row_passed (c ∷ row) R passed p (inr h) = row_passed row R passed (row_tail c row p) h.1

-- one answer

-- a book with no link twice, and no entry before it has spaces
pub record Sound (b : Book) : Type 0 where
  pub apart : Apart b.entries
  pub none : b.spaces ≡ 0 → b.entries ≡ []

-- what one event changes
pub record Step (width : ℕ) (b : Book) (ev : Event) (b' : Book) : Type 0 where
  pub on : (e : Entry) → On b'.entries e → Lays width ev e ⊎ (On b.entries e × (Strikes ev e.link → ⊥))
  pub lays : (e : Entry) → Lays width ev e → On b'.entries e
  pub keeps : (e : Entry) → On b.entries e → (Strikes ev e.link → ⊥) → On b'.entries e
  pub sound : Sound b → Sound b'
  pub size : ◌≡◌ {A = ℕ × ℕ} (b'.spaces, b'.depth) (sized (b.spaces, b.depth) ev)
  pub opened : (o : ℕ) → b'.opened o ≡ b.opened o + cond (opened_for o ev) 1 0
  pub closed : (o : ℕ) → b'.closed o ≡ b.closed o + cond (closed_for_owner o ev) 1 0

-- an event that changes nothing
record Idle (width : ℕ) (ev : Event) : Type 0 where
  lays : (e : Entry) → Lays width ev e → ⊥
  strikes : (l : Link) → Strikes ev l → ⊥
  size : (s : ℕ × ℕ) → sized s ev ≡ s
  opened : (o : ℕ) → opened_for o ev ≡ false
  closed : (o : ℕ) → closed_for_owner o ev ≡ false

idle_set_up : (width : ℕ) (m : Meaning) (k : ℕ) (lent : Lent) (n : ℕ) (p : Option ℕ) (s : Option (List ℕ)) → Idle width (set_up m k lent, refused n p s)
idle_set_up width m k lent n p s = record { lays = λ e h. elim h [ ]; strikes = λ l h. elim h [ ]; size = λ s. refl; opened = λ o. refl; closed = λ o. refl }

idle_opening : (width : ℕ) (l : Link) (o : ℕ) (v : Columns) (lent : Lent) (n : ℕ) (p : Option ℕ) (s : Option (List ℕ)) → Idle width (opening l o v lent, refused n p s)
idle_opening width l o v lent n p s = record { lays = λ e h. elim h [ ]; strikes = λ l h. elim h [ ]; size = λ s. refl; opened = λ o. refl; closed = λ o. refl }

idle_closing : (width : ℕ) (l : Link) (n : ℕ) (p : Option ℕ) (s : Option (List ℕ)) → Idle width (closing l, refused n p s)
idle_closing width l n p s = record { lays = λ e h. elim h [ ]; strikes = λ l h. elim h [ ]; size = λ s. refl; opened = λ o. refl; closed = λ o. refl }

idle_look_up : (width : ℕ) (l : Link) (r : Reply) → Idle width (look_up l, r)
idle_look_up width l r = record { lays = λ e h. elim h [ ]; strikes = λ l h. elim h [ ]; size = λ s. refl; opened = λ o. refl; closed = λ o. refl }

idle_total : (width o : ℕ) (r : Reply) → Idle width (total o, r)
idle_total width o r = record { lays = λ e h. elim h [ ]; strikes = λ l h. elim h [ ]; size = λ s. refl; opened = λ o. refl; closed = λ o. refl }

idle_counts : (width o : ℕ) (r : Reply) → Idle width (counts o, r)
idle_counts width o r = record { lays = λ e h. elim h [ ]; strikes = λ l h. elim h [ ]; size = λ s. refl; opened = λ o. refl; closed = λ o. refl }

idle_step : (width : ℕ) (b : Book) (ev : Event) → Idle width ev → Step width b ev b
idle_step width b ev i = record {
  on = λ e h. inr (h, i.strikes e.link);
  lays = λ e h. absurd (i.lays e h);
  keeps = λ e h _. h;
  sound = λ s. s;
  size = sym (i.size (b.spaces, b.depth));
  opened = λ o. sym (ap (λ (t : Bool). b.opened o + bit t) (i.opened o) ∙ add-zero _);
  closed = λ o. sym (ap (λ (t : Bool). b.closed o + bit t) (i.closed o) ∙ add-zero _);
}

-- an accepted event: what it lays, and what it strikes

lays_printing : (width : ℕ) (m : Meaning) (k : ℕ) (lent : Lent) (e : Entry) → Lays width (set_up m k lent, done) e → (l : Link) × ContainsAt m.links l × (printed_entry width l ≡ e)
lays_printing width m k lent e (printing {l} h) = (l, h, refl)

lays_opened : (width : ℕ) (l : Link) (o : ℕ) (v : Columns) (lent : Lent) (e : Entry) → Lays width (opening l o v lent, done) e → record { link = l; owner = o; value = v } ≡ e
lays_opened width l o v lent e opened = refl

strikes_struck : (l : Link) (o : ℕ) (m : Link) → Strikes (closing l, closed_for o) m → T (same l m)
strikes_struck l o m (struck h) = h

one_added : (t : Bool) (n : ℕ) → cond t (n + 1) n ≡ n + cond t 1 0
one_added true n = refl
one_added false n = sym (add-zero n)

laid_step : (width : ℕ) (b : Book) (m : Meaning) (k : ℕ) (lent : Lent) → (0 < b.spaces → ⊥) → (m.spaces < 1 → ⊥) → AllLinksGood m.spaces m.links → Step width b (set_up m k lent, done) (laid width b m k)
laid_step width b m k lent first spaces good = record {
  on = λ e h. ⊎_elim
      (λ p. let (l, has, is) = printed_on width m.links e p in inl (subst (λ (x : Entry). Lays width (set_up m k lent, done) x) is (printing has)))
      (λ old. inr (old, λ s. elim s [ ]))
      (on_append (map (printed_entry width) m.links) b.entries e h);
  lays = λ e h. let (l, has, is) = lays_printing width m k lent e h in
      subst (λ (x : Entry). On (map (printed_entry width) m.links ++ b.entries) x) is
      (on_left (map (printed_entry width) m.links) b.entries (printed_entry width l) (on_printed width m.links l has));
  keeps = λ e h _. on_right (map (printed_entry width) m.links) b.entries e h;
  sound = λ s. record {
    apart = subst (λ (t : List Entry). Apart t)
        (sym (ap (λ (t : List Entry). map (printed_entry width) m.links ++ t) (s.none (omega (arith, first))) ∙ append-nil (map (printed_entry width) m.links)))
        (apart_printed width m.spaces m.links good);
    none = λ z. absurd (spaces (omega (arith, z)));
  };
  size = refl;
  opened = λ o. sym (add-zero _);
  closed = λ o. sym (add-zero _);
}

entered_step : (width : ℕ) (b : Book) (l : Link) (o : ℕ) (v : Columns) (lent : Lent) → (b.spaces ≡ 0 → ⊥) → stands_in l b.entries ≡ false → Step width b (opening l o v lent, done) (entered b (record { link = l; owner = o; value = v }))
entered_step width b l o v lent spaces new = record {
  on = λ e h. ⊎_elim
      (λ is. inl (subst (λ (x : Entry). Lays width (opening l o v lent, done) x) is opened))
      (λ old. inr (old, λ s. elim s [ ])) h;
  lays = λ e h. inl (lays_opened width l o v lent e h);
  keeps = λ e h _. inr h;
  sound = λ s. record { apart = apart_more (record { link = l; owner = o; value = v }) b.entries new s.apart; none = λ z. absurd (spaces z) };
  size = refl;
  opened = λ w. one_added (eqb w o) (b.opened w);
  closed = λ w. sym (add-zero _);
}

struck_step : (width : ℕ) (b : Book) (l : Link) (o : ℕ) → Step width b (closing l, closed_for o) (struck_out b l o)
struck_step width b l o = record {
  on = λ e h. let (old, n) = without_on l b.entries e h in inr (old, λ s. both_ways (same l e.link) n (T_true _ (strikes_struck l o e.link s)));
  lays = λ e h. elim h [ ];
  keeps = λ e h no. elim (cases_Bool (same l e.link)) [
    | inl t ↦ absurd (no (struck (true_T _ t)))
    | inr n ↦ on_without l b.entries e h n
  ];
  sound = λ s. record { apart = apart_without l b.entries s.apart; none = λ z. ap (without l) (s.none z) };
  size = refl;
  opened = λ w. sym (add-zero _);
  closed = λ w. one_added (eqb w o) (b.closed w);
}

-- what a row that no check refuses tells

set_up_passed : (spaces k n m : ℕ) (mem : Memory) (lent : Lent) → Passed (set_up_row spaces k n m mem lent) → (0 < spaces → ⊥) × (n < 1 → ⊥)
set_up_passed spaces k n m mem lent (inl x) = absurd x.1
set_up_passed spaces k n m mem lent (inr (first, inl x)) = absurd x.1
set_up_passed spaces k n m mem lent (inr (first, inr (deep, inl x))) = absurd x.1
set_up_passed spaces k n m mem lent (inr (first, inr (deep, inr (fits, x)))) = (first, λ low. fits (inl low))

open_passed : (n : ℕ) (l : Link) (o : ℕ) (v : Columns) (stands : Bool) (places standing : ℕ) → Passed (open_row n l o v stands places standing) → (n ≡ 0 → ⊥) × (stands ≡ false)
open_passed n l o v stands places standing (inl x) = absurd x.1
open_passed n l o v stands places standing (inr (ends, inl x)) = absurd x.1
open_passed n l o v stands places standing (inr (ends, inr (two, inl x))) = absurd x.1
open_passed n l o v stands places standing (inr (ends, inr (two, inr (owner, inl x)))) = absurd x.1
open_passed n l o v stands places standing (inr (ends, inr (two, inr (owner, inr (fits, inl x))))) = absurd x.1
open_passed n l o v stands places standing (inr (ends, inr (two, inr (owner, inr (fits, inr (new, x)))))) =
    (λ z. ends (inl (omega (arith, z))), elim (cases_Bool stands) [ inl t ↦ absurd (new (true_T stands t)) | inr f ↦ f ])

-- what holds of one reply and book holds of equal ones
come : (G : Reply → Book → Type 0) (r r' : Reply) (b b' : Book) → r ≡ r' → b ≡ b' → G r' b' → G r b
come G r r' b b' p q h = subst (λ (x : Reply). G x b) (sym p) (subst (λ (x : Book). G r' x) (sym q) h)

pub step : (width : ℕ) (mem : Memory) (b : Book) (c : Call) (r : Reply) (b' : Book) → Answers width mem b c r b' → Step width b (c, r) b'
step width mem b (set_up m k lent) r b' h =
    by_row (set_up_row b.spaces k m.spaces (length m.links) mem lent) b b' r (SetsUp width b m k r b') (λ x y. Step width b (set_up m k lent, x) y)
    (λ n. idle_step width b (set_up m k lent, refused n None None) (idle_set_up width m k lent n None None)) passed h
  where
    refused_one : (n : ℕ) (p : Option ℕ) (s : Option (List ℕ)) → r ≡ refused n p s → b' ≡ b → Step width b (set_up m k lent, r) b'
    refused_one n p s e f = come (λ x y. Step width b (set_up m k lent, x) y) r (refused n p s) b' b e f (idle_step width b (set_up m k lent, refused n p s) (idle_set_up width m k lent n p s))

    passed : Passed (set_up_row b.spaces k m.spaces (length m.links) mem lent) → SetsUp width b m k r b' → Step width b (set_up m k lent, r) b'
    passed p (inl x) = refused_one x.number (Some x.place) None x.reply x.book
    passed p (inr (good, inl x)) = refused_one 24 (Some x.place) (Some (bytes m.spaces x.members)) x.reply x.book
    passed p (inr (good, inr x)) =
        let (first, some) = set_up_passed b.spaces k m.spaces (length m.links) mem lent p in
        come (λ x y. Step width b (set_up m k lent, x) y) r done b' (laid width b m k) x.reply x.book (laid_step width b m k lent first some good)
step width mem b (opening l o v lent) r b' h =
    by_row (lent_row b.spaces lent) b b' r (decided (open_row b.spaces l o v (stands_in l b.entries) mem.ledger (length b.entries)) (refusal b b' r) (Opens b e r b')) (λ x y. Step width b (opening l o v lent, x) y)
    (λ n. idle_step width b (opening l o v lent, refused n None None) (idle_opening width l o v lent n None None))
    (λ _. by_row (open_row b.spaces l o v (stands_in l b.entries) mem.ledger (length b.entries)) b b' r (Opens b e r b') (λ x y. Step width b (opening l o v lent, x) y)
    (λ n. idle_step width b (opening l o v lent, refused n None None) (idle_opening width l o v lent n None None)) passed) h
  where
    e : Entry
    e = record { link = l; owner = o; value = v }

    passed : Passed (open_row b.spaces l o v (stands_in l b.entries) mem.ledger (length b.entries)) → Opens b e r b' → Step width b (opening l o v lent, r) b'
    passed p (inl x) =
        come (λ x y. Step width b (opening l o v lent, x) y) r (refused 24 None (Some (bytes b.spaces x.members))) b' b x.reply x.book
        (idle_step width b (opening l o v lent, refused 24 None (Some (bytes b.spaces x.members))) (idle_opening width l o v lent 24 None (Some (bytes b.spaces x.members))))
    passed p (inr x) =
        let (spaces, new) = open_passed b.spaces l o v (stands_in l b.entries) mem.ledger (length b.entries) p in
        come (λ x y. Step width b (opening l o v lent, x) y) r done b' (entered b e) x.reply x.book (entered_step width b l o v lent spaces new)
step width mem b (closing l) r b' h =
    by_row (close_row b.spaces l (stands_in l b.entries)) b b' r (Closes b l r b') (λ x y. Step width b (closing l, x) y)
    (λ n. idle_step width b (closing l, refused n None None) (idle_closing width l n None None))
    (λ _ p. come (λ x y. Step width b (closing l, x) y) r (closed_for p.entry.owner) b' (struck_out b l p.entry.owner) p.reply p.book (struck_step width b l p.entry.owner)) h
step width mem b (look_up l) r b' h =
    by_row (look_up_row b.spaces l) b b' r (LooksUp b l r b') (λ x y. Step width b (look_up l, x) y)
    (λ n. idle_step width b (look_up l, refused n None None) (idle_look_up width l (refused n None None)))
    (λ _ p. subst (λ (x : Book). Step width b (look_up l, r) x) (sym p.book) (idle_step width b (look_up l, r) (idle_look_up width l r))) h
step width mem b (total o) r b' h =
    by_row (owner_row o) b b' r (Totals width b o r b') (λ x y. Step width b (total o, x) y)
    (λ n. idle_step width b (total o, refused n None None) (idle_total width o (refused n None None)))
    (λ _ p. subst (λ (x : Book). Step width b (total o, r) x) (sym p.1) (idle_step width b (total o, r) (idle_total width o r))) h
step width mem b (counts o) r b' h =
    by_row (owner_row o) b b' r (Counts b o r b') (λ x y. Step width b (counts o, x) y)
    (λ n. idle_step width b (counts o, refused n None None) (idle_counts width o (refused n None None)))
    (λ _ p. subst (λ (x : Book). Step width b (counts o, r) x) (sym p.1) (idle_step width b (counts o, r) (idle_counts width o r))) h
