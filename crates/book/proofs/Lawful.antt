-- A plain book's replies obey the law over runs.
use Rattle.std.proofs.Common.{◌≡◌, ℕ, ◌*◌, ◌≤◌, min, Bool, List, ◌∷◌, length, get_or, take, sym, refl, ap, ◌∙◌, subst, inl, inr, ⊎_elim, arith}
use Rattle.maps.specs.Checks.{decided}
use Rattle.maps.specs.LinkChecks.{link_checks, AllLinksGood}
use Rattle.maps.specs.Links.{Link, Meaning, same}
use Rattle.maps.proofs.Good.{T_true, true_T}
use Rattle.crowding.specs.Bags.{SameLinks}
use Rattle.book.specs.Answers.{refusal, SetsUp, Opens, LooksUp, Totals, Counts, Answers}
use Rattle.book.specs.Book.{Entry, Book, new_book, links_of, stands_in, Apart, of_owner, total_of}
use Rattle.book.specs.Calls.{Columns, Memory, Lent, Reply}
use Rattle.book.specs.Calls.Call.{set_up, opening, look_up, total, counts}
use Rattle.book.specs.Calls.Reply.{linked, sum, counted}
use Rattle.book.specs.Law.{CrowdingDecides, PrintingDecides}
use Rattle.book.specs.Rows.{set_up_row, lent_row, open_row, look_up_row, owner_row, Passed}
use Rattle.book.specs.Theorems.{BookIsLawful}
use Rattle.book.proofs.Entries.{stands_on, on_stands}
use Rattle.book.proofs.Orderless.{SameEntries, length_same, owner_total_same, owner_length_same, links_same, stands_same, links_more, crowded_same, smallest_same}
use Rattle.book.proofs.Steps.{by_row, row_passed}
use Rattle.book.proofs.Runs.{at_part, sound_after, size_shown, opened_shown, closed_shown, stands_of_on, on_of_stands, standing, standing_same}

module _ (width : ℕ) (mem : Memory) where
  -- replies by their calls, from the book before them

  looked_up : (b b' : Book) (l : Link) (answer : Bool) (cells : ℕ) → Answers width mem b (look_up l) (linked answer cells) b' → (answer ≡ stands_in l b.entries) × (cells ≤ 2 * b.depth)
  looked_up b b' l answer cells h =
      by_row (look_up_row b.spaces l) b b' (linked answer cells) (LooksUp b l (linked answer cells) b')
      (λ x _. x ≡ linked answer cells → (answer ≡ stands_in l b.entries) × (cells ≤ 2 * b.depth))
      (λ n e. absurd (let z : ◌≡◌ {A = ℕ} 0 1 = cc in omega arith))
      (λ _ p _. let e = p.reply in let c : cells ≡ p.cells = cc in (cc, omega (arith, p.few, c))) h refl

  totalled : (b b' : Book) (o : ℕ) (v : Columns) → Answers width mem b (total o) (sum v) b' → v ≡ total_of width (of_owner o b.entries)
  totalled b b' o v h =
      by_row (owner_row o) b b' (sum v) (Totals width b o (sum v) b') (λ x _. x ≡ sum v → v ≡ total_of width (of_owner o b.entries))
      (λ n e. absurd (let z : ◌≡◌ {A = ℕ} 0 1 = cc in omega arith))
      (λ _ p _. let e = p.0 in cc) h refl

  counted_up : (b b' : Book) (o s op cl : ℕ) → Answers width mem b (counts o) (counted s op cl) b'
      → (s ≡ length (of_owner o b.entries)) × (op ≡ min 65535 (b.opened o)) × (cl ≡ min 65535 (b.closed o))
  counted_up b b' o s op cl h =
      by_row (owner_row o) b b' (counted s op cl) (Counts b o (counted s op cl) b')
      (λ x _. x ≡ counted s op cl → (s ≡ length (of_owner o b.entries)) × (op ≡ min 65535 (b.opened o)) × (cl ≡ min 65535 (b.closed o)))
      (λ n e. absurd (let z : ◌≡◌ {A = ℕ} 0 1 = cc in omega arith))
      (λ _ p _. let e = p.0 in (cc, cc, cc)) h refl

  decided_open : (b b' : Book) (l : Link) (o : ℕ) (v : Columns) (lent : Lent) (r : Reply) (entries : List Entry) → Answers width mem b (opening l o v lent) r b'
      → Apart b.entries → Apart entries → SameEntries entries b.entries → Passed (lent_row b.spaces lent)
      → Passed (open_row b.spaces l o v (stands_in l entries) mem.ledger (length entries)) → CrowdingDecides b.depth b.spaces (l ∷ links_of entries) r
  decided_open b b' l o v lent r entries h apart apart' s p q =
      ⊎_elim
      (λ x. inl (x.members, smallest_same b.depth b.spaces (l ∷ links_of b.entries) (l ∷ links_of entries) back x.members x.smallest, x.reply))
      (λ x. inr (λ c. x.fits (crowded_same b.depth b.spaces (l ∷ links_of entries) (l ∷ links_of b.entries) there c), x.reply))
      opens
    where
      there : SameLinks (l ∷ links_of entries) (l ∷ links_of b.entries)
      there = links_more l (links_of entries) (links_of b.entries) (links_same entries b.entries apart' apart s)

      back : SameLinks (l ∷ links_of b.entries) (l ∷ links_of entries)
      back p t = sym (there p t)

      row_same : Passed (open_row b.spaces l o v (stands_in l b.entries) mem.ledger (length b.entries))
      row_same =
          subst (λ (n : ℕ). Passed (open_row b.spaces l o v (stands_in l b.entries) mem.ledger n)) (length_same entries b.entries apart' apart s)
          (subst (λ (t : Bool). Passed (open_row b.spaces l o v t mem.ledger (length entries))) (stands_same l entries b.entries s) q)

      opens : Opens b (record { link = l; owner = o; value = v }) r b'
      opens =
          row_passed (open_row b.spaces l o v (stands_in l b.entries) mem.ledger (length b.entries)) (refusal b b' r) (Opens b (record { link = l; owner = o; value = v }) r b') row_same
          (row_passed (lent_row b.spaces lent) (refusal b b' r)
          (decided (open_row b.spaces l o v (stands_in l b.entries) mem.ledger (length b.entries)) (refusal b b' r) (Opens b (record { link = l; owner = o; value = v }) r b')) p h)

  decided_printing : (b b' : Book) (m : Meaning) (k : ℕ) (lent : Lent) (r : Reply) → Answers width mem b (set_up m k lent) r b'
      → Passed (set_up_row b.spaces k m.spaces (length m.links) mem lent) → AllLinksGood m.spaces m.links → PrintingDecides k m.spaces m.links r
  decided_printing b b' m k lent r h p good =
      decides (row_passed (set_up_row b.spaces k m.spaces (length m.links) mem lent) (refusal b b' r) (SetsUp width b m k r b') p h)
    where
      decides : SetsUp width b m k r b' → PrintingDecides k m.spaces m.links r
      decides (inl x) =
          absurd (row_passed (link_checks m.spaces (take x.place m.links) (get_or m.links x.place (0, 0))) (λ n. n ≡ x.number) ⊥ (good x.place x.first.within) x.first.here)
      decides (inr (_, inl x)) = inl (x.place, x.members, x.within, x.before, x.smallest, x.reply)
      decides (inr (_, inr x)) = inr (x.fits, x.reply)

pub book_is_lawful : BookIsLawful
book_is_lawful width mem calls replies b h = record {
  book = (b, h);
  listed = λ before since is.
      let (mid, ran, _) = at_part width mem new_book calls replies b before since h is in
      (mid.entries, standing width mem before mid ran);
  crowding = λ before since l o v lent r entries is st p q.
      let (mid, ran, (next, answer, _)) = at_part width mem new_book calls replies b before ((opening l o v lent, r) ∷ since) h is in
      let size = size_shown width mem before mid ran in
      subst (λ (s : ℕ × ℕ). CrowdingDecides s.1 s.0 (l ∷ links_of entries) r) size
      (decided_open width mem mid next l o v lent r entries answer (sound_after width mem before mid ran).apart st.apart (standing_same width mem before mid ran entries st)
      (subst (λ (s : ℕ × ℕ). Passed (lent_row s.0 lent)) (sym size) p)
      (subst (λ (s : ℕ × ℕ). Passed (open_row s.0 l o v (stands_in l entries) mem.ledger (length entries))) (sym size) q));
  printing = λ before since m k lent r is p good.
      let (mid, ran, (next, answer, _)) = at_part width mem new_book calls replies b before ((set_up m k lent, r) ∷ since) h is in
      decided_printing width mem mid next m k lent r answer
      (subst (λ (s : ℕ × ℕ). Passed (set_up_row s.0 k m.spaces (length m.links) mem lent)) (sym (size_shown width mem before mid ran)) p) good;
  look_ups = λ before since l answer cells is.
      let (mid, ran, (next, a, _)) = at_part width mem new_book calls replies b before ((look_up l, linked answer cells) ∷ since) h is in
      let (told, few) = looked_up width mem mid next l answer cells a in (
        (λ t. let (e, on, s) = on_stands l mid.entries (sym told ∙ T_true answer t) in (e, true_T (same l e.link) s, stands_of_on width mem before mid ran e on)),
        (λ x. true_T answer (told ∙ stands_on l mid.entries x.0 (on_of_stands width mem before mid ran x.0 x.2) (T_true (same l x.0.link) x.1))),
        subst (λ (s : ℕ × ℕ). cells ≤ 2 * s.1) (size_shown width mem before mid ran) few,
      );
  totals = λ before since o v entries is st.
      let (mid, ran, (next, answer, _)) = at_part width mem new_book calls replies b before ((total o, sum v) ∷ since) h is in
      totalled width mem mid next o v answer
      ∙ sym (owner_total_same entries mid.entries st.apart (sound_after width mem before mid ran).apart (standing_same width mem before mid ran entries st) width o);
  counting = λ before since o s op cl entries is st.
      let (mid, ran, (next, answer, _)) = at_part width mem new_book calls replies b before ((counts o, counted s op cl) ∷ since) h is in
      let (standing_are, opened_are, closed_are) = counted_up width mem mid next o s op cl answer in (
        standing_are ∙ sym (owner_length_same entries mid.entries st.apart (sound_after width mem before mid ran).apart (standing_same width mem before mid ran entries st) o),
        opened_are ∙ ap (min 65535) (opened_shown width mem before mid ran o),
        closed_are ∙ ap (min 65535) (closed_shown width mem before mid ran o),
      );
}
