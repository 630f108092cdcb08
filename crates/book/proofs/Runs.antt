-- Runs of calls: one more call, the book at each place of a run, and what stands there.
use Rattle.std.proofs.Common.{◌≡◌, ℕ, ◌+◌, cond, ◌⊎◌, List, [], ◌∷◌, ◌++◌, fold, count_by, sym, refl, ap, ◌∙◌, subst, inl, inr, ⊎_elim}
use Rattle.std.specs.List.{AllByRecursion}
use Rattle.book.specs.Answers.{Answers, Leads}
use Rattle.book.specs.Book.{Entry, Book, new_book, On}
use Rattle.book.specs.Calls.{Memory, Call, Reply}
use Rattle.book.specs.Events.{Event, events, Strikes, Stands, Standing, sized, size_after, opened_for, closed_for_owner}
use Rattle.book.proofs.Entries.{apart_none}
use Rattle.book.proofs.Orderless.{SameEntries}
use Rattle.book.proofs.Steps.{Sound, Step, step}

module _ (width : ℕ) (mem : Memory) where
  -- one more call
  pub leads_more : (b : Book) (cs : List Call) (rs : List Reply) (b' : Book) (c : Call) (r : Reply) (b'' : Book)
      → Leads width mem b cs rs b' → Answers width mem b' c r b'' → Leads width mem b (cs ++ (c ∷ [])) (rs ++ (r ∷ [])) b''
  leads_more b [] [] b' c r b'' h a = (b'', subst (λ (t : Book). Answers width mem t c r b'') h a, refl)
  leads_more b [] (y ∷ rs) b' c r b'' h a = absurd h
  leads_more b (x ∷ cs) [] b' c r b'' h a = absurd h
  leads_more b (x ∷ cs) (y ∷ rs) b' c r b'' h a = (h.0, h.1, leads_more h.0 cs rs b' c r b'' h.2 a)

  -- these events led the one book to the other
  abbrev pub Ran : Book → List Event → Book → Type 0
  Ran b [] b' = b' ≡ b
  Ran b (ev ∷ evs) b' = (next : Book) × Answers width mem b ev.0 ev.1 next × Ran next evs b'

  pub leads_ran : (b : Book) (cs : List Call) (rs : List Reply) (b' : Book) → Leads width mem b cs rs b' → Ran b (events cs rs) b'
  leads_ran b [] [] b' h = h
  leads_ran b [] (r ∷ rs) b' h = absurd h
  leads_ran b (c ∷ cs) [] b' h = absurd h
  leads_ran b (c ∷ cs) (r ∷ rs) b' h = (h.0, h.1, leads_ran h.0 cs rs b' h.2)

  -- a run in two parts, and the book between them
  pub ran_parts : (b : Book) (xs ys : List Event) (b' : Book) → Ran b (xs ++ ys) b' → (mid : Book) × Ran b xs mid × Ran mid ys b'
  ran_parts b [] ys b' h = (b, refl, h)
  ran_parts b (x ∷ xs) ys b' h = let (mid, before, after) = ran_parts h.0 xs ys b' h.2 in (mid, (h.0, h.1, before), after)

  -- the books about the parts of a run that a plain book leads
  pub at_part : (b : Book) (cs : List Call) (rs : List Reply) (b' : Book) (before since : List Event) → Leads width mem b cs rs b' → events cs rs ≡ before ++ since
      → (mid : Book) × Ran b before mid × Ran mid since b'
  at_part b cs rs b' before since h is = ran_parts b before since b' (subst (λ (t : List Event). Ran b t b') is (leads_ran b cs rs b' h))

  -- what each answer keeps, a run keeps
  ran_sound : (b : Book) (evs : List Event) (b' : Book) → Ran b evs b' → Sound b → Sound b'
  ran_sound b [] b' h s = subst (λ (t : Book). Sound t) (sym h) s
  ran_sound b (ev ∷ evs) b' h s = ran_sound h.0 evs b' h.2 ((step width mem b ev.0 ev.1 h.0 h.1).sound s)

  -- what a book shows after some events, if each changes it in a known way
  shown : {X : Type 0} (show : Book → X) (change : X → Event → X) → ((b : Book) (ev : Event) (b' : Book) → Step width b ev b' → show b' ≡ change (show b) ev)
      → (b : Book) (evs : List Event) (b' : Book) → Ran b evs b' → show b' ≡ fold change (show b) evs
  shown show change one b [] b' h = ap show h
  shown show change one b (ev ∷ evs) b' h = shown show change one h.0 evs b' h.2 ∙ ap (λ x. fold change x evs) (one b ev h.0 (step width mem b ev.0 ev.1 h.0 h.1))

  -- what a book shows after a run from a new one
  module _ (evs : List Event) (b : Book) (ran : Ran new_book evs b) where
    pub sound_after : Sound b
    sound_after = ran_sound new_book evs b ran (record { apart = apart_none; none = λ _. refl })

    pub size_shown : ◌≡◌ {A = ℕ × ℕ} (b.spaces, b.depth) (size_after evs)
    size_shown = shown (λ b. (b.spaces, b.depth)) sized (λ b ev b' s. s.size) new_book evs b ran

    pub opened_shown : (o : ℕ) → b.opened o ≡ count_by (opened_for o) evs
    opened_shown o = shown (λ b. b.opened o) (λ n ev. n + cond (opened_for o ev) 1 0) (λ b ev b' s. s.opened o) new_book evs b ran

    pub closed_shown : (o : ℕ) → b.closed o ≡ count_by (closed_for_owner o) evs
    closed_shown o = shown (λ b. b.closed o) (λ n ev. n + cond (closed_for_owner o ev) 1 0) (λ b ev b' s. s.closed o) new_book evs b ran

  -- an entry is on the book after some events exactly if it was laid among them and not closed since, or was on before and never closed

  on_laid : (e : Entry) (b : Book) (evs : List Event) (b' : Book) → Ran b evs b' → On b'.entries e → Stands width evs e ⊎ (On b.entries e × AllByRecursion (λ f. Strikes f e.link → ⊥) evs)
  on_laid e b [] b' h on = inr (subst (λ (t : Book). On t.entries e) h on, tt)
  on_laid e b (ev ∷ evs) b' h on =
      ⊎_elim
      (λ st. inl (record { before = ev ∷ st.before; event = st.event; since = st.since; split = ap (λ (t : List Event). ev ∷ t) st.split; lays = st.lays; open_since = st.open_since }))
      (λ p. ⊎_elim
      (λ here. inl (record { before = []; event = ev; since = evs; split = refl; lays = here; open_since = p.1 }))
      (λ q. inr (q.0, (q.1, p.1)))
      ((step width mem b ev.0 ev.1 h.0 h.1).on e p.0))
      (on_laid e h.0 evs b' h.2 on)

  on_kept : (e : Entry) (b : Book) (evs : List Event) (b' : Book) → Ran b evs b' → On b.entries e → AllByRecursion (λ f. Strikes f e.link → ⊥) evs → On b'.entries e
  on_kept e b [] b' h on a = subst (λ (t : Book). On t.entries e) (sym h) on
  on_kept e b (ev ∷ evs) b' h on a = on_kept e h.0 evs b' h.2 ((step width mem b ev.0 ev.1 h.0 h.1).keeps e on a.0) a.1

  module _ (evs : List Event) (b : Book) (ran : Ran new_book evs b) where
    pub stands_of_on : (e : Entry) → On b.entries e → Stands width evs e
    stands_of_on e on = ⊎_elim (λ st. st) (λ p. absurd p.0) (on_laid e new_book evs b ran on)

    pub on_of_stands : (e : Entry) → Stands width evs e → On b.entries e
    on_of_stands e st =
        let (mid, before, (next, answer, after)) = ran_parts new_book st.before (st.event ∷ st.since) b (subst (λ (t : List Event). Ran new_book t b) st.split ran) in
        on_kept e next st.since b after ((step width mem mid st.event.0 st.event.1 next answer).lays e st.lays) st.open_since

    -- the book's entries are what stands
    pub standing : Standing width evs b.entries
    standing = record { sound = stands_of_on; whole = on_of_stands; apart = (sound_after evs b ran).apart }

    -- and so is every other list of what stands, in some order
    pub standing_same : (entries : List Entry) → Standing width evs entries → SameEntries entries b.entries
    standing_same entries s = (λ e on. on_of_stands e (s.sound e on), λ e on. s.whole e (stands_of_on e on))
