-- The search for a repeated link: the walks along the chain of one space.
use Rattle.std.proofs.Common.{◌≡◌, ℕ, zero, suc, ◌+◌, ◌-◌, ◌<◌, ◌≤◌, min, Bool, true, false, cond, not, ◌&&◌, ◌||◌, eqb, ltb, List, [], ◌∷◌, ◌++◌, length, get_or, take, drop, set, Option, sym, refl, ap, ◌∙◌, subst, inl, inr, arith}
use Rattle.std.proofs.lemmas.List.{take_more, drop_more, drop_all, get_or-set_same, get_or-set_other}
use Rattle.std.proofs.lemmas.Bool.{cases_eq, cases_Bool, cases_lt, eq-eqb, ne_eqb, lt-ltb, le-ltb, or_left, both_ways}
use Rattle.std.proofs.lemmas.Bool.Decides.{nat_tests}
use Rattle.maps.specs.declared.chains.Chained.{Chained}
use Rattle.maps.specs.declared.marks.Marks.{Marks}
use Rattle.maps.specs.Links.{Link, same, some_same}
use Rattle.maps.specs.LinkChecks.{EndsGood}
use Rattle.maps.specs.Chains.{touches, other, Next, StepsRound}
use Rattle.maps.specs.Marks.{marked}
use Rattle.maps.specs.Past.{SameFrom}
use Rattle.maps.specs.Repeats.{OnlyMet, NoneMet, FirstRepeatOf, NoRepeatOf, FirstRepeat}
use Rattle.maps.specs.Searching.{SameMarks, StillLent}
use Rattle.maps.proofs.Walks.{FirstRepeatBelow, Marking, Unmarking}
use Rattle.maps.proofs.Chaining.{ends_at}
use Rattle.maps.proofs.Past.{past_same, past_trans, past_write}

-- a link that touches v joins it to its other end
pub same_of : (c d v x : ℕ) → (eqb c v || eqb d v) ≡ true → ((eqb v c && eqb x d) || (eqb v d && eqb x c)) ≡ eqb x (cond (eqb c v) d c)
same_of c d v x h = grind (arith, nat_tests)

pub same_not : (c d v x : ℕ) → (eqb c v || eqb d v) ≡ false → ((eqb v c && eqb x d) || (eqb v d && eqb x c)) ≡ false
same_not c d v x h = grind (arith, nat_tests)

same_alike : (a b c d v : ℕ) → (eqb a v || eqb b v) ≡ true → ((eqb a c && eqb b d) || (eqb a d && eqb b c)) ≡ ((eqb v c && eqb (cond (eqb a v) b a) d) || (eqb v d && eqb (cond (eqb a v) b a) c))
same_alike a b c d v h = grind (arith, nat_tests)

some_alike : (l : Link) (v : ℕ) → touches v l ≡ true → (xs : List Link) → some_same l xs ≡ some_same (v, other v l) xs
some_alike l v t [] = refl
some_alike l v t (x ∷ xs) =
    ap (λ (b : Bool). b || some_same l xs) (same_alike l.0 l.1 x.0 x.1 v t) ∙ ap (λ (b : Bool). same (v, other v l) x || b) (some_alike l v t xs)

pub other_in : (n : ℕ) (links : List Link) (p v : ℕ) → EndsGood n links → p < length links → other v (get_or links p (0, 0)) < n
other_in n links p v g l = let o = ends_at n links p g l in grind (arith, o.0, o.1)

or_false : (a b : Bool) → b ≡ false → (a || b) ≡ a
or_false a b e = grind arith

false_or : (a b : Bool) → a ≡ false → (a || b) ≡ b
false_or a b e = grind arith

-- the links among the first, and from a place on

some_push : (l : Link) (xs : List Link) (y : Link) → some_same l (xs ++ y ∷ []) ≡ (some_same l xs || same l y)
some_push l [] y = or_false (same l y) false refl
some_push l (x ∷ xs) y = ap (λ (t : Bool). same l x || t) (some_push l xs y) ∙ assoc (same l x) (some_same l xs) (same l y)
  where
    assoc : (a b c : Bool) → (a || (b || c)) ≡ ((a || b) || c)
    assoc a b c = grind arith

pub some_more : (l : Link) (links : List Link) (c : ℕ) → c < length links → some_same l (take (c + 1) links) ≡ (some_same l (take c links) || same l (get_or links c (0, 0)))
some_more l links c h = ap (some_same l) (take_more links c (0, 0) h) ∙ some_push l (take c links) (get_or links c (0, 0))

some_drop : (l : Link) (links : List Link) (c : ℕ) → c < length links → some_same l (drop c links) ≡ (same l (get_or links c (0, 0)) || some_same l (drop (c + 1) links))
some_drop l links c h = ap (some_same l) (drop_more links c (0, 0) h)

module _ (links : List Link) (v x : ℕ) where
  quiet_some : (p m : ℕ) → p + m ≤ length links → ((j : ℕ) → p ≤ j → j < p + m → touches v (get_or links j (0, 0)) ≡ false) →
      (some_same (v, x) (take (p + m) links) ≡ some_same (v, x) (take p links)) × (some_same (v, x) (drop p links) ≡ some_same (v, x) (drop (p + m) links))
  quiet_some p zero l h =
      let e : p + 0 ≡ p = omega arith in
      (ap (λ (i : ℕ). some_same (v, x) (take i links)) e, ap (λ (i : ℕ). some_same (v, x) (drop i links)) (sym e))
  quiet_some p (suc m) l h =
      let e : p + suc m ≡ p + m + 1 = omega arith in
      let off : same (v, x) (get_or links (p + m) (0, 0)) ≡ false = same_not (get_or links (p + m) (0, 0)).0 (get_or links (p + m) (0, 0)).1 v x (h (p + m) (omega arith) (omega arith)) in
      let (front, back) = quiet_some p m (omega arith) (λ j a b. h j a (omega arith)) in (
        ap (λ (i : ℕ). some_same (v, x) (take i links)) e ∙ (some_more (v, x) links (p + m) (omega arith) ∙ (or_false _ _ off ∙ front)),
        back ∙ (some_drop (v, x) links (p + m) (omega arith) ∙ (false_or _ _ off ∙ ap (λ (i : ℕ). some_same (v, x) (drop i links)) (sym e))),
      )

  -- nothing changes up to the next link of v
  next_some : (i p : ℕ) → Next links v i p → (some_same (v, x) (take p links) ≡ some_same (v, x) (take i links)) × (some_same (v, x) (drop i links) ≡ some_same (v, x) (drop p links))
  next_some i p h =
      let e : i + (p - i) ≡ p = omega (arith, h.low) in
      let q = quiet_some i (p - i) (omega (arith, h.low, h.high)) (λ j a b. h.quiet j a (omega arith)) in
      (ap (λ (j : ℕ). some_same (v, x) (take j links)) (sym e) ∙ q.0, q.1 ∙ ap (λ (j : ℕ). some_same (v, x) (drop j links)) e)

-- a link among the first is one of all
some_part : (l : Link) (xs : List Link) (i : ℕ) → some_same l (take i xs) ≡ true → some_same l xs ≡ true
some_part l [] zero e = e
some_part l [] (suc i) e = e
some_part l (x ∷ xs) zero e = absurd (both_ways false refl e)
some_part l (x ∷ xs) (suc i) e =
    elim (cases_Bool (same l x)) [
      | inl t ↦ or_left _ _ t
      | inr f ↦ false_or _ _ f ∙ some_part l xs i (sym (false_or _ _ f) ∙ e)
    ]

-- one byte written
marked_here : (marks : List ℕ) (w b : ℕ) → w < length marks → marked (set marks w b) w ≡ not (eqb b 0)
marked_here marks w b l = ap (λ (x : ℕ). not (eqb x 0)) (get_or-set_same marks w b 0 l)

marked_else : (marks : List ℕ) (w b x : ℕ) → (x ≡ w → ⊥) → marked (set marks w b) x ≡ marked marks x
marked_else marks w b x ne = ap (λ (y : ℕ). not (eqb y 0)) (get_or-set_other marks w x b 0 ne)

written : (n : ℕ) (marks marks' : List ℕ) (w b : ℕ) → w < n → marks' ≡ cond (ltb w n) (set marks w b) marks → marks' ≡ set marks w b
written n marks marks' w b l e = e ∙ ap (λ (t : Bool). cond t (set marks w b) marks) (lt-ltb w n l)

test_in : (w n : ℕ) (b r : Bool) → w < n → r ≡ (ltb w n && b) → b ≡ r
test_in w n b r l e = let t : ltb w n ≡ true = lt-ltb w n l in grind (arith, nat_tests)

module _ {n : ℕ} {links : List Link} (v : ℕ) (ends : EndsGood n links) where
  pub marking_start : {p : ℕ} {marks : List ℕ} → Next links v 0 p → NoneMet n marks → Marking n links v p marks
  marking_start {p} {marks} h none =
      record {
        high = h.high;
        on = h.here;
        met = λ w lw. none w lw ∙ sym (next_some links v w 0 p h).0;
        clean = λ q lq t. absurd (both_ways _ (h.quiet q (omega arith) lq) t);
      }

  pub marking_only : {p : ℕ} {marks : List ℕ} → Marking n links v p marks → OnlyMet n links v marks
  marking_only {p} {marks} s w lw t = some_part (v, w) links p (sym (s.met w lw) ∙ t)

  pub marking_first : {p : ℕ} {marks : List ℕ} → length links ≤ p → Marking n links v p marks → NoRepeatOf links v
  marking_first {p} {marks} l s q lq t = s.clean q (omega arith) t

  module _ {p w m : ℕ} {marks : List ℕ} (s : Marking n links v p marks) (l : p < length links) (is : w ≡ other v (get_or links p (0, 0))) (size : m ≡ n) where
    w_in : w < n
    w_in = omega (arith, other_in n links p v ends l)

    met_here : (r : Bool) → r ≡ (ltb w m && marked marks w) → some_same (get_or links p (0, 0)) (take p links) ≡ r
    met_here r e =
        some_alike (get_or links p (0, 0)) v (s.on l) (take p links)
        ∙ (ap (λ (x : ℕ). some_same (v, x) (take p links)) (sym is)
        ∙ (sym (s.met w w_in)
        ∙ test_in w m (marked marks w) r (omega (arith, w_in)) e))

    pub marking_found : (r : Bool) → r ≡ (ltb w m && marked marks w) → r ≡ true → FirstRepeatOf links v p
    marking_found r e found = record { within = l; before = s.clean; here = met_here r e ∙ found }

    pub marking_step : (r : Bool) → r ≡ (ltb w m && marked marks w) → r ≡ false → n ≤ length marks → {marks' : List ℕ} → marks' ≡ cond (ltb w m) (set marks w 1) marks →
        {p' : ℕ} → Next links v (p + 1) p' → Marking n links v p' marks'
    marking_step r e unmet long {marks'} set_is {p'} h =
        let new : marks' ≡ set marks w 1 = written m marks marks' w 1 (omega (arith, w_in)) set_is in
        record {
          high = h.high;
          on = h.here;
          met = λ x lx.
              ap (λ (ms : List ℕ). marked ms x) new ∙ (elim (cases_eq x w) [
                | inl q ↦ ap (marked (set marks w 1)) q ∙ (marked_here marks w 1 (omega (arith, w_in)) ∙ sym (now x ∙ ap (λ (b : Bool). some_same (v, x) (take p links) || b) (eq-eqb x w q) ∙ or_true _))
                | inr ne ↦ marked_else marks w 1 x ne ∙ (s.met x lx ∙ sym (now x ∙ or_false _ _ (ne_eqb x w ne)))
              ] ∙ sym (next_some links v x (p + 1) p' h).0);
          clean = λ q lq t. elim (cases_lt q p) [
            | inl a ↦ s.clean q a t
            | inr a ↦ elim (cases_eq q p) [
              | inl here ↦ rw here (met_here r e ∙ unmet)
              | inr ne ↦ absurd (both_ways _ (h.quiet q (omega arith) lq) t)
            ]
          ];
        }
      where
        now : (x : ℕ) → some_same (v, x) (take (p + 1) links) ≡ (some_same (v, x) (take p links) || eqb x w)
        now x = some_more (v, x) links p l ∙ ap (λ (b : Bool). some_same (v, x) (take p links) || b) (same_of (get_or links p (0, 0)).0 (get_or links p (0, 0)).1 v x (s.on l) ∙ ap (eqb x) (sym is))

        or_true : (a : Bool) → (a || true) ≡ true
        or_true a = grind arith

-- the walk that takes the marks back

module _ {n : ℕ} {links : List Link} (v : ℕ) (ends : EndsGood n links) where
  pub unmarking_start : {p : ℕ} {marks : List ℕ} → Next links v 0 p → OnlyMet n links v marks → Unmarking n links v p marks
  unmarking_start {p} {marks} h met =
      record {
        high = h.high;
        on = h.here;
        left = λ w lw t. sym (next_some links v w 0 p h).1 ∙ met w lw t;
      }

  pub unmarking_step : {p w m : ℕ} {marks : List ℕ} → Unmarking n links v p marks → p < length links → w ≡ other v (get_or links p (0, 0)) → m ≡ n → n ≤ length marks →
      {marks' : List ℕ} → marks' ≡ cond (ltb w m) (set marks w 0) marks →
      {p' : ℕ} → Next links v (p + 1) p' → Unmarking n links v p' marks'
  unmarking_step {p} {w} {m} {marks} s l is size long {marks'} set_is {p'} h =
      let w_in : w < n = omega (arith, other_in n links p v ends l) in
      let new : marks' ≡ set marks w 0 = written m marks marks' w 0 (omega arith) set_is in
      record {
        high = h.high;
        on = h.here;
        left = λ x lx t. elim (cases_eq x w) [
          | inl q ↦ absurd (both_ways _ (ap (λ (ms : List ℕ). marked ms x) new ∙ (ap (marked (set marks w 0)) q ∙ marked_here marks w 0 (omega arith))) t)
          | inr ne ↦
              let off : same (v, x) (get_or links p (0, 0)) ≡ false = same_of (get_or links p (0, 0)).0 (get_or links p (0, 0)).1 v x (s.on l) ∙ (ap (eqb x) (sym is) ∙ ne_eqb x w ne) in
              sym (false_or _ _ off ∙ (next_some links v x (p + 1) p' h).1)
              ∙ (sym (some_drop (v, x) links p l)
              ∙ s.left x lx (sym (ap (λ (ms : List ℕ). marked ms x) new ∙ marked_else marks w 0 x ne) ∙ t))
        ];
      }

  pub unmarking_end : {p : ℕ} {marks : List ℕ} → length links ≤ p → Unmarking n links v p marks → NoneMet n marks
  unmarking_end {p} {marks} l s w lw =
      elim (cases_Bool (marked marks w)) [
        | inr f ↦ f
        | inl t ↦ absurd (both_ways _ (ap (some_same (v, w)) (drop_all p links l)) (s.left w lw t))
      ]

-- the marks in use

pub lent_none : (a : Marks) → StillLent a.n a a
lent_none a = record { same = record { n = refl; same = refl }; bytes = past_same a.n a.bytes.now }

pub lent_trans : {n : ℕ} {a b c : Marks} → StillLent n a b → StillLent n b c → StillLent n a c
lent_trans {n} {a} {b} {c} h k =
    record {
      same = record { n = k.same.n ∙ h.same.n; same = k.same.same ∙ h.same.same };
      bytes = past_trans n a.bytes.now b.bytes.now c.bytes.now h.bytes k.bytes;
    }

pub lent_again : {a b c : Marks} → StillLent a.n a b → StillLent b.n b c → StillLent a.n a c
lent_again {a} {b} {c} h k = lent_trans h (subst (λ (n : ℕ). StillLent n b c) h.same.n k)

-- one byte written, if the space is one of theirs
pub lent_write : {a b : Marks} (w byte : ℕ) → b.bytes.now ≡ cond (ltb w a.n) (set a.bytes.now w byte) a.bytes.now → SameMarks a b → StillLent a.n a b
lent_write {a} {b} w byte e kept =
    record {
      same = kept;
      bytes = elim (cases_lt w a.n) [
        | inl l ↦ subst (λ (ms : List ℕ). SameFrom a.n a.bytes.now ms) (sym (written a.n a.bytes.now b.bytes.now w byte l e)) (past_write a.n a.bytes.now w byte l)
        | inr l ↦ subst (λ (ms : List ℕ). SameFrom a.n a.bytes.now ms) (sym (e ∙ ap (λ (t : Bool). cond t (set a.bytes.now w byte) a.bytes.now) (le-ltb w a.n l))) (past_same a.n a.bytes.now)
      ];
    }

-- a step of a walk, with the walk's own links and space in place of the iterator's
pub round_step : {ch it : Chained} {v u : ℕ} (at to : ℕ) (told : Option (ℕ × ℕ)) → it ≡ ch → u ≡ v → StepsRound it.links.now u at told to → StepsRound ch.links.now v at told to
round_step {ch} {it} {v} {u} at to told e f h =
    subst (λ (x : Chained). StepsRound x.links.now v at told to) e (subst (λ (x : ℕ). StepsRound it.links.now x at told to) f h)

-- the search over all spaces

pub below_none : (links : List Link) → FirstRepeatBelow links 0 (length links)
below_none links = record { high = omega arith; before = λ v q l _ _. absurd (omega arith); here = λ l. absurd (omega arith) }

-- one space more, without a repeat of its own and with one
pub below_clean : {links : List Link} {v p : ℕ} → NoRepeatOf links v → FirstRepeatBelow links v p → FirstRepeatBelow links (v + 1) p
below_clean {links} {v} {p} h s =
    record {
      high = s.high;
      before = λ u q lu lq t. elim (cases_eq u v) [
        | inl x ↦ h q (omega (arith, s.high)) (ap (λ (y : ℕ). touches y (get_or links q (0, 0))) (sym x) ∙ t)
        | inr ne ↦ s.before u q (omega arith) lq t
      ];
      here = s.here;
    }

pub below_found : {links : List Link} {v first found least : ℕ} → least ≡ min first found → FirstRepeatOf links v found → FirstRepeatBelow links v first → FirstRepeatBelow links (v + 1) least
below_found {links} {v} {first} {found} {least} e h s =
    record {
      high = omega (arith, s.high);
      before = λ u q lu lq t. elim (cases_eq u v) [
        | inl x ↦ h.before q (omega arith) (ap (λ (y : ℕ). touches y (get_or links q (0, 0))) (sym x) ∙ t)
        | inr ne ↦ s.before u q (omega arith) (omega arith) t
      ];
      here = λ l. elim (cases_lt found first) [
        | inl k ↦ let is : least ≡ found = omega arith in rw is h.here
        | inr k ↦ let is : least ≡ first = omega arith in rw is (s.here (omega arith))
      ];
    }

pub below_all : {n v p : ℕ} {links : List Link} → EndsGood n links → n ≤ v → FirstRepeatBelow links v p → FirstRepeat links p
below_all {n} {v} {p} {links} ends all s =
    record {
      high = s.high;
      before = λ q l.
          let o = ends_at n links q ends (omega (arith, s.high)) in
          s.before (get_or links q (0, 0)).0 q (omega (arith, o.0)) l (or_left _ _ (eq-eqb (get_or links q (0, 0)).0 (get_or links q (0, 0)).0 refl));
      here = s.here;
    }
