-- The check of a list of links: what its parts found, put together.
use Rattle.std.proofs.Common.{◌≡◌, ℕ, ◌<◌, ◌≤◌, List, [], ◌++◌, length, get_or, take, drop, Ok, Err, Result, sym, refl, ap, ◌∙◌, subst, inl, inr, append-nil, arith}
use Rattle.std.proofs.lemmas.List.{take_all, take_at, take-take, get_or-take, length-take, ext_get_or}
use Rattle.std.proofs.lemmas.Slice.{drop-append-drop}
use Rattle.std.proofs.lemmas.Bool.{cases_lt}
use Rattle.std.proofs.ByRecursion.{All-from_get_or}
use Rattle.maps.specs.declared.refusals.ListRefusal.{ListRefusal}
use Rattle.maps.specs.declared.refusals.ListRefusal.TheVariants.{RepeatedLink}
use Rattle.maps.specs.Links.{Link, Meaning, some_same}
use Rattle.maps.specs.Marks.{Cleared}
use Rattle.maps.specs.LinkChecks.{at_place, Passes, EndsGood}
use Rattle.maps.specs.Chains.{Chains}
use Rattle.maps.specs.Past.{SameFrom}
use Rattle.maps.specs.Repeats.{FirstRepeat}
use Rattle.maps.specs.Refusals.{list_number}
use Rattle.maps.specs.Listing.{TooLarge, TooShort, Lent, SoundTo, RefusesAt, ReadList, ReadInto}
use Rattle.maps.proofs.Good.{refused_13, accepted}
use Rattle.maps.proofs.Past.{past_place}

-- the same number of spaces, said in another way

pub sound_at : {m n : ℕ} {list copy : List Link} {f : ℕ} → m ≡ n → SoundTo m list copy f → SoundTo n list copy f
sound_at {m} {n} {list} {copy} {f} e s = subst (λ (x : ℕ). SoundTo x list copy f) e s

pub refuses_at : {m n : ℕ} (list : List Link) (f : ℕ) (r : ListRefusal) → m ≡ n → RefusesAt m list f r → RefusesAt n list f r
refuses_at {m} {n} list f r e h = subst (λ (x : ℕ). RefusesAt x list f r) e h

pub chains_at : {m n : ℕ} {links : List Link} {head : List ℕ} {next : List Link} → m ≡ n → Chains m links head next 0 → Chains n links head next 0
chains_at {m} {n} {links} {head} {next} e h = subst (λ (x : ℕ). Chains x links head next 0) e h

module _ {n : ℕ} {list copy : List Link} {f : ℕ} (same_length : length copy ≡ length list) (s : SoundTo n list copy f) where
  pub copied_part : take f copy ≡ take f list
  copied_part =
      let long : length (take f copy) ≡ length (take f list) = omega (arith, length-take f copy, length-take f list) in
      ext_get_or (0, 0) (take f copy) (take f list) long (λ i l.
      let lt : i < f = omega (arith, length-take f copy) in
      get_or-take f copy i (0, 0) lt ∙ (s.copied i lt ∙ sym (get_or-take f list i (0, 0) lt)))

  pub part_length : length (take f copy) ≡ f
  part_length = omega (arith, ap length copied_part, length-take f list, s.within)

  part_ends : EndsGood n (take f list)
  part_ends =
      All-from_get_or (λ l. (l.0 < n) × (l.1 < n) × (l.0 ≡ l.1 → ⊥)) (take f list) (0, 0) (λ i l.
      let lt : i < f = omega (arith, length-take f list) in
      subst (λ (l : Link). (l.0 < n) × (l.1 < n) × (l.0 ≡ l.1 → ⊥)) (sym (get_or-take f list i (0, 0) lt)) (s.sound i lt))

  pub copied_ends : {m : ℕ} → m ≡ n → EndsGood m (take f copy)
  copied_ends {m} e = subst (λ (x : ℕ). EndsGood x (take f copy)) (sym e) (subst (λ (ls : List Link). EndsGood n ls) (sym copied_part) part_ends)

  module _ {first : ℕ} (found : FirstRepeat (take f copy) first) where
    in_list : (q : ℕ) → q < f → some_same (get_or (take f copy) q (0, 0)) (take q (take f copy)) ≡ some_same (get_or list q (0, 0)) (take q list)
    in_list q l =
        ap (λ (ls : List Link). some_same (get_or ls q (0, 0)) (take q ls)) copied_part
        ∙ (ap (λ (x : Link). some_same x (take q (take f list))) (get_or-take f list q (0, 0) l)
        ∙ ap (some_same (get_or list q (0, 0))) (take-take q f list (omega arith)))

    passes_before : (q : ℕ) → q < first → q < f → Passes n list q
    passes_before q l k = accepted n list q (s.sound q k) (sym (in_list q k) ∙ found.before q l)

    pub repeated : {links : List Link} {head : List ℕ} {next : List Link} → first < f → ReadList n list links head next (Err (RepeatedLink first))
    repeated l = inl (
      first,
      13,
      record {
        within = omega (arith, s.within);
        before = λ q k. passes_before q k (omega arith);
        here = refused_13 n list first (s.sound first l) (sym (in_list first l) ∙ found.here (omega (arith, part_length)));
      },
      (refl, refl),
    )

    pub bad_ends : {links : List Link} {head : List ℕ} {next : List Link} (e : ListRefusal) → f ≤ first → f < length list → RefusesAt n list f e → ReadList n list links head next (Err e)
    bad_ends e l k h = inl (
      f,
      list_number e,
      record { within = k; before = λ q j. passes_before q (omega arith) j; here = turned h.0 },
      (refl, h.1),
    )
      where
        turned : at_place n list f (λ number. list_number e ≡ number) ⊥ → at_place n list f (λ m. m ≡ list_number e) ⊥
        turned h = elim h [
          | inl (a, b) ↦ inl (a, sym b)
          | inr (a, inl (b, c)) ↦ inr (a, inl (b, sym c))
          | inr (a, inr (b, inl (c, d))) ↦ inr (a, inr (b, inl (c, sym d)))
          | inr (a, inr (b, inr (c, d))) ↦ absurd d
        ]

    pub all_good : {head : List ℕ} {next rest : List Link} → f ≤ first → length list ≤ f → rest ≡ [] → Chains n (take f copy) head next 0 → ReadList n list copy head (next ++ rest) (Ok tt)
    all_good {head} {next} {rest} l k none ch =
        let whole : take f list ≡ list = take_all f list k in
        inr (
          (λ q j. passes_before q (omega arith) (omega arith)),
          tt,
          sym (take_all f copy (omega arith)) ∙ (copied_part ∙ whole),
          subst (λ (ns : List Link). Chains n list head ns 0) (sym (ap (λ (r : List Link). next ++ r) none ∙ append-nil next)) (subst (λ (ls : List Link). Chains n ls head next 0) (copied_part ∙ whole) ch),
        )

-- the call as a whole

-- the numbers that the checks leave
pub room_is : (n m : ℕ) (lent : Lent) → (TooLarge n m → ⊥) → (TooShort n m lent → ⊥) → (n ≤ 4096) × (m ≤ 32768) × (n ≤ length lent.marks) × (m ≤ length lent.links) × (n ≤ length lent.head) × (m ≤ length lent.next)
room_is n m lent large short = (
  elim (cases_lt 4096 n) [ inl x ↦ absurd (large (inr (inl x))) | inr x ↦ x ],
  elim (cases_lt 32768 m) [ inl x ↦ absurd (large (inr (inr x))) | inr x ↦ x ],
  elim (cases_lt (length lent.marks) n) [ inl x ↦ absurd (short (inl x)) | inr x ↦ x ],
  elim (cases_lt (length lent.links) m) [ inl x ↦ absurd (short (inr (inl x))) | inr x ↦ x ],
  elim (cases_lt (length lent.head) n) [ inl x ↦ absurd (short (inr (inr (inl x)))) | inr x ↦ x ],
  elim (cases_lt (length lent.next) m) [ inl x ↦ absurd (short (inr (inr (inr x)))) | inr x ↦ x ],
)

pub cleared_again : (n n₁ n₂ n₃ : ℕ) (a b c d : List ℕ) → n₁ ≡ n → n₂ ≡ n → n₃ ≡ n → Cleared n₁ a b → SameFrom n₂ b c → Cleared n₃ c d → Cleared n a d
cleared_again n n₁ n₂ n₃ a b c d e₁ e₂ e₃ p q r =
    record {
      len = r.len ∙ (q.len ∙ p.len);
      low = λ x l. r.low x (omega arith);
      high = λ x l. r.high x (omega arith) ∙ (past_place n₂ b c q x (omega arith) ∙ p.high x (omega arith));
    }

module _ (map : Meaning) (lent : Lent) (r : Result (Unit {0}) ListRefusal) (n m : ℕ) (links : List Link) (head : List ℕ) (next : List Link) (marks : List ℕ) (en : n ≡ map.spaces) (em : m ≡ length map.links) where
  pub listed : length links ≡ m → length head ≡ n → length next ≡ m → ReadList map.spaces map.links links head next r → Cleared map.spaces lent.marks marks →
      ReadInto map lent r (record { links = links ++ drop m lent.links; head = head ++ drop n lent.head; next = next ++ drop m lent.next; marks = marks })
  listed ll lh ln read clear =
      record {
        read = subst (λ (x : List Link). ReadList map.spaces map.links x (take map.spaces (head ++ drop n lent.head)) (take (length map.links) (next ++ drop m lent.next)) r) (sym (take_at links (drop m lent.links) (length map.links) (omega arith)))
            (subst (λ (x : List ℕ). ReadList map.spaces map.links links x (take (length map.links) (next ++ drop m lent.next)) r) (sym (take_at head (drop n lent.head) map.spaces (omega arith)))
            (subst (λ (x : List Link). ReadList map.spaces map.links links head x r) (sym (take_at next (drop m lent.next) (length map.links) (omega arith))) read));
        kept = record {
          links = drop-append-drop m lent.links links (length map.links) (omega arith) ll;
          head = drop-append-drop n lent.head head map.spaces (omega arith) lh;
          next = drop-append-drop m lent.next next (length map.links) (omega arith) ln;
          marks = clear;
        };
      }
