-- One text written after another. Assumes nothing.
use Rattle.std.proofs.Common.{◌≡◌, ℕ, ◌+◌, ◌-◌, ◌<◌, ◌≤◌, List, [], ◌∷◌, ◌++◌, length, take, drop, sym, refl, ap, ◌∙◌, append_assoc, arith, length-append, length-drop, length-take}
use borrow.Rule.Slice.PartMut.{put_mid}
use Rattle.std.proofs.lemmas.List.{take_at, drop_at, drop-drop, take-append-drop}
use Rattle.league.specs.Writing.{Wrote, Puts}

pub same_length : (s t a : List ℕ) (i j : ℕ) → Wrote s i a j t → length t ≡ length s
same_length s t a i j w =
    omega (arith, simp (length-append, length-take, length-drop) at (ap length w.reads), w.ends, w.room)

-- the front of what stands, up to the end of what was written
front_length : (s a : List ℕ) (i j : ℕ) → j ≡ i + length a → j ≤ length s → length (take i s ++ a) ≡ j
front_length s a i j e h = simp (length-append, length-take) (omega arith)

front : (s t a : List ℕ) (i j : ℕ) → Wrote s i a j t → take j t ≡ take i s ++ a
front s t a i j w =
    ap (take j) (w.reads ∙ sym (append_assoc (take i s) a (drop j s))) ∙ take_at (take i s ++ a) (drop j s) j (front_length s a i j w.ends w.room)

rest : (s t a : List ℕ) (i j : ℕ) → Wrote s i a j t → drop j t ≡ drop j s
rest s t a i j w =
    ap (drop j) (w.reads ∙ sym (append_assoc (take i s) a (drop j s))) ∙ drop_at (take i s ++ a) (drop j s) j (front_length s a i j w.ends w.room)

past : (s t : List ℕ) (j m : ℕ) → drop j t ≡ drop j s → drop (j + m) t ≡ drop (j + m) s
past s t j m e = sym (drop-drop m j t) ∙ ap (drop m) e ∙ drop-drop m j s

pub wrote_then : (s t u a b : List ℕ) (i j k : ℕ) → Wrote s i a j t → Wrote t j b k u → Wrote s i (a ++ b) k u
wrote_then s t u a b i j k v w =
    let n = same_length s t a i j v in
    let p : drop k t ≡ drop k s = rw w.ends (past s t j (length b) (rest s t a i j v)) in
    record {
      ends = simp length-append (omega (arith, v.ends, w.ends));
      room = omega (arith, w.room);
      reads = w.reads ∙ ap (λ x. x ++ (b ++ drop k t)) (front s t a i j v) ∙ ap (λ x. (take i s ++ a) ++ (b ++ x)) p ∙ simp append_assoc;
    }

pub put_whole : (s a x : List ℕ) (i : ℕ) → x ≡ a → i + length a ≤ length s → Puts s i a (i + length a) (put_mid i ((i + length a) - i) s x)
put_whole s a x i e h =
    let m : (i + length a) - i ≡ length a = omega arith in
    record {
      wrote = λ _. record {
        ends = refl;
        room = h;
        reads = rw (m, e) (ap (λ y. take i s ++ (a ++ y)) (drop-drop (length a) i s));
      };
      left = λ l. absurd (omega arith);
    }

pub put_none : (s a : List ℕ) (i : ℕ) → length s < i + length a → Puts s i a i s
put_none s a i h = record { wrote = λ l. absurd (omega arith); left = λ _. (refl, refl) }

-- what was put where there was room
pub put_some : (s t a : List ℕ) (i j : ℕ) → Wrote s i a j t → Puts s i a j t
put_some s t a i j w = record { wrote = λ _. w; left = λ l. absurd (omega (arith, w.ends, w.room)) }

pub put_two : (s t u a b : List ℕ) (i j k : ℕ) → i + (length a + length b) ≤ length s → Puts s i a j t → Puts t j b k u → Wrote s i (a ++ b) k u
put_two s t u a b i j k h p q =
    let v : Wrote s i a j t = p.wrote (omega arith) in
    wrote_then s t u a b i j k v (q.wrote (omega (arith, same_length s t a i j v, v.ends)))

-- a text after what is written, where there is room
pub wrote_more : (s t u a b : List ℕ) (i j k : ℕ) → Wrote s i a j t → j + length b ≤ length s → Puts t j b k u → Wrote s i (a ++ b) k u
wrote_more s t u a b i j k v h p = wrote_then s t u a b i j k v (p.wrote (omega (arith, same_length s t a i j v)))

pub wrote_nothing : (s : List ℕ) (i : ℕ) → i ≤ length s → Wrote s i [] i s
wrote_nothing s i h = record { ends = omega arith; room = h; reads = sym (take-append-drop i s) }

pub wrote_as : (s t a b : List ℕ) (i j : ℕ) → a ≡ b → Wrote s i a j t → Wrote s i b j t
wrote_as s t a b i j e w = rw (← e) w

pub puts_as : (s t a b : List ℕ) (i j z : ℕ) → a ≡ b → Puts s i (a ++ (z ∷ [])) j t → Puts s i (b ++ (z ∷ [])) j t
puts_as s t a b i j z e p = rw (← e) p

-- a field after what is written, where there is room
field_more : (s t u a f : List ℕ) (i j k z : ℕ) → Wrote s i a j t → j + length f + 1 ≤ length s → Puts t j (f ++ (z ∷ [])) k u → Wrote s i (a ++ (f ++ (z ∷ []))) k u
field_more s t u a f i j k z v h p = wrote_more s t u a (f ++ (z ∷ [])) i j k v (simp length-append (omega arith)) p

-- a first field
field_one : (s t f : List ℕ) (i j z : ℕ) → i + length f + 1 ≤ length s → Puts s i (f ++ (z ∷ [])) j t → Wrote s i (f ++ (z ∷ [])) j t
field_one s t f i j z h p = p.wrote (simp length-append (omega arith))

pub ends_at : (s t a f : List ℕ) (i j z : ℕ) → Wrote s i (a ++ (f ++ (z ∷ []))) j t → j ≡ i + length a + length f + 1
ends_at s t a f i j z w = w.ends ∙ simp length-append (omega arith)

-- five fields, no wider than an owner's
pub five_fields : (s t u v w x a b c d e : List ℕ) (i j k l m n : ℕ) → i + 70 ≤ length s
    → length a ≤ 1 → length b ≤ 5 → length c ≤ 47 → length d ≤ 11 → length e ≤ 1
    → Puts s i (a ++ (9 ∷ [])) j t → Puts t j (b ++ (9 ∷ [])) k u → Puts u k (c ++ (9 ∷ [])) l v → Puts v l (d ++ (9 ∷ [])) m w → Puts w m (e ++ (10 ∷ [])) n x
    → Wrote s i (a ++ (9 ∷ (b ++ (9 ∷ (c ++ (9 ∷ (d ++ (9 ∷ (e ++ (10 ∷ [])))))))))) n x × (n ≤ i + 70)
five_fields s t u v w x a b c d e i j k l m n room ha hb hc hd he p q r y z =
    let j_is : j ≡ i + length a + 1 = (p.wrote (simp length-append (omega arith))).ends ∙ simp length-append (omega arith) in
    let one = field_one s t a i j 9 (omega arith) p in
    let two = field_more s t u (a ++ (9 ∷ [])) b i j k 9 one (omega arith) q in
    let k_is : k ≡ j + length b + 1 = simp length-append at two.ends ∙ omega arith in
    let three = field_more s u v ((a ++ (9 ∷ [])) ++ (b ++ (9 ∷ []))) c i k l 9 two (omega arith) r in
    let l_is : l ≡ k + length c + 1 = simp length-append at three.ends ∙ omega arith in
    let four = field_more s v w (((a ++ (9 ∷ [])) ++ (b ++ (9 ∷ []))) ++ (c ++ (9 ∷ []))) d i l m 9 three (omega arith) y in
    let m_is : m ≡ l + length d + 1 = simp length-append at four.ends ∙ omega arith in
    let five = field_more s w x ((((a ++ (9 ∷ [])) ++ (b ++ (9 ∷ []))) ++ (c ++ (9 ∷ []))) ++ (d ++ (9 ∷ []))) e i m n 10 four (omega arith) z in
    let n_is : n ≡ m + length e + 1 = simp length-append at five.ends ∙ omega arith in
    (wrote_as s x _ _ i n (simp append_assoc) five, omega arith)

pub wrote_to : (s t a : List ℕ) (i j k : ℕ) → k ≡ j → Wrote s i a j t → Wrote s i a k t
wrote_to s t a i j k e w = rw e w
