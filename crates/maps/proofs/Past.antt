-- Lists that are equal from some place on.
use Rattle.std.proofs.Common.{◌≡◌, ℕ, ◌+◌, ◌-◌, ◌<◌, ◌≤◌, List, length, get_or, drop, set, sym, refl, ap, ◌∙◌, subst, arith}
use Rattle.std.proofs.lemmas.List.{length-set, length-drop, drop-set-lt, drop-drop, get_or-drop, ext_get_or}
use Rattle.maps.specs.Past.{SameFrom}

pub past_same : {X : Type 0} (i : ℕ) (a : List X) → SameFrom i a a
past_same i a = record { len = refl; rest = refl }

pub past_write : {X : Type 0} (n : ℕ) (xs : List X) (i : ℕ) (x : X) → i < n → SameFrom n xs (set xs i x)
past_write n xs i x l = record { len = length-set xs i x; rest = drop-set-lt n xs i x l }

pub past_trans : {X : Type 0} (i : ℕ) (a b c : List X) → SameFrom i a b → SameFrom i b c → SameFrom i a c
past_trans i a b c p q = record { len = q.len ∙ p.len; rest = q.rest ∙ p.rest }

further : {X : Type 0} (i j : ℕ) (a : List X) → i ≤ j → drop j a ≡ drop (j - i) (drop i a)
further i j a l = let e : j ≡ i + (j - i) = omega arith in ap (λ (x : ℕ). drop x a) e ∙ sym (drop-drop (j - i) i a)

pub past_weaker : {X : Type 0} (i j : ℕ) (a b : List X) → i ≤ j → SameFrom i a b → SameFrom j a b
past_weaker i j a b l p = record { len = p.len; rest = further i j b l ∙ (ap (drop (j - i)) p.rest ∙ sym (further i j a l)) }

pub past_at : {X : Type 0} (i j : ℕ) (a a' b : List X) → i ≡ j → a ≡ a' → SameFrom i a b → SameFrom j a' b
past_at {X} i j a a' b e ea p = subst (λ (x : List X). SameFrom j x b) ea (subst (λ (x : ℕ). SameFrom x a b) e p)

-- place by place

at_rest : (i q : ℕ) (a : List ℕ) → i ≤ q → get_or a q 0 ≡ get_or (drop i a) (q - i) 0
at_rest i q a l = let e : q ≡ i + (q - i) = omega arith in ap (λ (x : ℕ). get_or a x 0) e ∙ sym (get_or-drop i a (q - i) 0)

pub past_place : (i : ℕ) (a b : List ℕ) → SameFrom i a b → (q : ℕ) → i ≤ q → get_or b q 0 ≡ get_or a q 0
past_place i a b p q l = at_rest i q b l ∙ (ap (λ (x : List ℕ). get_or x (q - i) 0) p.rest ∙ sym (at_rest i q a l))

pub past_by_places : (i : ℕ) (a b : List ℕ) → length b ≡ length a → ((q : ℕ) → i ≤ q → get_or b q 0 ≡ get_or a q 0) → SameFrom i a b
past_by_places i a b e h =
    record {
      len = e;
      rest = ext_get_or 0 (drop i b) (drop i a) (omega (arith, length-drop i b, length-drop i a)) (λ q l. get_or-drop i b q 0 ∙ (h (i + q) (omega arith) ∙ sym (get_or-drop i a q 0)));
    }
