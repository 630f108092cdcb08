-- An order in which each space has few links to those before it.
use Rattle.std.proofs.Common.{◌≡◌, ℕ, ◌+◌, ◌<◌, ◌≤◌, Bool, true, false, cond, ◌&&◌, ◌||◌, eqb, ltb, List, [], ◌∷◌, refl, ap, inl, inr, arith}
use Rattle.std.specs.List.{AllByRecursion}
use Rattle.std.proofs.lemmas.List.Sums.{sum_by-cons}
use Rattle.std.proofs.lemmas.Bool.{cases_Bool, cases_order, and_parts, and_from, or_left, or_right, eq-eqb, lt-ltb, cond-true}
use Rattle.maps.specs.Links.{Link}
use Rattle.maps.specs.Sets.{Spaces, holds, held}
use Rattle.crowding.specs.Capacity.{total}
use Rattle.crowding.specs.Order.{earlier}
use Rattle.crowding.specs.Theorems.{OrderedFair}
use Rattle.crowding.proofs.Sums.{bit, total_le, total_add, total_at_lem}

abbrev joins_earlier : (ℕ → ℕ) → ℕ → Link → Bool
joins_earlier place v l = (eqb l.0 v && ltb (place l.1) (place v)) || (eqb l.1 v && ltb (place l.0) (place v))

module _ (n : ℕ) (place : ℕ → ℕ) (S : Spaces) where
  -- a member that is the later end of the link is counted
  at_end : (l : Link) (v : ℕ) → v < n → S v ≡ true → joins_earlier place v l ≡ true → 1 ≤ total (λ w. cond (S w) (bit (joins_earlier place w l)) 0) n
  at_end l v lv e j =
      omega (arith, total_at_lem (λ w. cond (S w) (bit (joins_earlier place w l)) 0) n v lv, cond-true (S v) (bit (joins_earlier place v l)) 0 e, ap bit j)

  -- the later end of a link that S holds is in S
  one_link : (l : Link) → (l.0 < n) × (l.1 < n) × (place l.0 ≡ place l.1 → ⊥) → bit (holds S l) ≤ total (λ v. cond (S v) (bit (joins_earlier place v l)) 0) n
  one_link l h =
      elim (cases_Bool (holds S l)) [
        | inr e ↦ omega (arith, ap bit e)
        | inl e ↦
            let both = and_parts (S l.0) (S l.1) e in
            let some : 1 ≤ total (λ v. cond (S v) (bit (joins_earlier place v l)) 0) n =
            elim (cases_order (place l.0) (place l.1)) [
              | inl q ↦ absurd (h.2 q)
              | inr (inl b) ↦ at_end l l.1 h.1 both.1 (or_right _ _ (and_from _ _ (eq-eqb l.1 l.1 refl) (lt-ltb _ _ b)))
              | inr (inr a) ↦ at_end l l.0 h.0 both.0 (or_left _ _ (and_from _ _ (eq-eqb l.0 l.0 refl) (lt-ltb _ _ a)))
            ] in
            omega (arith, ap bit e)
      ]

  cond_add : (b : Bool) (x y z : ℕ) → z ≡ x + y → cond b z 0 ≡ cond b x 0 + cond b y 0
  cond_add b x y z e = grind arith

  all_links : (links : List Link) → AllByRecursion (λ l. (l.0 < n) × (l.1 < n) × (place l.0 ≡ place l.1 → ⊥)) links → held S links ≤ total (λ v. cond (S v) (earlier place v links) 0) n
  all_links [] h = omega arith
  all_links (l ∷ links) h =
      omega (
        arith,
        sum_by-cons (λ k. bit (holds S k)) l links,
        one_link l h.0,
        all_links links h.1,
        total_add (λ v. cond (S v) (bit (joins_earlier place v l)) 0) (λ v. cond (S v) (earlier place v links) 0) (λ v. cond (S v) (earlier place v (l ∷ links)) 0) n
            (λ v. cond_add (S v) (bit (joins_earlier place v l)) (earlier place v links) (earlier place v (l ∷ links)) (sum_by-cons (λ k. bit (joins_earlier place v k)) l links)),
      )

cond_le : (b : Bool) (x y : ℕ) → x ≤ y → cond b x 0 ≤ cond b y 0
cond_le true x y h = h
cond_le false x y h = omega arith

pub ordered_fair : OrderedFair
ordered_fair cap n links place h k S =
    omega (
      arith,
      all_links n place S links h,
      total_le (λ v. cond (S v) (earlier place v links) 0) (λ v. cond (S v) (cap v) 0) n (λ v l. cond_le (S v) (earlier place v links) (cap v) (k v l)),
    )
