-- Counting links counts spaces.
use Rattle.std.proofs.Common.{◌≡◌, ℕ, zero, suc, ◌+◌, ◌<◌, ◌≤◌, Bool, true, false, cond, ◌&&◌, ◌||◌, eqb, List, [], ◌∷◌, count_by, sym, refl, ap, ◌∙◌, inl, inr, arith}
use Rattle.std.specs.List.{range_with_len}
use Rattle.std.proofs.lemmas.List.Sums.{sum_by-cons}
use Rattle.std.proofs.lemmas.Bool.{cases_Bool, cases_eq}
use Rattle.std.proofs.lemmas.Bool.Decides.{nat_tests}
use Rattle.maps.specs.Links.{Link, same}
use Rattle.maps.specs.Sets.{Spaces}
use Rattle.maps.specs.Density.{joins_in, neighbours_in}
use Rattle.maps.specs.LinkChecks.{GoodLinks}
use Rattle.survey.specs.Tables.{linked}
use Rattle.survey.specs.Theorems.{NeighboursCounted}
use Rattle.survey.proofs.Counts.{bit, count_yes}
use Rattle.survey.proofs.Rows.{linked_count}

-- the sum of f over the m numbers from i on
abbrev along : (ℕ → ℕ) → ℕ → ℕ → ℕ
along f zero i = 0
along f (suc m) i = f i + along f m (i + 1)

size_along : (s : Spaces) (m i : ℕ) → count_by s (range_with_len i m) ≡ along (λ w. bit (s w)) m i
size_along s zero i = refl
size_along s (suc m) i = sum_by-cons (λ w. bit (s w)) i (range_with_len (i + 1) m) ∙ ap (λ (x : ℕ). bit (s i) + x) (size_along s m (i + 1))

along_add : (f g h : ℕ → ℕ) → ((w : ℕ) → f w ≡ g w + h w) → (m i : ℕ) → along f m i ≡ along g m i + along h m i
along_add f g h e zero i = refl
along_add f g h e (suc m) i = omega (arith, e i, along_add f g h e m (i + 1))

along_zero : (f : ℕ → ℕ) → ((w : ℕ) → f w ≡ 0) → (m i : ℕ) → along f m i ≡ 0
along_zero f e zero i = refl
along_zero f e (suc m) i = omega (arith, e i, along_zero f e m (i + 1))

-- one number only
along_one : (f : ℕ → ℕ) (x : ℕ) → ((w : ℕ) → (w ≡ x → ⊥) → f w ≡ 0) → (m i : ℕ) → (i ≤ x → x < i + m → along f m i ≡ f x) × (x < i → along f m i ≡ 0)
along_one f x e zero i = (λ a b. absurd (omega arith), λ a. refl)
along_one f x e (suc m) i = (
  λ a b. elim (cases_eq i x) [
    | inl q ↦ omega (arith, ap f q, (along_one f x e m (i + 1)).1 (omega arith))
    | inr ne ↦ omega (arith, e i ne, (along_one f x e m (i + 1)).0 (omega arith) (omega arith))
  ],
  λ a. omega (arith, e i (λ q. omega arith), (along_one f x e m (i + 1)).1 (omega arith)),
)

-- the one link l: v and its other end, if that is in s
joined : (c d v w x : ℕ) (sw : Bool) → (c ≡ d → ⊥) → x ≡ cond (eqb c v) d c → (w ≡ x → ⊥) → bit (((eqb v c && eqb w d) || (eqb v d && eqb w c)) && sw) ≡ 0
joined c d v w x sw apart e ne = grind (arith, nat_tests)

joined_at : (c d v x : ℕ) (sc sd sx : Bool) → (c ≡ d → ⊥) → x ≡ cond (eqb c v) d c → (x ≡ c → sx ≡ sc) → (x ≡ d → sx ≡ sd) → bit (((eqb v c && eqb x d) || (eqb v d && eqb x c)) && sx) ≡ bit ((eqb c v && sd) || (eqb d v && sc))
joined_at c d v x sc sd sx apart e hc hd = grind (arith, nat_tests)

other_in : (n c d v x : ℕ) → c < n → d < n → x ≡ cond (eqb c v) d c → x < n
other_in n c d v x lc ld e = grind (arith, nat_tests)

apart_or : (a b s : Bool) → (a ≡ true → b ≡ false) → bit ((a || b) && s) ≡ bit (a && s) + bit (b && s)
apart_or a b s h = grind arith

tail : {n : ℕ} {l : Link} {links : List Link} → GoodLinks n (l ∷ links) → GoodLinks n links
tail {n} {l} {links} g = record { ends = g.ends.1; once = λ a b. omega (arith, g.once a b, sum_by-cons (λ m. bit (same (a, b) m)) l links) }

counted : (n : ℕ) (links : List Link) → GoodLinks n links → (s : Spaces) (v : ℕ) → neighbours_in links s v ≡ along (λ w. bit (linked links v w && s w)) n 0
counted n [] g s v = sym (along_zero (λ w. bit (false && s w)) (λ w. refl) n 0)
counted n (l ∷ links) g s v =
    let c : ℕ = l.0 in
    let d : ℕ = l.1 in
    let x : ℕ = cond (eqb c v) d c in
    let no_loop : c ≡ d → ⊥ = g.ends.0.2 in
    let one = (along_one (λ w. bit (same (v, w) l && s w)) x (λ w ne. joined c d v w x (s w) no_loop refl ne) n 0).0 (omega arith) (omega (arith, other_in n c d v x g.ends.0.0 g.ends.0.1 refl)) in
    omega (
      arith,
      sum_by-cons (λ m. bit (joins_in s v m)) l links,
      counted n links (tail g) s v,
      one,
      joined_at c d v x (s c) (s d) (s x) no_loop refl (ap s) (ap s),
      along_add (λ w. bit ((same (v, w) l || linked links v w) && s w)) (λ w. bit (same (v, w) l && s w)) (λ w. bit (linked links v w && s w))
          (λ w. apart_or (same (v, w) l) (linked links v w) (s w) (λ e. elim (cases_Bool (linked links v w)) [
            | inr q ↦ q
            | inl q ↦ absurd (omega (arith, g.once v w, count_yes (same (v, w)) l links e, linked_count links v w (omega (arith, g.once v w, count_yes (same (v, w)) l links e)), ap bit q))
          ])) n 0,
    )

pub neighbours_counted : NeighboursCounted
neighbours_counted n links g s v = counted n links g s v ∙ sym (size_along (λ w. linked links v w && s w) n 0)
