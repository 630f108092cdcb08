-- Where a space with a free cell is reached, flips along the way make room for one more link.
use Rattle.std.proofs.Common.{◌≡◌, ℕ, zero, suc, ◌+◌, ◌<◌, cond, eqb, ◌⊎◌, List, [], ◌∷◌, ◌++◌, length, get_or, take, drop, count_by, sym, refl, ap, ◌∙◌, subst, inl, inr, arith}
use Rattle.std.specs.List.{ContainsAt}
use Rattle.std.proofs.lemmas.List.{take-append-drop, drop_more}
use Rattle.std.proofs.lemmas.List.Sums.{sum_by-cons, sum_by-append}
use Rattle.std.proofs.ByRecursion.{all-has, has_append_right}
use Rattle.std.proofs.lemmas.Bool.{cases_eq, eq-eqb, ne_eqb, cond-true, cond-false}
use Rattle.maps.specs.Links.{Link}
use Rattle.crowding.specs.Orientation.{Rows, Oriented}
use Rattle.crowding.specs.Putting.{Same, Put}
use Rattle.crowding.specs.Reach.{Reach, at_u, at_v, on}
use Rattle.crowding.specs.Theorems.{CanLay}
use Rattle.crowding.proofs.Moves.{laid, flipped, relinked, put_lengths}
use Rattle.crowding.proofs.Sums.{bit}

-- the rows with another row at u
abbrev at : ℕ → List ℕ → Rows → Rows
at u ys row x = cond (eqb x u) ys (row x)

at_here : (u : ℕ) (ys : List ℕ) (row : Rows) → at u ys row u ≡ ys
at_here u ys row = cond-true (eqb u u) ys (row u) (eq-eqb u u refl)

at_else : (u : ℕ) (ys : List ℕ) (row : Rows) (x : ℕ) → (x ≡ u → ⊥) → at u ys row x ≡ row x
at_else u ys row x ne = cond-false (eqb x u) ys (row x) (ne_eqb x u ne)

put_at : (n u v : ℕ) (row : Rows) → Put n u v row (at u (v ∷ row u) row)
put_at n u v row = record { here = λ q. ap (count_by q) (at_here u (v ∷ row u) row); others = λ x l ne q. ap (count_by q) (at_else u (v ∷ row u) row x ne) }

-- the row without the number at place k of it
without : (k : ℕ) → List ℕ → List ℕ
without k xs = take k xs ++ drop (k + 1) xs

without_same : (xs : List ℕ) (k y : ℕ) → k < length xs → get_or xs k 0 ≡ y → Same xs (y ∷ without k xs)
unfolding without
without_same xs k y l e q =
    omega (
      arith,
      ap (count_by q) (take-append-drop k xs),
      sum_by-append (λ c. bit (q c)) (take k xs) (drop k xs),
      ap (count_by q) (drop_more xs k 0 l),
      sum_by-cons (λ c. bit (q c)) (get_or xs k 0) (drop (k + 1) xs),
      ap (λ (c : ℕ). bit (q c)) e,
      sum_by-cons (λ c. bit (q c)) y (take k xs ++ drop (k + 1) xs),
      sum_by-append (λ c. bit (q c)) (take k xs) (drop (k + 1) xs),
    )

put_back : (n u v : ℕ) (row : Rows) (ys : List ℕ) → Same (row u) (v ∷ ys) → Put n u v (at u ys row) row
put_back n u v row ys s = record { here = λ q. s q ∙ ap (λ (zs : List ℕ). count_by q (v ∷ zs)) (sym (at_here u ys row)); others = λ x l ne q. ap (count_by q) (sym (at_else u ys row x ne)) }

-- reached in at most k steps
abbrev Within : Rows → ℕ → ℕ → ℕ → ℕ → Type 0
Within row u v zero x = (x ≡ u) ⊎ (x ≡ v)
Within row u v (suc k) x = Within row u v k x ⊎ ((y : ℕ) × Within row u v k y × ContainsAt (row y) x)

abbrev Before : Rows → ℕ → ℕ → ℕ → ℕ → Type 0
Before row u v zero x = ⊥
Before row u v (suc k) x = Within row u v k x

before_within : (row : Rows) (u v k x : ℕ) → Before row u v k x → Within row u v k x
before_within row u v zero x b = absurd b
before_within row u v (suc k) x b = inl b

-- where only the row of x loses numbers, what was reached in k steps still is, or x was reached before
kept_within : (row row' : Rows) (u v x : ℕ) → ((y c : ℕ) → (y ≡ x → ⊥) → ContainsAt (row y) c → ContainsAt (row' y) c) → (k z : ℕ) → Within row u v k z → Within row' u v k z ⊎ Before row u v k x
kept_within row row' u v x h zero z w = inl w
kept_within row row' u v x h (suc k) z (inl w) =
    elim (kept_within row row' u v x h k z w) [ inl w' ↦ inl (inl w') | inr b ↦ inr (before_within row u v k x b) ]
kept_within row row' u v x h (suc k) z (inr (y, w, i)) =
    elim (cases_eq y x) [
      | inl q ↦ inr (subst (λ (t : ℕ). Within row u v k t) q w)
      | inr ne ↦ elim (kept_within row row' u v x h k y w) [ inl w' ↦ inl (inr (y, w', h y z ne i)) | inr b ↦ inr (before_within row u v k x b) ]
    ]

within_reach : (row : Rows) (u v x : ℕ) → Reach row u v x → (k : ℕ) × Within row u v k x
within_reach row u v _ at_u = (0, inl refl)
within_reach row u v _ at_v = (0, inr refl)
within_reach row u v _ (on {x} {y} r h) = let (k, w) = within_reach row u v x r in (suc k, inr (x, w, h))

has_cons : (c : ℕ) (xs : List ℕ) (x : ℕ) → ContainsAt xs x → ContainsAt (c ∷ xs) x
has_cons c xs x h = has_append_right (c ∷ []) xs x h

-- One flip along the way: y, which has a free cell, is taken out of the row of x at place k, and x put into the row of y.
module _ (row : Rows) (x y k : ℕ) where
  abbrev lifted_off : Rows
  lifted_off = at x (without k (row x)) row

  abbrev turned : Rows
  turned = at y (x ∷ lifted_off y) lifted_off

  -- only the row of x loses a number
  turned_has : (z c : ℕ) → (z ≡ x → ⊥) → ContainsAt (row z) c → ContainsAt (turned z) c
  turned_has z c ne h =
      let e : lifted_off z ≡ row z = at_else x (without k (row x)) row z ne in
      elim (cases_eq z y) [
        | inl q ↦
            let i : ContainsAt (lifted_off y) c = subst (λ (t : ℕ). ContainsAt (lifted_off t) c) q (rw e h) in
            rw q (rw (at_here y (x ∷ lifted_off y) lifted_off) (has_cons x (lifted_off y) c i))
        | inr nq ↦ rw (at_else y (x ∷ lifted_off y) lifted_off z nq) (rw e h)
      ]

module _ (cap : ℕ → ℕ) (n : ℕ) (links : List Link) (u v : ℕ) (u_in : u < n) (v_in : v < n) where
  within_in : (row : Rows) → Oriented cap n row links → (k x : ℕ) → Within row u v k x → x < n
  within_in row o zero x (inl e) = rw e u_in
  within_in row o zero x (inr e) = rw e v_in
  within_in row o (suc k) x (inl w) = within_in row o k x w
  within_in row o (suc k) x (inr (y, w, h)) = all-has (λ c. c < n) (row y) x (o.inside y (within_in row o k y w)) h

  abbrev Can : Type 0
  Can = (row' : Rows) × Oriented cap n row' ((u, v) ∷ links)

  lay : (k : ℕ) (row : Rows) → Oriented cap n row links → (y : ℕ) → Within row u v k y → length (row y) < cap y → Can
  lay zero row o y (inl e) free = (at u (v ∷ row u) row, laid cap n row _ links u v o u_in v_in (rw e at free) (put_at n u v row))
  lay zero row o y (inr e) free = (
    at v (u ∷ row v) row,
    relinked cap n _ ((v, u) ∷ links) ((u, v) ∷ links) (laid cap n row _ links v u o v_in u_in (rw e at free) (put_at n v u row))
        (λ p s. omega (arith, sum_by-cons (λ l. bit (p l)) ((v, u)) links, sum_by-cons (λ l. bit (p l)) ((u, v)) links, ap bit (s u v))),
  )
  lay (suc k) row o y (inl w) free = lay k row o y w free
  lay (suc k) row o y (inr (x, w, h)) free =
      elim (kept_within row row' u v x (turned_has row x y h.0) k x w) [
        | inl w' ↦ lay k row' (flipped cap n row mid row' links x y o x_in y_in mid_free out back) x w' x_free
        | inr b ↦ shorter k b (lay k row o y)
      ]
    where
      x_in : x < n
      x_in = within_in row o k x w

      y_in : y < n
      y_in = all-has (λ c. c < n) (row x) y (o.inside x x_in) h

      mid : Rows
      mid = lifted_off row x y h.0

      row' : Rows
      row' = turned row x y h.0

      out : Put n x y mid row
      out = put_back n x y row (without h.0 (row x)) (without_same (row x) h.0 y h.1 (h.2 0))

      back : Put n y x mid row'
      back = put_at n y x mid

      mid_free : length (mid y) < cap y
      mid_free =
          elim (cases_eq y x) [
            | inl q ↦ omega (arith, (put_lengths n x y mid row out).0, ap (λ (t : ℕ). length (mid t)) q, ap (λ (t : ℕ). length (row t)) q)
            | inr ne ↦ omega (arith, (put_lengths n x y mid row out).1 y y_in ne)
          ]

      x_free : length (row' x) < cap x
      x_free =
          elim (cases_eq x y) [
            | inl q ↦
                omega (
                  arith,
                  (put_lengths n x y mid row out).0,
                  (put_lengths n y x mid row' back).0,
                  ap cap q,
                  ap (λ (t : ℕ). length (mid t)) q,
                  ap (λ (t : ℕ). length (row t)) q,
                  ap (λ (t : ℕ). length (row' t)) q,
                )
            | inr ne ↦ omega (arith, (put_lengths n x y mid row out).0, (put_lengths n y x mid row' back).1 x x_in ne, o.fits x x_in)
          ]

      shorter : (j : ℕ) → Before row u v j x → (Within row u v j y → length (row y) < cap y → Can) → Can
      shorter zero b f = absurd b
      shorter (suc j) b f = f (inr (x, b, h)) free

pub can_lay : CanLay
can_lay cap n row links o u v u_in v_in x r free =
    let (k, w) = within_reach row u v x r in lay cap n links u v u_in v_in k row o x w free
