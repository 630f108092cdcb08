-- No colour holds a ring.
use Rattle.std.proofs.Common.{◌≡◌, ℕ, ◌+◌, ◌-◌, ◌<◌, ◌≤◌, true, ◌⊎◌, List, length, get_or, sym, refl, ◌∙◌, inl, inr, arith}
use Rattle.std.proofs.ByRecursion.{All-get_or}
use Rattle.std.proofs.lemmas.Bool.{cases_eq, cases_order}
use Rattle.maps.specs.Links.{Link}
use Rattle.survey.specs.Orders.{place}
use Rattle.survey.specs.Tables.{cell, Table}
use Rattle.survey.specs.Colours.{Ring}
use Rattle.survey.proofs.Counts.{largest}
use Rattle.survey.proofs.Cells.{cell_says}

module _ (k n : ℕ) (links : List Link) (small : n ≤ 65535) (order table : List ℕ) (t : Table k n links order table) (colour : ℕ) (ring : List ℕ) (r : Ring k n links table colour ring) where
  at : ℕ → ℕ
  at i = get_or ring i 0

  at_in : (i : ℕ) → i < length ring → at i < n
  unfolding at
  at_in i l = All-get_or (λ v. v < n) ring i 0 l r.spaces

  differ : (i j : ℕ) → i < length ring → j < length ring → (i ≡ j → ⊥) → at i ≡ at j → ⊥
  unfolding at
  differ i j li lj ne e =
      elim (cases_order i j) [
        | inl q ↦ ne q
        | inr (inl b) ↦ r.apart i j b lj e
        | inr (inr b) ↦ r.apart j i b li (sym e)
      ]

  -- two places in the ring whose spaces share a cell
  joined : ℕ → ℕ → Type 0
  joined i j = (colour < k) × ((cell k table (at i) colour ≡ at j) ⊎ (cell k table (at j) colour ≡ at i))

  turned : (i j : ℕ) → joined i j → joined j i
  unfolding joined
  turned i j h = (h.0, elim h.1 [ inl e ↦ inr e | inr e ↦ inl e ])

  step : (i j : ℕ) → i + 1 ≡ j → j < length ring → joined i j
  unfolding at joined
  step i j q l = rw (sym q) (let x = r.steps i (omega arith) in (x.1, x.2))

  -- each place has two others that it is joined to
  two : (i : ℕ) → i < length ring → (p : ℕ) × (q : ℕ) × (p < length ring) × (q < length ring) × (p ≡ i → ⊥) × (q ≡ i → ⊥) × (p ≡ q → ⊥) × joined p i × joined q i
  unfolding at joined
  two i l =
      let m : ℕ = length ring in
      let three : 3 ≤ m = r.three in
      let last : joined (m - 1) 0 = (r.closes.1, r.closes.2) in
      elim (cases_eq i 0) [
        | inl e ↦ let back : joined (m - 1) i = rw e last in
            (m - 1, 1, omega arith, omega arith, λ z. omega arith, λ z. omega arith, λ z. omega arith, back, turned i 1 (step i 1 (omega arith) (omega arith)))
        | inr ne ↦ elim (cases_eq i (m - 1)) [
          | inl e ↦ let on : joined 0 i = rw e (turned (m - 1) 0 last) in
              (i - 1, 0, omega arith, omega arith, λ z. omega arith, λ z. omega arith, λ z. omega arith, step (i - 1) i (omega arith) l, on)
          | inr nl ↦
              (i - 1, i + 1, omega arith, omega arith, λ z. omega arith, λ z. omega arith, λ z. omega arith, step (i - 1) i (omega arith) l, turned i (i + 1) (step i (i + 1) refl (omega arith)))
        ]
      ]

  -- the cell lies in the row of the later
  cell_of : (p i : ℕ) → p < length ring → i < length ring → (p ≡ i → ⊥) → joined p i → place order (at p) ≤ place order (at i) → cell k table (at i) colour ≡ at p
  unfolding joined
  cell_of p i lp li ne h b =
      elim h.1 [
        | inr e ↦ e
        | inl e ↦ absurd (omega (arith, (cell_says k n links order table t (at p) colour (at i) (at_in p lp) h.0 (λ z. omega (arith, at_in i li)) e).1))
      ]

  pub none : ⊥
  none =
      elim (largest (λ _. true) (λ i. place order (at i)) (length ring)) [
        | inl h ↦ h 0 (omega (arith, r.three)) refl
        | inr (i, l, _, h) ↦
            let (p, q, lp, lq, np, nq, ne, jp, jq) = two i l in
            differ p q lp lq ne (sym (cell_of p i lp l np jp (h p lp refl)) ∙ cell_of q i lq l nq jq (h q lq refl))
      ]

pub no_ring :
    (k n : ℕ) (links : List Link) → n ≤ 65535 → (order table : List ℕ) → Table k n links order table →
    (colour : ℕ) (ring : List ℕ) → Ring k n links table colour ring → ⊥
no_ring k n links small order table t colour ring r = none k n links small order table t colour ring r
