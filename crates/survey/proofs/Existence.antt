-- An order exists exactly where no set is thick.
use Rattle.std.proofs.Common.{◌≡◌, ℕ, zero, suc, ◌<◌, ◌≤◌, ◌&&◌, leb, ◌⊎◌, List, [], ◌∷◌, length, refl, ap, inl, inr, arith}
use Rattle.std.specs.List.{AllByRecursion}
use Rattle.std.proofs.lemmas.Bool.{cases_eq, cases_lt, eqb-true, eq-eqb, le-leb, leb-true, and_from, and_parts}
use Rattle.maps.specs.Links.{Link}
use Rattle.maps.specs.Density.{neighbours_in, Dense}
use Rattle.maps.specs.LinkChecks.{GoodLinks}
use Rattle.survey.specs.Orders.{times}
use Rattle.survey.specs.Filling.{outside, Peeled}
use Rattle.survey.specs.Theorems.{OrderedUnlessDense}
use Rattle.maps.proofs.Good.{T_true, true_T}
use Rattle.survey.proofs.Counts.{times_yes, times_no, largest}
use Rattle.survey.proofs.Peeling.{placing, all_listed, peeled_ordering, ordering_not_dense}
use Rattle.survey.proofs.Build.{missing_one}

-- the last m spaces of an order
record Back (k n : ℕ) (links : List Link) (m : ℕ) (placed : List ℕ) : Type 0 where
  long : length placed ≡ m
  spaces : AllByRecursion (λ v. v < n) placed
  once : (v : ℕ) → v < n → times v placed ≤ 1
  peeled : Peeled k links placed

module _ (k n : ℕ) (links : List Link) (g : GoodLinks n links) where
  -- one space more, or a thick set
  on : (m : ℕ) (placed : List ℕ) → m < n → Back k n links m placed → ((more : List ℕ) × Back k n links (suc m) more) ⊎ Dense k n links
  on m placed l b =
      elim (largest (λ v. outside placed v && leb (neighbours_in links (outside placed) v) k) (λ v. v) n) [
        | inr (v, lv, e, _) ↦
            let (out, few) = and_parts (outside placed v) (leb (neighbours_in links (outside placed) v) k) e in
            inl (
              v ∷ placed,
              record {
                long = ap suc b.long;
                spaces = (lv, b.spaces);
                once = λ w lw. elim (cases_eq w v) [
                  | inl q ↦ omega (arith, ap (λ (y : ℕ). times y (v ∷ placed)) q, times_yes v placed, eqb-true (times v placed) 0 out)
                  | inr ne ↦ omega (arith, times_no v w placed ne, b.once w lw)
                ];
                peeled = placing k n links g placed b.peeled v (leb-true (neighbours_in links (outside placed) v) k few);
              },
            )
        | inl none ↦ inr (
          outside placed,
          (
            let (v, lv, e) = missing_one n placed b.spaces b.once (omega (arith, b.long)) in (v, lv, true_T _ (eq-eqb (times v placed) 0 e)),
            λ v lv out. elim (cases_lt k (neighbours_in links (outside placed) v)) [
              | inl more ↦ more
              | inr few ↦ absurd (none v lv (and_from _ _ (T_true _ out) (le-leb (neighbours_in links (outside placed) v) k few)))
            ],
          ),
        )
      ]

  back : (m : ℕ) → m ≤ n → ((placed : List ℕ) × Back k n links m placed) ⊎ Dense k n links
  back zero l = inl ([], record { long = refl; spaces = tt; once = λ v lv. omega arith; peeled = tt })
  back (suc m) l =
      elim (back m (omega arith)) [
        | inl (placed, b) ↦ on m placed (omega arith) b
        | inr d ↦ inr d
      ]

pub ordered_unless_dense : OrderedUnlessDense
ordered_unless_dense k n links g = (
  λ o. ordering_not_dense k n links g o.0 o.1,
  λ not_dense. elim (back k n links g n (omega arith)) [
    | inl (placed, b) ↦ (placed, peeled_ordering k n links g placed b.long (all_listed n placed b.long b.spaces b.once) b.peeled)
    | inr d ↦ absurd (not_dense d)
  ],
)
