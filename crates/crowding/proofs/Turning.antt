-- One link turned on the way back.
use Rattle.std.proofs.Common.{◌≡◌, ℕ, ◌<◌, ◌≤◌, eqb, List, get_or, count_by, ap, inl, inr, arith}
use Rattle.std.specs.List.{ContainsAt}
use Rattle.std.proofs.lemmas.List.Sums.{sum_by-cons, get_or-le-sum_by}
use Rattle.std.proofs.lemmas.Bool.{cases_eq, eq-eqb}
use Rattle.crowding.specs.Orientation.{Rows}
use Rattle.crowding.specs.Putting.{Put}
use Rattle.crowding.specs.Theorems.{Turned}
use Rattle.crowding.proofs.Sums.{bit}
use Rattle.crowding.proofs.Tables.{count_has}
use Rattle.crowding.proofs.Moves.{flipped, put_lengths}

pub has_count : (c : ℕ) (xs : List ℕ) → ContainsAt xs c → 1 ≤ count_by (λ x. eqb x c) xs
has_count c xs (i, l, e) = omega (arith, get_or-le-sum_by (λ x. bit (eqb x c)) xs i 0 l, ap bit (eq-eqb (get_or xs i 0) c (e 0)))

module _ (n u v : ℕ) (row row' : Rows) (m : Put n u v row row') where
  pub put_has : (x c : ℕ) → x < n → ContainsAt (row x) c → ContainsAt (row' x) c
  put_has x c l h =
      elim (cases_eq x u) [
        | inl q ↦
            let k : 1 ≤ count_by (λ y. eqb y c) (row u) = rw q at (has_count c (row x) h) in
            rw q (count_has c (row' u) (omega (arith, m.here (λ y. eqb y c), sum_by-cons (λ y. bit (eqb y c)) v (row u))))
        | inr ne ↦ count_has c (row' x) (omega (arith, has_count c (row x) h, m.others x l ne (λ y. eqb y c)))
      ]

  pub out_has : (x c : ℕ) → x < n → (x ≡ u → ⊥) → ContainsAt (row' x) c → ContainsAt (row x) c
  out_has x c l ne h = count_has c (row x) (omega (arith, has_count c (row' x) h, m.others x l ne (λ y. eqb y c)))

pub turned : Turned
turned cap n links u v found parent turn row mid row' w t nu nv out back =
    elim (t.back w t.here (omega arith)) [
      | inl (inl e) ↦ absurd (nu e)
      | inl (inr e) ↦ absurd (nv e)
      | inr (fp, lt, h) ↦
          let p : ℕ = parent w in
          let p_in : p < n = t.inside p fp in
          let w_in : w < n = t.inside w t.here in
          let apart : w ≡ p → ⊥ = λ e. omega (arith, ap turn e) in
          let apart' : p ≡ w → ⊥ = λ e. omega (arith, ap turn e) in (
            record {
              board = flipped cap n row mid row' links p w t.board p_in w_in (omega (arith, (put_lengths n p w mid row out).1 w w_in apart, t.free)) out back;
              here = fp;
              free = omega (arith, (put_lengths n p w mid row out).0, (put_lengths n w p mid row' back).1 p p_in apart', t.board.fits p p_in);
              inside = t.inside;
              back = λ x fx lx. elim (t.back x fx (omega arith)) [
                | inl r ↦ inl r
                | inr (fc, lc, i) ↦
                    let c_in : parent x < n = t.inside (parent x) fc in
                    inr (fc, lc, put_has n w p mid row' back (parent x) x c_in (out_has n p w mid row out (parent x) x c_in (λ e. omega (arith, ap turn e)) i))
              ];
            },
            lt,
          )
    ]
