-- Writing and reading together, and texts that no value writes. Assumes nothing.
use Rattle.std.specs.Prelude.{◌≡◌, ℕ, Bool, true, false, not, ◌&&◌, List, [], ◌∷◌, length, ℤ, pos, negsuc, IfSome, Some, None, Option, ◌==◌, refl}
use Rattle.std.proofs.Common.{sym, ◌∙◌, ap, subst, arith, eq-eqb}
use Rattle.std.specs.Coded.{×_prop}
use native.Mathlib.Nat.{ℕ_set}
use Rattle.std.specs.Fmt.{digits}
use Rattle.std.specs.List.{AllByRecursion}
use Rattle.values.specs.Columns.{Within, Held, Held-prop, Readable}
use Rattle.values.specs.Readings.{one_column, four_columns}
use Rattle.values.specs.Shown.{shown}
use Rattle.values.specs.Texts.{points_text_of, goods_text}
use Rattle.values.specs.Theorems.{ReadsBack, ToldApart, Unwritten, Refused, RefusesUnwritten}
use Rattle.values.specs.Values.{points_columns, goods_columns}
use Rattle.values.specs.Worked.{WorkedPoints, NoPoints, NoGoods, LongestGoods, no_points, no_goods}
use Rattle.values.specs.declared.columns.Columns.{Columns}
use Rattle.values.specs.declared.goods.Goods.{Goods}
use Rattle.values.specs.declared.points.Points.{Points}
use Rattle.values.specs.Decoding.{points_columns_of, goods_columns_of, points_back, goods_back}

only_same : {V : Type 0} (columns : V → List ℤ) (text : List ℤ → List ℕ) → ToldApart columns text → (v : V) (bytes : List ℕ) (r : Option V)
    → bytes ≡ text (columns v) → IfSome r (λ w. Readable (columns w) × (bytes ≡ text (columns w))) → (Readable (columns v) → ⊥) → r ≡ None
only_same columns text told v bytes None e h n = refl
only_same {V} columns text told v bytes (Some w) e h n =
    let P : V → Type 0 = λ x. Readable (columns x) in
    absurd (n (subst P (told w v (sym h.1 ∙ e)) h.0))

pub reads_back : {V : Type 0} (columns : V → List ℤ) (text : List ℤ → List ℕ) → ToldApart columns text → ReadsBack columns text
reads_back columns text told v written r e g =
    (λ l. g.found v l e, λ n. only_same columns text told v (shown written) r e g.only n)

pub refuses_unwritten : {V : Type 0} (columns : V → List ℤ) (text : List ℤ → List ℕ) → RefusesUnwritten columns text
refuses_unwritten {V} columns text bytes u r g = by r g.only
  where
    by : (r : Option V) → IfSome r (λ v. Readable (columns v) × (bytes ≡ text (columns v))) → r ≡ None
    by None h = refl
    by (Some v) h = absurd (u v h.1)

-- whether two texts are the same
abbrev alike : List ℕ → List ℕ → Bool
alike [] [] = true
alike [] (y ∷ ys) = false
alike (x ∷ xs) [] = false
alike (x ∷ xs) (y ∷ ys) = x == y && alike xs ys

alike_same : (xs : List ℕ) → alike xs xs ≡ true
alike_same [] = refl
alike_same (x ∷ xs) = rw (eq-eqb x x refl) (alike_same xs)

-- a text that is not written as the columns that are got back from it is not written at all
abbrev odd : (List ℕ → List ℤ) → (List ℤ → List ℕ) → List (List ℕ) → Bool
odd back text [] = true
odd back text (bytes ∷ more) = not (alike bytes (text (back bytes))) && odd back text more

unwritten : {V : Type 0} (columns : V → List ℤ) (text : List ℤ → List ℕ) (back : List ℕ → List ℤ) → ((v : V) → back (text (columns v)) ≡ columns v)
    → (bytes : List ℕ) → not (alike bytes (text (back bytes))) ≡ true → Unwritten columns text bytes
unwritten columns text back undo bytes n v e =
    let s : text (back bytes) ≡ bytes = ap text (ap back e ∙ undo v) ∙ sym e in
    let a : alike bytes (text (back bytes)) ≡ true = rw s (alike_same bytes) in
    let t : not true ≡ true = rw a at n in
    let z : ◌≡◌ {A = ℕ} 0 1 = cc in
    omega arith

both_true : (a b : Bool) → a && b ≡ true → (a ≡ true) × (b ≡ true)
both_true true b e = (refl, e)
both_true false b e = let z : ◌≡◌ {A = ℕ} 0 1 = cc in absurd (omega arith)

all_refused : {V : Type 0} (columns : V → List ℤ) (text : List ℤ → List ℕ) (back : List ℕ → List ℤ) → ((v : V) → back (text (columns v)) ≡ columns v)
    → (texts : List (List ℕ)) → odd back text texts ≡ true → AllByRecursion (λ bytes. Unwritten columns text bytes × Refused columns text bytes) texts
all_refused columns text back undo [] o = tt
all_refused columns text back undo (bytes ∷ more) o =
    let p = both_true _ _ o in
    let u = unwritten columns text back undo bytes p.0 in
    ((u, refuses_unwritten columns text bytes u), all_refused columns text back undo more p.1)

points_undo : (v : Points) → points_columns_of (points_text_of (points_columns v)) ≡ points_columns v
points_undo v =
    one_column (λ cs. Held cs → points_columns_of (points_text_of cs) ≡ cs) (λ a h. points_back a h.0) v.columns.numbers v.columns.full v.columns.held

goods_undo : (v : Goods) → goods_columns_of (goods_text (goods_columns v)) ≡ goods_columns v
goods_undo v =
    four_columns (λ cs. Held cs → goods_columns_of (goods_text cs) ≡ cs) goods_back v.columns.numbers v.columns.full v.columns.held

-- the same columns, or the same text, are the same value
columns_with : (n : ℕ) (zs : List ℤ) → (length zs ≡ n) × Held zs → Columns n
columns_with n zs p = record { numbers = zs; full = p.0; held = p.1 }

one_way : (n : ℕ) (zs : List ℤ) → IsProp ((length zs ≡ n) × Held zs)
one_way n zs = ×_prop (ℕ_set _ _) (Held-prop zs)

same_columns : (n : ℕ) (c d : Columns n) → c.numbers ≡ d.numbers → c ≡ d
unfolding columns_with
same_columns n c d e =
    let P : List ℤ → Type 0 = λ z. (q : (length z ≡ n) × Held z) → c ≡ columns_with n z q in
    subst P e (λ q. ap (columns_with n c.numbers) (one_way n c.numbers (c.full, c.held) q)) (d.full, d.held)

points_with : Columns 1 → Points
points_with a = record { columns = a }

goods_with : Columns 4 → Goods
goods_with a = record { columns = a }

pub same_columns_points : (v w : Points) → points_columns v ≡ points_columns w → v ≡ w
unfolding points_with
same_columns_points v w e = ap points_with (same_columns 1 v.columns w.columns e)

pub same_columns_goods : (v w : Goods) → goods_columns v ≡ goods_columns w → v ≡ w
unfolding goods_with
same_columns_goods v w e = ap goods_with (same_columns 4 v.columns w.columns e)

pub told_points : ToldApart points_columns points_text_of
told_points v w e = same_columns_points v w (sym (points_undo v) ∙ ap points_columns_of e ∙ points_undo w)

pub told_goods : ToldApart goods_columns goods_text
told_goods v w e = same_columns_goods v w (sym (goods_undo v) ∙ ap goods_columns_of e ∙ goods_undo w)

pub no_points_stand : NoPoints
unfolding digits
no_points_stand = all_refused points_columns points_text_of points_columns_of points_undo no_points refl

pub no_goods_stand : NoGoods
unfolding digits
no_goods_stand = all_refused goods_columns goods_text goods_columns_of goods_undo no_goods refl

pub longest_goods : LongestGoods
unfolding digits
longest_goods = refl

abbrev points_of : (z : ℤ) → Within 1000000000 z → Points
points_of z p = record { columns = record { numbers = z ∷ []; full = refl; held = (p, tt) } }

pub worked_points : WorkedPoints
unfolding digits
worked_points =
    record {
      minus_half = refl;
      half = refl;
      minus_half_read = λ r g. rw (g.found (points_of (negsuc 0) (omega arith)) (omega arith, tt) refl) refl;
      half_read = λ r g. rw (g.found (points_of (pos 1) (omega arith)) (omega arith, tt) refl) refl;
      minus_nothing = no_points_stand.1.1.0.1;
    }
