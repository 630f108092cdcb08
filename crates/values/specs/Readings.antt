-- Columns by their number, and values made of columns that were guessed. Assumes nothing.
use Rattle.std.specs.Prelude.{◌≡◌, ℕ, ◌*◌, ◌≤◌, List, [], ◌∷◌, length, ℤ, IfSome, Some, None, Option, unsigned_abs, refl}
use Rattle.std.proofs.Common.{sym, ◌∙◌, ap, arith}
use Rattle.std.proofs.lemmas.Int.{ints}
use Rattle.values.specs.Columns.{Within, Held, Readable, Made, total}
use Rattle.values.specs.Guesses.{Guess, list_of}
use Rattle.values.specs.Texts.{signed_halves_text, points_text_of, goods_text}
use Rattle.values.specs.Numbers.{length_points, length_goods}

-- all of one length, by their parts
pub one_column : (P : List ℤ → Type 0) → ((a : ℤ) → P (a ∷ [])) → (cs : List ℤ) → length cs ≡ 1 → P cs
one_column P f [] e = absurd (omega arith)
one_column P f (a ∷ []) e = f a
one_column P f (a ∷ (b ∷ cs)) e = absurd (omega arith)

pub four_columns : (P : List ℤ → Type 0) → ((a b c d : ℤ) → P (a ∷ (b ∷ (c ∷ (d ∷ []))))) → (cs : List ℤ) → length cs ≡ 4 → P cs
four_columns P f [] e = absurd (omega arith)
four_columns P f (a ∷ []) e = absurd (omega arith)
four_columns P f (a ∷ (b ∷ [])) e = absurd (omega arith)
four_columns P f (a ∷ (b ∷ (c ∷ []))) e = absurd (omega arith)
four_columns P f (a ∷ (b ∷ (c ∷ (d ∷ [])))) e = f a b c d
four_columns P f (a ∷ (b ∷ (c ∷ (d ∷ (x ∷ cs))))) e = absurd (omega arith)

-- a value that was made of columns in range
pub made_found : {V : Type 0} (columns : V → List ℤ) → ((v w : V) → columns v ≡ columns w → v ≡ w)
    → (cs : List ℤ) (r : Option V) → Made columns cs r → Held cs → (v : V) → columns v ≡ cs → r ≡ Some v
made_found columns same cs None m h v e = absurd (m h)
made_found columns same cs (Some w) m h v e = ap Some (same w v (m ∙ sym e))

pub made_ranged : {V : Type 0} (columns : V → List ℤ) (cs : List ℤ) (r : Option V) → Made columns cs r → Readable cs → IfSome r (λ v. Readable (columns v))
made_ranged columns cs None m h = tt
made_ranged columns cs (Some w) m h = rw m h

-- no more than four columns weigh at most 4,000,000,000
size_total : (cs : List ℤ) → Held cs → unsigned_abs (total cs) ≤ 1000000000 * length cs
size_total [] h = omega (arith, ints)
size_total (z ∷ zs) h = omega (arith, ints, size_total zs h.1, h.0)

pub light : (cs : List ℤ) → length cs ≤ 4 → Held cs → unsigned_abs (total cs) ≤ 4000000000
light cs l h = omega (arith, size_total cs h)

-- how long a text is
pub short_points : (cs : List ℤ) → length cs ≡ 1 → Held cs → length (points_text_of cs) ≤ 47
short_points = one_column (λ cs. Held cs → length (points_text_of cs) ≤ 47) (λ a h. length_points a h.0)

pub short_goods : (cs : List ℤ) → length cs ≡ 4 → Held cs → length (goods_text cs) ≤ 47
short_goods =
    four_columns (λ cs. Held cs → length (goods_text cs) ≤ 47) (λ a b c d h. length_goods a b c d h.0 h.1.0 h.1.1.0 h.1.1.1.0)

-- columns that were guessed
pub points_found : (bs : List ℕ) (o : Option ℤ) → Guess signed_halves_text (Within 1000000) bs o
    → (cs : List ℤ) → length cs ≡ 1 → Readable cs → bs ≡ points_text_of cs → (z : ℤ) × (z ∷ [] ≡ cs) × (o ≡ Some z)
points_found bs o g =
    one_column (λ cs. Readable cs → bs ≡ points_text_of cs → (z : ℤ) × (z ∷ [] ≡ cs) × (o ≡ Some z)) (λ a r e. (a, refl, g.found a r.0 e))

pub goods_found : (bs : List ℕ) (o : Option (ℤ × ℤ × ℤ × ℤ)) → Guess (λ q. goods_text (list_of q)) (λ q. Readable (list_of q)) bs o
    → (cs : List ℤ) → length cs ≡ 4 → Readable cs → bs ≡ goods_text cs → (q : ℤ × ℤ × ℤ × ℤ) × (list_of q ≡ cs) × (o ≡ Some q)
goods_found bs o g =
    four_columns (λ cs. Readable cs → bs ≡ goods_text cs → (q : ℤ × ℤ × ℤ × ℤ) × (list_of q ≡ cs) × (o ≡ Some q))
    (λ a b c d r e. ((a, b, c, d), refl, g.found (a, b, c, d) r e))
