-- The texts of columns, as bytes: points in halves, goods as whole numbers parted by commas. Assumes nothing.
use Rattle.std.specs.Prelude.{ℕ, ◌/◌, ◌%◌, cond, List, [], ◌∷◌, ◌++◌, ℤ, pos, negsuc, codes, decimal, ◌==◌, unsigned_abs}
use Rattle.std.specs.Fmt.{signed_decimal}

-- a minus sign if z is below 0
abbrev pub minus : ℤ → List ℕ
minus (pos n) = []
minus (negsuc n) = codes "-"

-- n halves: the whole part in decimal, and .5 if n is odd
abbrev pub halves_text : ℕ → List ℕ
halves_text n = decimal (n / 2) ++ cond (n % 2 == 1) (codes ".5") []

-- z halves: a minus sign if z is below 0, then the halves of its size
abbrev pub signed_halves_text : ℤ → List ℕ
signed_halves_text z = minus z ++ halves_text (unsigned_abs z)

-- the text of each column, parted by commas
abbrev pub parted : (ℤ → List ℕ) → List ℤ → List ℕ
parted text [] = []
parted text (z ∷ []) = text z
parted text (z ∷ (y ∷ zs)) = text z ++ (codes "," ++ parted text (y ∷ zs))

-- points: their one column in halves
abbrev pub points_text_of : List ℤ → List ℕ
points_text_of = parted signed_halves_text

-- goods: each column in decimal, with a minus sign if it is below 0
abbrev pub goods_text : List ℤ → List ℕ
goods_text = parted signed_decimal
