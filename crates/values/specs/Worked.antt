-- Worked texts: which are points, which are goods, and which are neither. Assumes nothing.
use Rattle.std.specs.Prelude.{◌≡◌, ℕ, List, [], ◌∷◌, length, pos, negsuc, codes}
use Rattle.std.specs.List.{AllByRecursion}
use Rattle.values.specs.Texts.{points_text_of, goods_text}
use Rattle.values.specs.Theorems.{Unwritten, Refused, ReadsAs}
use Rattle.values.specs.Values.{points_columns, goods_columns}

-- -0.5 is -1 half and 0.5 is 1 half, written and read
pub record WorkedPoints : Type 0 where
  pub minus_half : points_text_of (negsuc 0 ∷ []) ≡ codes "-0.5"
  pub half : points_text_of (pos 1 ∷ []) ≡ codes "0.5"
  pub minus_half_read : ReadsAs points_columns points_text_of (codes "-0.5") (negsuc 0 ∷ [])
  pub half_read : ReadsAs points_columns points_text_of (codes "0.5") (pos 1 ∷ [])
  pub minus_nothing : Refused points_columns points_text_of (codes "-0")

-- texts that are no points
abbrev pub no_points : List (List ℕ)
no_points =
    codes "" ∷ codes "-" ∷ codes "-0" ∷ codes "-0.0" ∷ codes "00" ∷ codes "01" ∷ codes "+1" ∷ codes "1.0" ∷ codes "1." ∷ codes ".5" ∷ codes "-.5" ∷ codes "1.50" ∷ codes "1.25"
    ∷ codes " 1" ∷ codes "1 " ∷ codes "1,0,0,0" ∷ []

abbrev pub NoPoints : Type 0
NoPoints = AllByRecursion (λ bytes. Unwritten points_columns points_text_of bytes × Refused points_columns points_text_of bytes) no_points

-- texts that are no goods: three, five, an empty one, and one of four that is no number as we write it
abbrev pub no_goods : List (List ℕ)
no_goods =
    codes "" ∷ codes "1" ∷ codes "1,2,3" ∷ codes "1,2,3,4,5" ∷ codes "1,2,3,4," ∷ codes ",,," ∷ codes "-0,2,3,4" ∷ codes "1,00,3,4" ∷ codes "1,2,+3,4" ∷ codes "1,2,3,4.0"
    ∷ codes "1, 2,3,4" ∷ codes " 1,2,3,4" ∷ []

abbrev pub NoGoods : Type 0
NoGoods = AllByRecursion (λ bytes. Unwritten goods_columns goods_text bytes × Refused goods_columns goods_text bytes) no_goods

-- the longest text of goods has 47 bytes
abbrev pub LongestGoods : Type 0
LongestGoods =
    length (goods_text (negsuc 999999999 ∷ (negsuc 999999999 ∷ (negsuc 999999999 ∷ (negsuc 999999999 ∷ []))))) ≡ 47
