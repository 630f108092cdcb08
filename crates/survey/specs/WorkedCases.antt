-- Four surveys worked by hand. Assumes nothing.
use Rattle.std.specs.Prelude.{ℕ, List, [], ◌∷◌, nat_lt}
use Rattle.maps.specs.Links.{Link}
use Rattle.maps.specs.Sets.{Spaces}
use Rattle.maps.specs.Density.{Dense, LargestThick}
use Rattle.maps.specs.HexLinks.{hex_links}
use Rattle.maps.specs.LinkChecks.{AllLinksGood}
use Rattle.survey.specs.Orders.{times}

-- the spaces of a list
abbrev pub listed : List ℕ → Spaces
listed xs v = nat_lt 0 (times v xs)

abbrev pub triangle : List Link
triangle = (0, 1) ∷ ((1, 2) ∷ ((0, 2) ∷ []))

pub record WorkedCases : Type 0 where
  -- a hex sheet of 3 by 3 is dense at 2, and not at 3
  pub hex_good : AllLinksGood 9 (hex_links 3 3)
  pub hex_at_2 : LargestThick 2 9 (hex_links 3 3) (listed (1 ∷ (2 ∷ (3 ∷ (4 ∷ (5 ∷ (7 ∷ (8 ∷ []))))))))
  pub hex_at_3 : Dense 3 9 (hex_links 3 3) → ⊥
  -- a triangle is dense at 1
  pub triangle_good : AllLinksGood 3 triangle
  pub triangle_at_1 : LargestThick 1 3 triangle (listed (0 ∷ (1 ∷ (2 ∷ []))))
  -- one space without links is not dense at 1
  pub single_good : AllLinksGood 1 []
  pub single_at_1 : Dense 1 1 [] → ⊥
