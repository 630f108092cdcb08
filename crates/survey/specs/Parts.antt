-- What the survey of faultless links replies, in memory of exactly the size it needs. Only contracts of private functions speak of it. Assumes nothing.
use Rattle.std.specs.Prelude.{◌≡◌, ℕ, ◌*◌, List, replicate, Ok, Err, Result}
use Rattle.maps.specs.Links.{Link}
use Rattle.maps.specs.Sets.{Spaces, bytes}
use Rattle.maps.specs.Density.{LargestThick}
use Rattle.survey.specs.declared.refusals.SurveyRefusal.{SurveyRefusal}
use Rattle.survey.specs.declared.refusals.SurveyRefusal.TheVariants.{Dense}
use Rattle.survey.specs.Orders.{Ordering}
use Rattle.survey.specs.Tables.{Table}

-- accepted: an order and its table, and the set unchanged; dense: the bytes of the largest thick set, and an empty order and table
abbrev pub Parts : (n k : ℕ) → List Link → (order table set set' : List ℕ) → Result (Unit {0}) SurveyRefusal → Type 0
Parts n k links order table set set' (Ok x) = Ordering k n links order × Table k n links order table × (set' ≡ set)
Parts n k links order table set set' (Err e) =
    (e ≡ Dense)
    × ((s : Spaces) × LargestThick k n links s × (set' ≡ bytes n s))
    × (order ≡ replicate n 65535)
    × (table ≡ replicate (n * k) 65535)
