-- The numbers of the refusals. Assumes nothing.
use Rattle.std.specs.Prelude.{ℕ, Some, None, Option, Result}
use Rattle.maps.specs.Checks.{Refused}
use Rattle.maps.specs.declared.refusals.ListRefusal.{ListRefusal}
use Rattle.maps.specs.declared.refusals.ListRefusal.TheVariants.{ShortMemory, EndOutOfRange, EqualEnds, RepeatedLink}
use Rattle.maps.specs.declared.refusals.ListRefusal.TheVariants as list
use Rattle.maps.specs.declared.refusals.SizeRefusal.{SizeRefusal}
use Rattle.maps.specs.declared.refusals.SizeRefusal.TheVariants.{SizeOutOfRange}
use Rattle.maps.specs.declared.refusals.SpaceRefusal.{SpaceRefusal}
use Rattle.maps.specs.declared.refusals.SpaceRefusal.TheVariants.{NoSuchSpace}

-- making a hex sheet
abbrev pub size_number : SizeRefusal → ℕ
size_number SizeOutOfRange = 10

-- the centre of a space
abbrev pub space_number : SpaceRefusal → ℕ
space_number NoSuchSpace = 11

-- the checks of a list of links
abbrev pub list_number : ListRefusal → ℕ
list_number list.SizeOutOfRange = 10
list_number ShortMemory = 21
list_number (EndOutOfRange place) = 11
list_number (EqualEnds place) = 12
list_number (RepeatedLink place) = 13

-- the place in the list that a refusal names
abbrev pub list_place : ListRefusal → Option ℕ
list_place list.SizeOutOfRange = None
list_place ShortMemory = None
list_place (EndOutOfRange place) = Some place
list_place (EqualEnds place) = Some place
list_place (RepeatedLink place) = Some place

-- the call was refused with this number, at this place if there is one
abbrev pub ListRefused : Result (Unit {0}) ListRefusal → ℕ → Option ℕ → Type 0
ListRefused = Refused list_number list_place
