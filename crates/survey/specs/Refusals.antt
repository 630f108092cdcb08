-- The numbers of the refusals, and the places that they name. Assumes nothing.
use Rattle.std.specs.Prelude.{ℕ, List, ◌++◌, codes, Some, None, Option, Result}
use Rattle.std.specs.Fmt.{decimal}
use Rattle.maps.specs.Checks as check
use Rattle.maps.specs.declared.refusals.ListRefusal.{ListRefusal}
use Rattle.maps.specs.declared.refusals.ListRefusal.TheVariants as list
use Rattle.survey.specs.declared.refusals.SurveyRefusal.{SurveyRefusal}
use Rattle.survey.specs.declared.refusals.SurveyRefusal.TheVariants as survey
use Rattle.survey.specs.declared.refusals.LookUpRefusal.{LookUpRefusal}
use Rattle.survey.specs.declared.refusals.LookUpRefusal.TheVariants as look

-- a survey
abbrev pub survey_number : SurveyRefusal → ℕ
survey_number survey.DepthOutOfRange = 20
survey_number survey.SizeOutOfRange = 10
survey_number survey.ShortMemory = 21
survey_number (survey.EndOutOfRange place) = 11
survey_number (survey.EqualEnds place) = 12
survey_number (survey.RepeatedLink place) = 13
survey_number survey.Dense = 22

-- the place in the list of links that a refusal names
abbrev pub survey_place : SurveyRefusal → Option ℕ
survey_place survey.DepthOutOfRange = None
survey_place survey.SizeOutOfRange = None
survey_place survey.ShortMemory = None
survey_place (survey.EndOutOfRange place) = Some place
survey_place (survey.EqualEnds place) = Some place
survey_place (survey.RepeatedLink place) = Some place
survey_place survey.Dense = None

-- a number, and the place beside it if there is one, as they are printed
abbrev pub number_text : ℕ → Option ℕ → List ℕ
number_text number None = decimal number
number_text number (Some place) = decimal number ++ codes " at link " ++ decimal place

-- what is printed for a refusal
abbrev pub survey_text : SurveyRefusal → List ℕ
survey_text e = number_text (survey_number e) (survey_place e)

-- the refusal of a list of links, as one of the survey
abbrev pub from_list : ListRefusal → SurveyRefusal
from_list list.SizeOutOfRange = survey.SizeOutOfRange
from_list list.ShortMemory = survey.ShortMemory
from_list (list.EndOutOfRange place) = survey.EndOutOfRange place
from_list (list.EqualEnds place) = survey.EqualEnds place
from_list (list.RepeatedLink place) = survey.RepeatedLink place

-- the survey was refused with this number, at this place if there is one
abbrev pub Refused : Result (Unit {0}) SurveyRefusal → ℕ → Option ℕ → Type 0
Refused = check.Refused survey_number survey_place

-- a look-up on a surveyed table
abbrev pub look_up_number : LookUpRefusal → ℕ
look_up_number look.DepthOutOfRange = 20
look_up_number look.SizeOutOfRange = 10
look_up_number look.ShortTable = 21
look_up_number look.EndOutOfRange = 11
look_up_number look.EqualEnds = 12
