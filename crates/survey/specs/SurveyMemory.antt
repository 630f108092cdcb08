-- The memory lent to a survey, as what it holds. Assumes nothing.
use Rattle.maps.specs.ListMemory.{SameSlice}
use Rattle.survey.specs.declared.memory.SurveyMemory.{SurveyMemory}
use Rattle.survey.specs.Outcome.{Lent}

-- what the memory holds
abbrev pub contents : SurveyMemory → Lent
contents m = record { order = m.order.now; table = m.table.now; members = m.set.now; marks = m.marks.now }

-- it is the same memory
pub record SameMemory (before after : SurveyMemory) : Type 0 where
  pub order : SameSlice before.order after.order
  pub table : SameSlice before.table after.table
  pub set : SameSlice before.set after.set
  pub marks : SameSlice before.marks after.marks
