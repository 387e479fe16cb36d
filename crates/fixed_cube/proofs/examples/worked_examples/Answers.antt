use Rattle.std.proofs.Common.{refl}
use Rattle.jiff_core.specs.Calendar.{day_count, days_of_years, days_of_months}
use Rattle.calendar.specs.Dates.{day_of, day_with, day_number}
use Rattle.plain_answer.proofs.ConditionLemmas.{at_true}
use Rattle.fixed_cube.proofs.examples.worked_examples.Goals as goal

pub returns-clause-rows : goal.returns-clause-rows
unfolding day_of day_with day_number day_count days_of_years days_of_months
returns-clause-rows c = refl

pub returns-clause-cells : goal.returns-clause-cells
unfolding day_of day_with day_number day_count days_of_years days_of_months
returns-clause-cells c = refl

pub returns-clause-answer : goal.returns-clause-answer
unfolding day_of day_with day_number day_count days_of_years days_of_months
returns-clause-answer c = simp at_true
