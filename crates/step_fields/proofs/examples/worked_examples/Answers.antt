use Rattle.std.proofs.Common.{refl}
use Rattle.jiff_core.specs.Calendar.{day_count, days_of_years, days_of_months}
use Rattle.calendar.specs.Dates.{day_of, day_with, day_number}
use Rattle.calendar.specs.DayTexts.{day_text, month_of, year_of}
use Rattle.step_fields.specs.Reading.{typed_at}
use Rattle.step_fields.proofs.examples.worked_examples.Goals as goal

pub returns-clause-null : goal.returns-clause-null
unfolding typed_at
returns-clause-null c = refl

pub returns-clause-no_null : goal.returns-clause-no_null
unfolding typed_at
returns-clause-no_null c = refl

pub returns-clause-other_type : goal.returns-clause-other_type
unfolding typed_at
returns-clause-other_type c = refl

pub returns-clause-range : goal.returns-clause-range
unfolding day_text month_of year_of
returns-clause-range c = refl

pub returns-clause-no_range : goal.returns-clause-no_range
unfolding day_of day_with day_number day_count days_of_years days_of_months
returns-clause-no_range c = refl
