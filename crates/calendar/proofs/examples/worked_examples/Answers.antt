use Rattle.std.proofs.Common.{refl}
use Rattle.jiff_core.specs.Calendar.{day_count, days_of_years, days_of_months}
use Rattle.calendar.specs.Dates.{day_of, day_with, day_number}
use Rattle.calendar.specs.DayTexts.{day_text, month_of, year_of}
use Rattle.calendar.proofs.examples.worked_examples.Goals as goal

pub returns-clause-first : goal.returns-clause-first
unfolding day_of day_with day_number day_count days_of_years days_of_months
returns-clause-first c = refl

pub returns-clause-last : goal.returns-clause-last
unfolding day_of day_with day_number day_count days_of_years days_of_months
returns-clause-last c = refl

pub returns-clause-leap : goal.returns-clause-leap
unfolding day_of day_with day_number day_count days_of_years days_of_months
returns-clause-leap c = refl

pub returns-clause-leap_year : goal.returns-clause-leap_year
unfolding day_of day_with day_number day_count days_of_years days_of_months
returns-clause-leap_year c = refl

pub returns-clause-century : goal.returns-clause-century
unfolding day_of day_with day_number day_count days_of_years days_of_months
returns-clause-century c = refl

pub returns-clause-february : goal.returns-clause-february
unfolding day_of day_with day_number day_count days_of_years days_of_months
returns-clause-february c = refl

pub returns-clause-month : goal.returns-clause-month
unfolding day_of day_with day_number day_count days_of_years days_of_months
returns-clause-month c = refl

pub returns-clause-short : goal.returns-clause-short
unfolding day_of day_with day_number day_count days_of_years days_of_months
returns-clause-short c = refl

pub returns-clause-sign : goal.returns-clause-sign
unfolding day_of day_with day_number day_count days_of_years days_of_months
returns-clause-sign c = refl

pub returns-clause-leap_text : goal.returns-clause-leap_text
unfolding day_text month_of year_of
returns-clause-leap_text c = refl

pub returns-clause-last_text : goal.returns-clause-last_text
unfolding day_text month_of year_of
returns-clause-last_text c = refl
