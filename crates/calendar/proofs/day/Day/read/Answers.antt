use Rattle.std.proofs.Common.{rules}
use Rattle.calendar.specs.Dates.{day_of}
use Rattle.calendar.proofs.Texts.{reads_exactly, reads_text}
use Rattle.calendar.proofs.day.Day.read.Goals as goal

pub returns-then-not-is_date_form-clause-computed : goal.returns-then-not-is_date_form-clause-computed
unfolding day_of
returns-then-not-is_date_form-clause-computed c = search rules

pub returns-then-not-is_date_form-clause-exactly : goal.returns-then-not-is_date_form-clause-exactly
returns-then-not-is_date_form-clause-exactly c = reads_exactly _ _ (returns-then-not-is_date_form-clause-computed c)

pub returns-clause-computed : goal.returns-clause-computed
unfolding day_of
returns-clause-computed c = search rules

pub returns-clause-exactly : goal.returns-clause-exactly
returns-clause-exactly c = reads_exactly _ _ (returns-clause-computed c)

pub returns-clause-text : goal.returns-clause-text
returns-clause-text c = reads_text _ _ (returns-clause-computed c)
