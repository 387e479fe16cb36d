use Rattle.std.proofs.Common.{rules}
use Rattle.calendar.proofs.DayFacts.{only_text_of_day}
use Rattle.calendar.proofs.Texts.{text_read}
use Rattle.calendar.proofs.day.Day.text.Goals as goal

pub returns-clause-text : goal.returns-clause-text
returns-clause-text c = record { year = c.parts-year.result.0; month = c.parts-year.result.1; day = c.parts-year.result.2; in_calendar = c.parts-year.ensures.calendar; spelled = search rules; counted = c.parts-year.ensures.number }

pub returns-clause-again : goal.returns-clause-again
returns-clause-again c = text_read _ _ (returns-clause-text c)

pub returns-clause-value : goal.returns-clause-value
returns-clause-value c = only_text_of_day _ _ (returns-clause-text c)
