use Rattle.calendar.proofs.DayFacts.{only_text_of_day, text_of_day}
use Rattle.calendar.proofs.laws.days_have_texts.Goals as goal

pub returns : goal.returns
returns c = record { text = text_of_day; only = only_text_of_day }
