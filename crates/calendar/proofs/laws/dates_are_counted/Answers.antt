use Rattle.calendar.proofs.Texts.{one_text, one_day, text_bound}
use Rattle.calendar.proofs.laws.dates_are_counted.Goals as goal

pub returns : goal.returns
returns c = record {
  one_text = one_text;
  one_day = one_day;
  bound = text_bound;
}
