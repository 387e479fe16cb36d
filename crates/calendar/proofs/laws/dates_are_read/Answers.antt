use Rattle.calendar.proofs.Texts.{text_is, text_read, reads_none}
use Rattle.calendar.proofs.laws.dates_are_read.Goals as goal

pub returns : goal.returns
returns c = record {
  exactly = λ bytes day. (text_is bytes day, text_read bytes day);
  none = reads_none;
}
