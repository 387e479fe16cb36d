-- What a borrowed value stands for.
use Rattle.plain_answer.specs.declared.answer.OutVal.{OutVal}
use Rattle.plain_answer.specs.declared.answer.OutVal.TheVariants as out
use Rattle.plain_answer.specs.declared.out_ref.OutRef.{OutRef}
use Rattle.plain_answer.specs.declared.out_ref.OutRef.TheVariants.{Null, Whole, Units, Text}

abbrev pub value_of : OutRef → OutVal
value_of Null = out.Null
value_of (Whole n) = out.Whole n
value_of (Units n) = out.Units n
value_of (Text t) = out.Text t.now
