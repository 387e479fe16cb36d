use Rattle.std.proofs.Common.{refl}
use Rattle.std.specs.Fmt.{digits}
use Rattle.csv.specs.Writing.{fields_text, is_blank}
use Rattle.cubes_plain.proofs.examples.worked_examples.Goals as goal

pub returns-clause-none : goal.returns-clause-none
unfolding fields_text is_blank
returns-clause-none c = refl

pub returns-clause-three : goal.returns-clause-three
unfolding fields_text is_blank digits
returns-clause-three c = refl
