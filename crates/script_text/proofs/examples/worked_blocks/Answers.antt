use Rattle.std.proofs.Common.{refl}
use Rattle.std.specs.Fmt.{digits}
use Rattle.csv.specs.Writing.{escaped, fields_text, is_blank}
use Rattle.script_text.proofs.examples.worked_blocks.Goals as goal

pub returns-clause-cube : goal.returns-clause-cube
unfolding escaped fields_text is_blank digits
returns-clause-cube c = refl

pub returns-clause-loaded : goal.returns-clause-loaded
unfolding escaped fields_text is_blank digits
returns-clause-loaded c = refl

pub returns-clause-state : goal.returns-clause-state
unfolding escaped fields_text is_blank digits
returns-clause-state c = refl

pub returns-clause-jobs_at_rest : goal.returns-clause-jobs_at_rest
unfolding escaped fields_text is_blank digits
returns-clause-jobs_at_rest c = refl

pub returns-clause-queries_at_rest : goal.returns-clause-queries_at_rest
unfolding escaped fields_text is_blank digits
returns-clause-queries_at_rest c = refl

pub returns-clause-jobs : goal.returns-clause-jobs
unfolding escaped fields_text is_blank digits
returns-clause-jobs c = refl

pub returns-clause-segments : goal.returns-clause-segments
unfolding escaped fields_text is_blank digits
returns-clause-segments c = refl

pub returns-clause-answer : goal.returns-clause-answer
unfolding escaped fields_text is_blank digits
returns-clause-answer c = refl

pub returns-clause-out_of_memory : goal.returns-clause-out_of_memory
unfolding escaped fields_text is_blank digits
returns-clause-out_of_memory c = refl

pub returns-clause-ends : goal.returns-clause-ends
unfolding escaped fields_text is_blank digits
returns-clause-ends c = refl
