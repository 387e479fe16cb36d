use Rattle.std.proofs.Common.{refl}
use Rattle.run_transcript.proofs.SmallAnswer.{told_all}
use Rattle.run_transcript.proofs.examples.worked_blocks.Goals as goal

pub returns-clause-before : goal.returns-clause-before
returns-clause-before c = refl

pub returns-clause-answered : goal.returns-clause-answered
returns-clause-answered c = told_all

pub returns-clause-no_memory : goal.returns-clause-no_memory
returns-clause-no_memory c = refl
