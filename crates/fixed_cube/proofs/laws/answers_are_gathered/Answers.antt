use Rattle.fixed_cube.proofs.AnswerFacts.{answer_is, answer_of_snapshots}
use Rattle.fixed_cube.proofs.laws.answers_are_gathered.Goals as goal

pub returns : goal.returns
returns c = record { lists = answer_is; snapshots = answer_of_snapshots }
