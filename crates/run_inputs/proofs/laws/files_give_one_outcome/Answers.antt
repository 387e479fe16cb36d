use Rattle.run_inputs.proofs.Outcomes.{one_outcome}
use Rattle.run_inputs.proofs.laws.files_give_one_outcome.Goals as goal

pub returns : goal.returns
returns c = one_outcome
