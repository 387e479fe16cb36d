use Rattle.step_outcomes.proofs.FaultFacts.{stands-among}
use Rattle.step_outcomes.proofs.laws.ends_stand.Goals as goal

pub returns : goal.returns
returns c = stands-among
