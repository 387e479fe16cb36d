use Rattle.cubes_top.proofs.RestFacts.{whole-rests}
use Rattle.cubes_top.proofs.laws.whole_runs_rest.Goals as goal

pub returns : goal.returns
returns c = whole-rests
