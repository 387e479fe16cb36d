use Rattle.cube_val.proofs.ValueFacts.{one_value}
use Rattle.cube_val.proofs.laws.texts_have_one_value.Goals as goal

pub returns : goal.returns
returns c = one_value
