use Rattle.step_codec.proofs.ExactBodies.{exact_all_loaded, exact_holding, exact_layer}
use Rattle.step_codec.proofs.ExactSeals.{exact_seal}
use Rattle.step_codec.proofs.laws.bodies_are_exact.Goals as goal

pub returns : goal.returns
returns c = record { loaded = exact_all_loaded; holding = exact_holding; layer = exact_layer; seal = exact_seal }
