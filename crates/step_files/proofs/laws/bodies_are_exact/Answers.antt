use Rattle.step_files.proofs.ExactProducts.{exact_product}
use Rattle.step_files.proofs.ExactTasks.{exact_body}
use Rattle.step_files.proofs.laws.bodies_are_exact.Goals as goal

pub returns : goal.returns
returns c = record { task = exact_body; product = exact_product }
