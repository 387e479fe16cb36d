use Rattle.step_task.proofs.ProductFacts.{made_products}
use Rattle.step_task.proofs.laws.steps_make_products.Goals as goal

pub returns : goal.returns
returns c = made_products
