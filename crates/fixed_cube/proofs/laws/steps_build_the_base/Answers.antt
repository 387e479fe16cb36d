use Rattle.fixed_cube.specs.Cube.{fact_rows, rows_of}
use Rattle.fixed_cube.proofs.BaseFacts.{joined_fits, numbers_here}
use Rattle.fixed_cube.proofs.JobFacts.{has_product, has_task, sealed_is}
use Rattle.fixed_cube.proofs.laws.steps_build_the_base.Goals as goal

pub returns : goal.returns
returns c = record {
  tasks = has_task;
  products = has_product;
  sealed = sealed_is;
  numbers = λ snapshot h. numbers_here (rows_of snapshot) (joined_fits snapshot.range (fact_rows snapshot) h.1).1;
}
