use Rattle.fixed_cube.proofs.CellFacts.{exact_cells}
use Rattle.fixed_cube.proofs.TaskFacts.{exact_task, made_again, product_is}
use Rattle.fixed_cube.proofs.laws.tasks_are_exact.Goals as goal

pub returns : goal.returns
returns c = record { cells = exact_cells; task = exact_task; product = product_is; made = made_again }
