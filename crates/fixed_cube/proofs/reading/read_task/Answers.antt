use Rattle.std.proofs.Common.{arith}
use Rattle.fixed_cube.proofs.TaskFacts.{task_found}
use Rattle.fixed_cube.proofs.reading.read_task.Goals as goal

pub returns-in-Ok-clause-found : goal.returns-in-Ok-clause-found
returns-in-Ok-clause-found c = task_found c.args.bytes.now c.in-Ok.task (λ i. omega (arith, c.type_inv.bytes i)) c.in-Ok.ensures
