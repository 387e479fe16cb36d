use Rattle.std.proofs.Common.{sym, ◌∙◌}
use Rattle.fixed_cube.proofs.TaskFacts.{made_is, no_task}
use Rattle.fixed_cube.proofs.work.SmallWorkStepWork.work.Goals as goal

pub returns-in-Err-Malformed-clause-bad_task : goal.returns-in-Err-Malformed-clause-bad_task
returns-in-Err-Malformed-clause-bad_task g c = λ _. no_task c.args.task.now (rw c.in-Err-Malformed.field-0-is at c.in-Err-Malformed.ensures.task)

pub returns-in-Ok-product-clause-product : goal.returns-in-Ok-product-clause-product
returns-in-Ok-product-clause-product g c = c.in-Ok-product.ensures ∙ sym (made_is c.args.task.now c.in-Ok.found c.in-Ok.ensures.task)
