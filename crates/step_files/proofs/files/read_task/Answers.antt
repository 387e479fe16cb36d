use Rattle.std.proofs.Common.{arith}
use Rattle.step_files.proofs.ExactFiles.{no_task, task_found}
use Rattle.step_files.proofs.files.read_task.Goals as goal

pub returns-in-Ok-clause-found : goal.returns-in-Ok-clause-found
returns-in-Ok-clause-found c = task_found c.args.bytes.now c.in-Ok.task (λ i. omega (arith, c.type_inv.bytes i)) c.in-Ok.ensures

pub returns-in-Err-Malformed-clause-bad : goal.returns-in-Err-Malformed-clause-bad
returns-in-Err-Malformed-clause-bad c = λ e. no_task c.args.bytes.now c.short.ensures (rw c.in-Err-Malformed.field-0-is at c.in-Err-Malformed.ensures)
