use Rattle.std.proofs.Common.{arith}
use Rattle.step_files.proofs.ExactFiles.{no_product, product_found}
use Rattle.step_files.proofs.files.read_product_with.Goals as goal

pub returns-in-Ok-clause-found : goal.returns-in-Ok-clause-found
returns-in-Ok-clause-found c = product_found c.args.task.now c.args.digest.now c.args.bytes.now c.in-Ok.product c.requires.task c.requires.digest (λ i. omega (arith, c.type_inv.bytes i)) c.in-Ok.ensures

pub returns-in-Err-Malformed-clause-damaged : goal.returns-in-Err-Malformed-clause-damaged
returns-in-Err-Malformed-clause-damaged c = λ e. no_product c.args.task.now c.args.digest.now c.args.bytes.now c.requires.task c.requires.digest c.short.ensures (rw c.in-Err-Malformed.field-0-is at c.in-Err-Malformed.ensures)
