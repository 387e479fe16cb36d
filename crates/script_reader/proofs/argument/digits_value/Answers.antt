use Rattle.std.proofs.Common.{arith}
use Rattle.script_reader.proofs.Digits.{step_at}
use Rattle.script_reader.proofs.argument.digits_value.Goals as goal

pub overflow_mul-number : goal.overflow_mul-number
overflow_mul-number c =
    let next = step_at c.args.digits.now c.loop-digit.digit-index c.requires.digits c.requires.few c.loop-digit-test.true in
    omega arith

pub overflow_add-number : goal.overflow_add-number
overflow_add-number c =
    let next = step_at c.args.digits.now c.loop-digit.digit-index c.requires.digits c.requires.few c.loop-digit-test.true in
    omega arith

pub loop-digit-preserved : goal.loop-digit-preserved
loop-digit-preserved c =
    let next = step_at c.args.digits.now c.loop-digit.digit-index c.requires.digits c.requires.few c.loop-digit-test.true in
    omega arith
