use Rattle.std.proofs.Common.{arith}
use Rattle.cube_val.proofs.Digits.{step_at}
use Rattle.cube_val.proofs.number.number_of.Goals as goal

pub overflow_mul-number : goal.overflow_mul-number
overflow_mul-number c =
    let next = step_at c.args.digits.now c.loop-digit.digit-index c.requires.digits c.requires.few c.loop-digit-test.true in
    omega arith
