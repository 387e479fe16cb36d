use Rattle.std.proofs.Common.{arith}
use Rattle.sql_tokens.proofs.NumberFacts.{step_at}
use Rattle.sql_tokens.proofs.number.value_of.Goals as goal

pub overflow_mul-value : goal.overflow_mul-value
overflow_mul-value c =
    let next = step_at c.args.digits.now c.loop-digit.digit-index c.requires.digits c.requires.few c.loop-digit-test.true in
    omega arith
