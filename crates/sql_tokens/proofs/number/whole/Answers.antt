use Rattle.std.proofs.Common.{◌≤◌, length, arith}
use Rattle.cube_val.proofs.Digits.{value_below}
use Rattle.sql_tokens.proofs.number.whole.Goals as goal

pub overflow_cast-rows : goal.overflow_cast-rows
overflow_cast-rows c =
    let few : length c.args.digits.now ≤ 9 = omega arith in
    let small = value_below c.args.digits.now 9 c.requires few in
    omega arith

pub overflow_mul-value_of : goal.overflow_mul-value_of
overflow_mul-value_of c =
    let few : length c.args.digits.now ≤ 30 = omega arith in
    let small = value_below c.args.digits.now 30 c.requires few in
    omega arith

pub new-units-requires : goal.new-units-requires
new-units-requires c =
    let few : length c.args.digits.now ≤ 30 = omega arith in
    let small = value_below c.args.digits.now 30 c.requires few in
    omega arith
