use Rattle.std.proofs.Common.{◌≤◌, length, arith}
use Rattle.cube_val.proofs.Digits.{value_below}
use Rattle.sql_tokens.proofs.NumberFacts.{four_places_digits, places_below}
use Rattle.sql_tokens.proofs.number.decimal.Goals as goal

pub overflow_mul-size : goal.overflow_mul-size
overflow_mul-size c =
    let few : length c.args.digits.now ≤ 30 = omega arith in
    let small = value_below c.args.digits.now 30 c.requires.digits few in
    omega arith

pub value_of-requires-2-clause-digits : goal.value_of-requires-2-clause-digits
value_of-requires-2-clause-digits c = rw c.four_places.ensures (four_places_digits c.args.places.now c.requires.places)

pub overflow_add-size : goal.overflow_add-size
overflow_add-size c =
    let few : length c.args.digits.now ≤ 30 = omega arith in
    let small = value_below c.args.digits.now 30 c.requires.digits few in
    let places = places_below c.args.places.now c.requires.places in
    let same = rw c.four_places.ensures at c.value_of-2.ensures in
    omega arith

pub new-requires : goal.new-requires
new-requires c =
    let few : length c.args.digits.now ≤ 30 = omega arith in
    let small = value_below c.args.digits.now 30 c.requires.digits few in
    let places = places_below c.args.places.now c.requires.places in
    let same = rw c.four_places.ensures at c.value_of-2.ensures in
    omega arith
