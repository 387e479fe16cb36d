use Rattle.cube_val.proofs.Decimals.{decimal_none, decimal_parts, decimal_some}
use Rattle.cube_val.proofs.number.read_decimal.Goals as goal

pub returns-in_default-clause-none : goal.returns-in_default-clause-none
returns-in_default-clause-none c = λ units w.
    let p = decimal_parts _ _ _ c.without_sign-number.ensures units w in
    c.in_default.ensures.value (rw c.split_at_point.ensures.whole p.is_whole)

pub returns-in_default-read_tail-clause-none : goal.returns-in_default-read_tail-clause-none
returns-in_default-read_tail-clause-none c = λ units w.
    let p = decimal_parts _ _ _ c.without_sign-number.ensures units w in
    c.in_default-read_tail.ensures.none p.places (rw c.split_at_point.ensures.tail p.is_tail)

pub returns-clause-some : goal.returns-clause-some
returns-clause-some c =
    let whole = rw c.split_at_point.ensures.whole at c.in-Some.ensures.value in
    let tail = rw c.split_at_point.ensures.tail at c.in-Some-read_tail.ensures.some in
    decimal_some _ _ _ c.without_sign-number.ensures c.in-Some.whole c.in-Some-read_tail.places _ whole tail c.with_sign.ensures

pub returns-clause-none : goal.returns-clause-none
returns-clause-none c =
    let whole = rw c.split_at_point.ensures.whole at c.in-Some.ensures.value in
    let tail = rw c.split_at_point.ensures.tail at c.in-Some-read_tail.ensures.some in
    decimal_none _ _ _ c.without_sign-number.ensures c.in-Some.whole c.in-Some-read_tail.places _ whole tail c.with_sign.ensures
