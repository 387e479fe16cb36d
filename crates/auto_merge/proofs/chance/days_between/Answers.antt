use Rattle.std.proofs.Common.{ap, arith}
use Rattle.range_list.specs.Ranges.{Interval}
use Rattle.range_list.proofs.Apart.{starts_rise, read_is}
use Rattle.auto_merge.proofs.chance.days_between.Goals as goal

pub overflow_sub-result : goal.overflow_sub-result
overflow_sub-result c =
    let rs = c.args.ranges.now in
    let x = c.index-ranges-first.result in
    let y = c.index-ranges-last.result in
    let rise = starts_rise rs c.requires.apart c.args.first c.args.last x c.requires.order c.requires.within in
    let from = ap (λ (r : Interval). r.start) (read_is rs c.args.first x x (omega (arith, c.requires.order, c.requires.within)) c.index-ranges-first.is) in
    let to = ap (λ (r : Interval). r.start) (read_is rs c.args.last y x c.requires.within c.index-ranges-last.is) in
    omega (arith, rise, from, to, c.end.ensures.after, c.number.ensures.value, c.number-2.ensures.value, c.start.ensures.value)
