use Rattle.std.proofs.Common.{◌+◌, ◌-◌, ap, refl, arith, Option, Some, None, IsSome, IsNone}
use Rattle.range_list.specs.Ranges.{Interval}
use Rattle.range_list.proofs.Apart.{starts_rise, read_is}
use Rattle.auto_merge.proofs.plan.whole_of.Goals as goal

some_of : (o : Option Interval) → ¬ (IsNone o) → IsSome o
some_of None h = absurd (h refl)
some_of (Some r) h = refl

pub unwrap-requires : goal.unwrap-requires
unwrap-requires c =
    let rs = c.args.ranges.now in
    let first = c.args.run.now.first in
    let count = c.args.run.now.count in
    let x = c.index-ranges-run.result in
    let y = c.index-ranges-run-2.result in
    let some = c.requires.some in
    let within = c.requires.within in
    let rise = starts_rise rs c.requires.apart first (first + count - 1) x (omega arith) (omega arith) in
    let from = ap (λ (r : Interval). r.start) (read_is rs first x x (omega arith) c.index-ranges-run.is) in
    let to = ap (λ (r : Interval). r.start) (read_is rs (first + count - 1) y x (omega arith) c.index-ranges-run-2.is) in
    some_of c.new.result (λ none. omega (arith, c.new.ensures.none.0 none, rise, from, to, c.end.ensures.after, c.start.ensures.value))
