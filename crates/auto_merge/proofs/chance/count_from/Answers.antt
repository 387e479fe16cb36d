use Rattle.std.proofs.Common.{rules, arith}
use Rattle.auto_merge.proofs.RunLemmas.{chance_found}
use Rattle.auto_merge.proofs.chance.count_from.Goals as goal

pub returns-then-days_between-days-2-clause-chance : goal.returns-then-days_between-days-2-clause-chance
returns-then-days_between-days-2-clause-chance c =
    chance_found c.args.ranges.now c.args.days c.args.first c.loop-place.place c.loop-place.invariant (search rules) (omega (arith, c.loop-place-test.true)) (c.goes_on.ensures.0 (search rules))
    (omega (arith, c.days_between.ensures, c.if-days_between-days.false)) (omega (arith, c.days_between-in-loop-place.ensures, c.if-days_between-days-2.true))
