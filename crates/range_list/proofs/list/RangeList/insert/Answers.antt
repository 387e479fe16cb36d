use Rattle.std.proofs.Common.{rules, subst, sym, List}
use Rattle.range_list.specs.Ranges.{Interval, IsFree}
use Rattle.range_list.proofs.Apart.{insert_apart, free_later}
use Rattle.range_list.proofs.list.RangeList.insert.Goals as goal

pub invariant_of-self-2 : goal.invariant_of-self-2
invariant_of-self-2 c =
    let free = subst (λ (rs : List Interval). IsFree rs c.args.r) (sym c.self.view_is) c.requires in
    rw c.in_ok-insert.ensures.items (insert_apart c.self.inside.ranges.items c.ended_by-i.result c.args.r c.self.invariant (search rules) (search rules) (search rules)
    (free_later c.self.inside.ranges.items c.self.invariant c.args.r (search rules) free c.ended_by-i.result (search rules)))

pub returns-clause-apart : goal.returns-clause-apart
returns-clause-apart c = invariant_of-self-2 c
