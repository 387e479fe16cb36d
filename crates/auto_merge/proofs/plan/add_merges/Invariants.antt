use Rattle.std.proofs.Common.{◌≡◌, ◌++◌, List, length, map}
use Rattle.range_list.specs.Ranges.{Interval, IsApart}
use Rattle.auto_merge.specs.Plans.{AreMerges}
use Rattle.auto_merge.specs.declared.action.Action.TheVariants.{Merge}
use Rattle.auto_merge.proofs.plan.add_merges.Given as goal

abbrev pub invariant-loop-run : goal.invariant-loop-run
invariant-loop-run l = record {
  apart : IsApart l.left.items;
  merges : List Interval;
  taken : AreMerges l.days l.initial.left.items merges l.left.items;
  listed : l.actions.items ≡ l.initial.actions.items ++ map Merge merges;
}

abbrev pub decreases-loop-run : goal.decreases-loop-run
decreases-loop-run l = length l.left.items
