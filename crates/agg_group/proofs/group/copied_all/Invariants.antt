use Rattle.std.proofs.Common.{◌≡◌, take}
use Rattle.agg_group.specs.Rules.{lists_of}
use Rattle.agg_group.proofs.group.copied_all.Given as goal

abbrev pub invariant-loop-list : goal.invariant-loop-list
invariant-loop-list l = lists_of l.copies.items ≡ lists_of (take l.list-index l.lists)
