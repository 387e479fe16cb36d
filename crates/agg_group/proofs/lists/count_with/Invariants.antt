use Rattle.std.proofs.Common.{◌≡◌, ◌≤◌, take, count_by}
use Rattle.agg_group.specs.Sets.{is_among}
use Rattle.agg_group.specs.Rules.{lists_of}
use Rattle.agg_group.proofs.lists.count_with.Given as goal

abbrev pub invariant-loop-list : goal.invariant-loop-list
invariant-loop-list l = (l.count ≡ count_by (is_among l.d) (lists_of (take l.list-index l.lists))) × (l.count ≤ l.list-index)
