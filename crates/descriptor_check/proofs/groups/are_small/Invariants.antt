use Rattle.std.proofs.Common.{All, take}
use Rattle.agg_group.specs.Rules.{AreDimensions}
use Rattle.descriptor_check.proofs.groups.are_small.Given as goal

abbrev pub invariant-loop-list : goal.invariant-loop-list
invariant-loop-list l = All (λ v. AreDimensions v.items) (take l.list-index l.lists)
