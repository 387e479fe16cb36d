use Rattle.std.proofs.Common.{◌≡◌, [], subst, sym}
use Rattle.std.specs.List.Sorted.{IsStrictlySortedBy}
use Rattle.std.specs.Ordering.{nat_cmp}
use Rattle.cell_merge.proofs.renumbering.remap_at.Goals as goal

pub returns-else-place-len-clause-rising : goal.returns-else-place-len-clause-rising
unfolding IsStrictlySortedBy
returns-else-place-len-clause-rising c = tt
