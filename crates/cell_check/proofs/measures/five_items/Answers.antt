use Rattle.std.proofs.Common.{refl}
use Rattle.std.specs.List.Sorted.{IsStrictlySortedBy}
use Rattle.cell_check.proofs.measures.five_items.Goals as goal

pub of-requires-clause-rising : goal.of-requires-clause-rising
unfolding IsStrictlySortedBy
of-requires-clause-rising c = ((refl, (refl, tt)), ((refl, tt), (tt, tt)))
