use Rattle.std.proofs.Common.{refl}
use Rattle.agg_group.specs.Sets.{is_subset}
use Rattle.query_router.proofs.examples.worked_examples.Goals as goal

pub returns : goal.returns
unfolding is_subset
returns c = record { tie = refl; fewest = refl; needed = refl; unserved = refl; own = refl; none_needed = refl }
