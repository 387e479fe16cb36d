use Rattle.std.proofs.Common.{arith}
use Rattle.aggregation.proofs.DistinctFacts.{length-distinct}
use Rattle.cube_val.specs.OrderLaws.{val_cmp_total}
use Rattle.cube_val.proofs.OrderFacts.{val_cmp_exact}
use Rattle.step_compute.proofs.dicts.dictionary.Goals as goal

pub from_values-requires : goal.from_values-requires
from_values-requires c = omega (arith, length-distinct val_cmp_total val_cmp_exact c.args.values.now, c.requires)
