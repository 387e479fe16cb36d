use Rattle.std.proofs.Common.{ap, arith, length}
use Rattle.cube_val.specs.OrderLaws.{val_cmp_total}
use Rattle.cube_val.proofs.OrderFacts.{val_cmp_exact}
use Rattle.aggregation.proofs.DistinctFacts.{length-distinct}
use Rattle.cell_check.proofs.dictionaries.dict_of_values.Goals as goal

pub from_values-requires : goal.from_values-requires
from_values-requires c = omega (arith, length-distinct val_cmp_total val_cmp_exact c.args.values.now)

pub returns : goal.returns
returns c = omega (arith, ap length c.in_ok-dict.ensures, length-distinct val_cmp_total val_cmp_exact c.args.values.now)
