use Rattle.std.proofs.Common.{length, ap, arith}
use Rattle.aggregation.proofs.DistinctFacts.{length-distinct}
use Rattle.cube_val.proofs.OrderFacts.{val_cmp_exact}
use Rattle.cube_val.specs.OrderLaws.{val_cmp_total}
use Rattle.layer_builder.proofs.column_dict.dict_of_column.Goals as goal

pub from_values-requires : goal.from_values-requires
from_values-requires c =
    omega (arith, length-distinct val_cmp_total val_cmp_exact c.deref.result.now, ap length c.deref.ensures.value, c.in_ok-values.ensures.few, c.requires)
