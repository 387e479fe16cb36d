use Rattle.cube_val.specs.OrderLaws.{val_cmp_total}
use Rattle.cube_val.proofs.OrderFacts.{val_cmp_exact}
use Rattle.aggregation.proofs.GroupFacts.{rises-distinct}
use Rattle.dim_dictionary.proofs.DictLemmas.{keeps_values}
use Rattle.dim_dictionary.proofs.laws.dictionaries_are_distinct_values.Goals as goal

pub returns-clause-rise : goal.returns-clause-rise
returns-clause-rise c values = rises-distinct val_cmp_total val_cmp_exact values

pub returns-clause-keep : goal.returns-clause-keep
returns-clause-keep c = keeps_values
