use Rattle.cube_val.specs.OrderLaws.{row_cmp_total}
use Rattle.cube_val.proofs.OrderFacts.{row_cmp_exact}
use Rattle.cube_val.proofs.laws.row_order_is_total.Goals as goal

pub returns-clause-total : goal.returns-clause-total
returns-clause-total c = row_cmp_total

pub returns-clause-ties : goal.returns-clause-ties
returns-clause-ties c = row_cmp_exact
