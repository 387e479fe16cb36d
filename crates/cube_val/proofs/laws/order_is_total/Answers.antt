use Rattle.cube_val.specs.OrderLaws.{val_cmp_total}
use Rattle.cube_val.proofs.OrderFacts.{val_cmp_exact, val_eq_exact, val_eq_same}
use Rattle.cube_val.proofs.laws.order_is_total.Goals as goal

pub returns-clause-total : goal.returns-clause-total
returns-clause-total c = val_cmp_total

pub returns-clause-ties : goal.returns-clause-ties
returns-clause-ties c = val_cmp_exact

pub returns-clause-equality : goal.returns-clause-equality
returns-clause-equality c v w = (val_eq_exact v w, λ same. val_eq_same v w same)
