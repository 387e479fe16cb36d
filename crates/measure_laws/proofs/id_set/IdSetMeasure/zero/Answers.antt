use Rattle.std.proofs.Common.{[], refl, sym, subst}
use Rattle.std.specs.List.Sorted.{IsStrictlySortedBy}
use Rattle.std.specs.Ordering.{nat_cmp}
use Rattle.measure_laws.specs.IdFacts.{same_ids}
use Rattle.measure_laws.specs.Ids.{rises-different}
use Rattle.measure_laws.proofs.id_set.IdSetMeasure.zero.Goals as goal

pub invariant_of-result : goal.invariant_of-result
invariant_of-result c = (subst (IsStrictlySortedBy nat_cmp) (sym c.new.ensures.items) (rises-different []), tt)

pub returns : goal.returns
returns c = same_ids _ _ refl c.new.ensures.items
