use Rattle.std.proofs.Common.{ap, refl}
use Rattle.measure_laws.specs.IdFacts.{same_ids}
use Rattle.measure_laws.specs.Ids.{different}
use Rattle.measure_laws.proofs.id_union.IdUnion.new.Goals as goal

pub returns : goal.returns
returns c = same_ids _ _ refl (ap different c.new.ensures.items)
