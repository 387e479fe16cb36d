use Rattle.std.proofs.Common.{◌∙◌}
use Rattle.measure_laws.specs.IdFacts.{same_ids}
use Rattle.measure_laws.proofs.id_set.IdSet.of.Goals as goal

pub returns-clause-none : goal.returns-clause-none
returns-clause-none c none = same_ids _ _ none (c.in_ok-ids.ensures.items ∙ c.requires.count.none.1 none)
