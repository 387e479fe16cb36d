use Rattle.aggregation.proofs.GroupFacts.{rises-grouped}
use Rattle.aggregation.proofs.laws.aggregate_keys_rise.Goals as goal

pub returns : goal.returns
returns g c exact key item rows = rises-grouped g.met.K.Ord.total exact key item g.M.Measure.of_items rows
