use Rattle.aggregation.proofs.GroupFacts.{gather_aggregate, gather_aggregates}
use Rattle.aggregation.proofs.laws.gathered_aggregates.Goals as goal

pub returns-clause-one : goal.returns-clause-one
returns-clause-one g c by_key by_part part key item rows =
    gather_aggregate g.met.K.Ord.total by_key g.met.P.Ord.total by_part g.met.M.Measure.laws part key item rows

pub returns-clause-several : goal.returns-clause-several
returns-clause-several g c by_key by_part part key item lists =
    gather_aggregates g.met.K.Ord.total by_key g.met.P.Ord.total by_part g.met.M.Measure.laws part key item lists
