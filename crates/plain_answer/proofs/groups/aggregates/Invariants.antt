use Rattle.std.proofs.Common.{◌≡◌, map, take}
use Rattle.plain_answer.specs.Aggregates.{aggregate_of}
use Rattle.plain_answer.proofs.groups.aggregates.Given as goal

abbrev pub invariant-loop-agg : goal.invariant-loop-agg
invariant-loop-agg l = l.values ≡ map (λ agg. aggregate_of agg (map (λ row. row.now) l.rows)) (take l.agg-index l.aggs)
