use Rattle.std.proofs.Common.{◌≡◌, ◌≤◌, ◌+◌, drop}
use Rattle.layer_builder.specs.Base.{count_of_distincts}
use Rattle.layer_builder.proofs.cells.distincts.Given as goal

abbrev pub invariant-loop-agg : goal.invariant-loop-agg
invariant-loop-agg l = record {
  total : l.n + count_of_distincts (drop l.agg-index l.aggs) ≡ count_of_distincts l.aggs;
  few : l.n ≤ l.agg-index;
}
