use Rattle.std.proofs.Common.{◌≡◌, ◌∷◌, map, take}
use Rattle.step_compute.specs.Columns.{agg_of, count}
use Rattle.step_compute.proofs.columns.kept_aggs.Given as goal

abbrev pub invariant-loop-measure : goal.invariant-loop-measure
invariant-loop-measure l = l.aggs.items ≡ count ∷ map (agg_of l.cube) (take l.measure-index l.measure-items)
