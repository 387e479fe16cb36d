use Rattle.std.proofs.Common.{◌≡◌, ◌++◌}
use Rattle.std.specs.Prelude.{filter, map, slice_get}
use Rattle.std.specs.List.{range_with_len}
use Rattle.step_files.specs.Cubes.{are_extremes, extremes_at}
use Rattle.step_files.proofs.measures.push_extremes.Given as goal

abbrev pub invariant-loop-j : goal.invariant-loop-j
invariant-loop-j l = l.found.items ≡ l.fn.found.items ++ map (extremes_at l.i) (filter (λ j. are_extremes (slice_get l.measures l.i) (slice_get l.measures j)) (range_with_len 0 l.j))
