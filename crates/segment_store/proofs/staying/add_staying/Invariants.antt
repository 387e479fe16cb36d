use Rattle.std.proofs.Common.{◌≡◌, ◌++◌, map, take}
use Rattle.std.specs.Arc.{arc_value}
use Rattle.std.specs.Prelude.{filter}
use Rattle.segment_store.specs.ReadySets.{stays}
use Rattle.segment_store.proofs.staying.add_staying.Given as goal

abbrev pub invariant-loop-segment : goal.invariant-loop-segment
invariant-loop-segment g l = map arc_value l.kept.items ≡ map arc_value l.initial.kept.items ++ filter (stays l.side l.range) (take l.segment-index (map arc_value l.segments))
