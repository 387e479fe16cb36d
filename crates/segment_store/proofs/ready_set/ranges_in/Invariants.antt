use Rattle.std.proofs.Common.{◌≡◌, map, take}
use Rattle.std.specs.Arc.{arc_value}
use Rattle.segment_store.specs.ReadySets.{ranges_of}
use Rattle.segment_store.proofs.ready_set.ranges_in.Given as goal

abbrev pub invariant-loop-segment : goal.invariant-loop-segment
invariant-loop-segment g l = l.ranges ≡ take l.segment-index (ranges_of (map arc_value l.segments))
