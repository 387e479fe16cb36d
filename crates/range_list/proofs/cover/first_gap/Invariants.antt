use Rattle.range_list.specs.Ranges.{AreJoined}
use Rattle.range_list.proofs.cover.first_gap.Given as goal

abbrev pub invariant-loop-k : goal.invariant-loop-k
invariant-loop-k l = AreJoined l.ranges l.first l.k
