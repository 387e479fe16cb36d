use Rattle.auto_merge.proofs.RunLemmas.{SoFar}
use Rattle.auto_merge.proofs.chance.count_from.Given as goal

abbrev pub invariant-loop-place : goal.invariant-loop-place
invariant-loop-place l = SoFar l.ranges l.days l.first l.place
