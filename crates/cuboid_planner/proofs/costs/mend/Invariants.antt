use Rattle.cuboid_planner.proofs.CostLemmas.{Mended}
use Rattle.cuboid_planner.proofs.costs.mend.Given as goal

abbrev pub invariant-loop-k : goal.invariant-loop-k
invariant-loop-k l = Mended l.sizes l.choice l.initial.costs l.costs l.k
