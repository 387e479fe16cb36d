use Rattle.std.proofs.Common.{◌≡◌, take}
use Rattle.measure_laws.specs.Measures.{summed}
use Rattle.plain_answer.proofs.aggregates.sum_of.Given as goal

abbrev pub invariant-loop-n : goal.invariant-loop-n
invariant-loop-n l = l.sum ≡ summed (take l.n-index l.numbers)
