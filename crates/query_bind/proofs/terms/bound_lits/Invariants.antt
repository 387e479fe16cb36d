use Rattle.std.proofs.Common.{◌≡◌, take, map}
use Rattle.query_bind.specs.Asks.{bound_lit}
use Rattle.query_bind.proofs.terms.bound_lits.Given as goal

abbrev pub invariant-loop-lit : goal.invariant-loop-lit
invariant-loop-lit l = l.bound ≡ map bound_lit (take l.lit-index l.lits)
