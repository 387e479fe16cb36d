use Rattle.std.proofs.Common.{◌≤◌, ◌+◌, arith}
use Rattle.std.proofs.lemmas.Int.{ints}
use Rattle.measure_laws.specs.Measures.{most_items}
use Rattle.measure_laws.proofs.sum.SumMeasure.add.Goals as goal

pub invariant_of-self : goal.invariant_of-self
invariant_of-self c =
    let few : c.self.inside.items + 1 ≤ most_items = rw (← c.self.view_is) at c.requires in
    record { few = few; low = omega (arith, ints, c.self.invariant); high = omega (arith, ints, c.self.invariant) }
