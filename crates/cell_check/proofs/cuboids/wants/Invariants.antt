use Rattle.std.specs.Prelude.{All}
use Rattle.layer_builder.specs.Layers.{HasParent}
use Rattle.cell_check.proofs.cuboids.wants.Given as goal

abbrev pub invariant-loop-number : goal.invariant-loop-number
invariant-loop-number l = All (HasParent l.parents) l.wants.items
