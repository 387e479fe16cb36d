use Rattle.std.specs.Prelude.{IfSome}
use Rattle.layer_builder.specs.Layers.{HasParent}
use Rattle.layer_bench.proofs.parent_of.Given as goal

abbrev pub invariant-loop-place : goal.invariant-loop-place
invariant-loop-place l = IfSome l.best (λ place. HasParent l.parents (record { mask = l.mask; parent = place }))
