use Rattle.std.proofs.Common.{◌≡◌, drop}
use Rattle.cell_store.specs.Cells.{key_cmp}
use Rattle.layer_builder.proofs.runs.key_order.Given as goal

abbrev pub invariant-loop-i : goal.invariant-loop-i
invariant-loop-i l = key_cmp (drop l.i l.key) (drop l.i l.other) ≡ key_cmp l.key l.other
