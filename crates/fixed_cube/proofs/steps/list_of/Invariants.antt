use Rattle.std.proofs.Common.{◌≡◌, ◌++◌}
use Rattle.fixed_cube.proofs.steps.list_of.Given as goal

abbrev pub invariant-loop-key : goal.invariant-loop-key
invariant-loop-key l = goal.iterator-loop-key.can_next l.key-iterator × goal.iterator-loop-key.is_finite l.key-iterator × (l.list.items ++ l.key-iterator ≡ l.fn.cells.entries)
