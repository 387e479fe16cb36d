use Rattle.std.proofs.Common.{◌≡◌, ◌++◌, map}
use Rattle.fixed_cube.specs.Answers.{group_of_cell}
use Rattle.fixed_cube.proofs.answer.groups_of.Given as goal

abbrev pub invariant-loop-key : goal.invariant-loop-key
invariant-loop-key l = goal.iterator-loop-key.can_next l.key-iterator × goal.iterator-loop-key.is_finite l.key-iterator × (l.groups.items ++ map group_of_cell l.key-iterator ≡ map group_of_cell l.fn.cells.entries)
