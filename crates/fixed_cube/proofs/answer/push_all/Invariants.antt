use Rattle.std.proofs.Common.{◌≡◌, ◌++◌, take}
use Rattle.fixed_cube.proofs.answer.push_all.Given as goal

abbrev pub invariant-loop-cell : goal.invariant-loop-cell
invariant-loop-cell l = l.refs ≡ l.fn.refs ++ take l.cell-index l.cell-items
