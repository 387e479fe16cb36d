use Rattle.std.proofs.Common.{◌≡◌, ◌++◌, drop}
use Rattle.fixed_cube.specs.Rows.{joined}
use Rattle.fixed_cube.proofs.steps.joined.Given as goal

abbrev pub invariant-loop-row : goal.invariant-loop-row
invariant-loop-row l = l.found.items ++ joined l.range (drop l.row-index l.rows) ≡ joined l.range l.rows
