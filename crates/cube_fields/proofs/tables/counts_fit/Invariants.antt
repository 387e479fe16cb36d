use Rattle.std.proofs.Common.{◌≡◌, drop}
use Rattle.cube_fields.specs.Reading.{counts_fit}
use Rattle.cube_fields.proofs.tables.counts_fit.Given as goal

abbrev pub invariant-loop-row : goal.invariant-loop-row
invariant-loop-row l = counts_fit l.left (drop l.row-index l.rows) ≡ counts_fit l.most l.rows
