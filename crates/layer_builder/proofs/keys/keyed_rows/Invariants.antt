use Rattle.std.proofs.Common.{◌≡◌, map, take}
use Rattle.layer_builder.specs.Base.{key_in}
use Rattle.layer_builder.proofs.keys.keyed_rows.Given as goal

abbrev pub invariant-loop-row : goal.invariant-loop-row
invariant-loop-row l = l.keyed.items ≡ map (λ row. (key_in l.dicts l.width row, row)) (take l.row-index l.rows)
