use Rattle.std.proofs.Common.{◌≡◌, map, take}
use Rattle.std.specs.List.{filter_map}
use Rattle.layer_builder.specs.Base.{dict_at, item_of, value_at}
use Rattle.layer_builder.proofs.cells.items_of.Given as goal

abbrev pub invariant-loop-row : goal.invariant-loop-row
invariant-loop-row l = l.items.items ≡ filter_map (λ row. item_of l.kind (dict_at l.dicts l.place) (value_at l.column row)) (map (λ row. row.1) (take l.row-index l.rows))
