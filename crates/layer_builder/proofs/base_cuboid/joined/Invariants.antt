use Rattle.std.proofs.Common.{◌≡◌, length, map, take}
use Rattle.std.specs.Prelude.{All}
use Rattle.std.specs.List.{flat_map}
use Rattle.agg_group.specs.Mask.{count_of}
use Rattle.cell_store.specs.Cells.{form_of}
use Rattle.cell_gather.proofs.TableFacts.{by_part}
use Rattle.layer_builder.proofs.base_cuboid.joined.Given as goal

abbrev pub invariant-loop-table : goal.invariant-loop-table
invariant-loop-table g l = record {
  rows : l.rows.items ≡ flat_map (λ t. map (by_part l.fn.mask l.fn.mask) t.rows) (take l.table-index l.tables);
  widths : All (λ row. length row.0 ≡ count_of l.fn.mask) l.rows.items;
  forms_of : All (λ row. map form_of row.1 ≡ l.forms) l.rows.items;
}
