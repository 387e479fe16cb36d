use Rattle.std.proofs.Common.{◌≡◌, rules}
use Rattle.cube_fields.specs.Cells.{sizes_in}
use Rattle.cube_fields.proofs.TableFacts.{is_table}
use Rattle.cube_fields.proofs.tables.read_table.Goals as goal

pub table_of-requires : goal.table_of-requires
table_of-requires c =
    let same : c.as_slice-2.result.now ≡ sizes_in c.args.form.now.sizes c.args.mask = search rules in
    is_table c.args.form.now c.args.mask c.as_slice-2.result.now _ c.in-Ok.rows.items _ c.read_rows.ensures.small same c.in-Ok.ensures.rows
