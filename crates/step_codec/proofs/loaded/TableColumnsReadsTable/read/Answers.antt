use Rattle.std.proofs.Common.{List, ℕ, subst, sym}
use Rattle.std.specs.Prelude.{All}
use Rattle.cube_val.specs.declared.val.Val.{Val}
use Rattle.step_fields.specs.declared.column.Column.{Column}
use Rattle.table_reader.specs.Keys.{AreWithin}
use Rattle.step_codec.specs.Layouts.{row_limit}
use Rattle.step_codec.specs.Tables.{IsTableShape}
use Rattle.step_codec.proofs.KeyFacts.{rows_within}
use Rattle.step_codec.proofs.loaded.TableColumnsReadsTable.read.Goals as goal

pub has_repeat-requires : goal.has_repeat-requires
has_repeat-requires c =
    let key = c.args.self.now.key in
    let shape : IsTableShape c.columns-columns.result.now key = subst (λ (columns : List Column). IsTableShape columns key) (sym c.columns-columns.ensures.columns) c.columns-columns.ensures.within in
    let within = rows_within c.columns-columns.result.now key row_limit c.args.r.now c.in-Ok.table c.read_rows.new.r shape c.in-Ok.ensures in
    subst (λ (rows : List (List Val)). All (AreWithin c.key.result.now) rows) (sym c.rows.ensures) (subst (λ (places : List ℕ). All (AreWithin places) c.in-Ok.table) (sym c.key.ensures) within)
