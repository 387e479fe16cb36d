use Rattle.std.proofs.Common.{◌≡◌, ◌+◌, ◌∷◌, ◌++◌, [], false, get_or, take, arith, ap, Err}
use Rattle.std.proofs.lemmas.List.{take_all, take_more}
use Rattle.csv.specs.Records.{fields_of}
use Rattle.cube_val.specs.declared.val.ColType.TheVariants as ty
use Rattle.table_reader.specs.Rows.{WritesCell, field_of}
use Rattle.table_reader.specs.declared.fault.TableRefusal.TheVariants.{Fault}
use Rattle.table_reader.specs.declared.header.Column.{Column}
use Rattle.table_reader.proofs.RowFacts.{slice_get-there, zip_push}
use Rattle.table_reader.proofs.row.read_cells.Goals as goal

-- what stands past the last column
abbrev none : Column
none = record { ty = ty.Int; no_null = false; place = 0 }

pub loop-i-init : goal.loop-i-init
loop-i-init c = rw c.in-Ok.ensures.items tt

pub loop-i-preserved : goal.loop-i-preserved
loop-i-preserved c =
    let columns = c.args.columns.now in
    let i = c.loop-i.i in
    let fields = fields_of c.args.found.now in
    let more : take (i + 1) columns ≡ take i columns ++ get_or columns i none ∷ [] = take_more columns i none (omega arith) in
    let added : c.add.new.vals.items ≡ c.loop-i.vals.items ++ c.in-Ok-read_cell.value ∷ [] = c.in-Ok-add.ensures in
    rw (more, added)
    (zip_push (λ column v. WritesCell column (field_of fields column) v) (take i columns) c.loop-i.vals.items (get_or columns i none) c.in-Ok-read_cell.value c.loop-i.invariant c.in-Ok-read_cell.ensures.ok)

pub returns-in-Err-clause-fault : goal.returns-in-Err-clause-fault
returns-in-Err-clause-fault c f same =
    let columns = c.args.columns.now in
    let i = c.loop-i.i in
    let refused : c.in-Err.refusal ≡ Fault f = cc same in
    record {
      place = i;
      column = get_or columns i none;
      there = slice_get-there columns i none (omega arith);
      before = (c.loop-i.vals.items, c.loop-i.invariant);
      cell = c.in-Err.ensures.fault f (ap Err refused);
    }

pub returns-clause-ok : goal.returns-clause-ok
returns-clause-ok c =
    let all = take_all c.loop-i.i c.args.columns.now (omega arith) in
    rw c.of.ensures (rw all at c.loop-i.invariant)
