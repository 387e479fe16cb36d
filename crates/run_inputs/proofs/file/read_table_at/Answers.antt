use Rattle.std.proofs.Common.{List, refl}
use Rattle.cube_val.specs.declared.val.Val.{Val}
use Rattle.run_inputs.proofs.Faults.{bad_table_is}
use Rattle.run_inputs.proofs.Fitting.{fitting_table}
use Rattle.run_inputs.proofs.file.read_table_at.Goals as goal

pub returns-in-Ok-read_table-clause-fits : goal.returns-in-Ok-read_table-clause-fits
returns-in-Ok-read_table-clause-fits g c = fitting_table c.as_slice.result.now c.in-Ok-read_table.table (rw c.requires at c.in-Ok-read_table.ensures.ok)

pub returns-in-Err-Fault-clause-fault : goal.returns-in-Err-Fault-clause-fault
returns-in-Err-Fault-clause-fault g c = λ f e.
    let refused = rw c.in-Err-Fault.field-0-is at c.in-Err-Fault.ensures in
    bad_table_is (List (List Val)) (g.F.Files.contents c.args.files.now) c.args.path.now c.in-Ok.bytes.items c.in-Err-Fault.fault f c.bad_table.result c.bad_table.ensures e
    c.in-Ok.ensures.stands c.in-Ok.ensures.short (rw (c.requires, c.as_slice.ensures.value) at (refused.fault c.in-Err-Fault.fault refl))
