use Rattle.std.proofs.Common.{refl}
use Rattle.step_files.proofs.WorkReads.{base_rows_given, no_base_dicts, no_base_rows}
use Rattle.step_files.proofs.reading.read_base_work.Goals as goal

pub returns-in-Err : goal.returns-in-Err
returns-in-Err c = no_base_rows c.args.layout.now c.args.r.now c.as_slice.result.now c.as_slice.ensures c.in-Err.e c.in-Err.ensures

pub returns-in-Ok-read_holding : goal.returns-in-Ok-read_holding
returns-in-Ok-read_holding c =
    base_rows_given c.args.layout.now c.args.r.now c.as_slice.result.now c.as_slice.ensures c.in-Ok.flat c.rows.result.now c.rows.ensures c.read_flat.new.r c.in-Ok.ensures
    c.in-Ok-read_holding.dicts c.read_holding.new.r c.in-Ok-read_holding.ensures

pub returns-in-Err-read_holding : goal.returns-in-Err-read_holding
returns-in-Err-read_holding c =
    no_base_dicts c.args.layout.now c.args.r.now c.as_slice.result.now c.as_slice.ensures c.in-Ok.flat c.rows.result.now c.rows.ensures c.read_flat.new.r c.in-Ok.ensures
    c.in-Err-read_holding.e c.in-Err-read_holding.ensures

pub same-flat : goal.same-flat
same-flat c = refl
