use Rattle.step_files.proofs.WorkReads.{flat_given, no_flat_desc, no_flat_range, no_flat_tables}
use Rattle.step_files.proofs.reading.read_flat_task.Goals as goal

pub returns-in-Err : goal.returns-in-Err
returns-in-Err c = no_flat_desc c.args.r.now c.in-Err.e c.in-Err.ensures.desc

pub returns-in-Err-read_range : goal.returns-in-Err-read_range
returns-in-Err-read_range c = no_flat_range c.args.r.now c.take_desc.new.r c.in-Ok.cube.desc c.in-Ok.ensures.desc c.in-Err-read_range.e c.in-Err-read_range.ensures

pub returns-in-Err-read_loaded : goal.returns-in-Err-read_loaded
returns-in-Err-read_loaded c =
    no_flat_tables c.args.r.now c.take_desc.new.r c.in-Ok.cube.desc c.in-Ok.ensures.desc c.in-Ok.cube.layout c.in-Ok.ensures.layout c.in-Ok-read_range.range c.read_range.new.r c.in-Ok-read_range.ensures
    c.in-Err-read_loaded.e c.in-Err-read_loaded.ensures

pub returns : goal.returns
returns c =
    rw c.into_desc.ensures (flat_given c.args.r.now c.take_desc.new.r c.in-Ok.cube.desc c.in-Ok.ensures.desc c.in-Ok.cube.layout c.in-Ok.ensures.layout c.in-Ok-read_range.range c.read_range.new.r c.in-Ok-read_range.ensures
    c.in-Ok-read_loaded.tables c.read_loaded.new.r c.in-Ok-read_loaded.ensures)
