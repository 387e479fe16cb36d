use Rattle.step_files.proofs.WorkReads.{base_given, no_base_desc, no_base_work}
use Rattle.step_files.proofs.reading.read_base_task.Goals as goal

pub returns-in-Err : goal.returns-in-Err
returns-in-Err c = no_base_desc c.args.r.now c.in-Err.e c.in-Err.ensures.desc

pub returns-in-Err-read_base_work : goal.returns-in-Err-read_base_work
returns-in-Err-read_base_work c =
    no_base_work c.args.r.now c.take_desc.new.r c.in-Ok.cube.desc c.in-Ok.ensures.desc c.in-Ok.cube.layout c.in-Ok.ensures.layout c.in-Err-read_base_work.e c.in-Err-read_base_work.ensures

pub returns : goal.returns
returns c =
    rw c.into_desc.ensures (base_given c.args.r.now c.take_desc.new.r c.in-Ok.cube.desc c.in-Ok.ensures.desc c.in-Ok.cube.layout c.in-Ok.ensures.layout
    c.in-Ok-read_base_work.work.flat c.in-Ok-read_base_work.work.dicts c.read_base_work.new.r c.in-Ok-read_base_work.ensures)
