use Rattle.step_files.proofs.WorkReads.{layer_given, no_layer, no_layer_desc}
use Rattle.step_files.proofs.reading.read_layer_task.Goals as goal

pub read_layer-requires : goal.read_layer-requires
read_layer-requires c = c.in-Ok.ensures.holds.spans

pub returns-in-Err : goal.returns-in-Err
returns-in-Err c = no_layer_desc c.args.r.now c.in-Err.e c.in-Err.ensures.desc

pub returns-in-Err-read_layer : goal.returns-in-Err-read_layer
returns-in-Err-read_layer c =
    no_layer c.args.r.now c.take_desc.new.r c.in-Ok.cube.desc c.in-Ok.ensures.desc c.in-Ok.cube.layout c.in-Ok.ensures.layout c.in-Err-read_layer.e c.in-Err-read_layer.ensures

pub returns : goal.returns
returns c =
    rw c.into_desc.ensures (layer_given c.args.r.now c.take_desc.new.r c.in-Ok.cube.desc c.in-Ok.ensures.desc c.in-Ok.cube.layout c.in-Ok.ensures.layout
    c.in-Ok-read_layer.work.dims c.in-Ok-read_layer.work.sizes c.in-Ok-read_layer.work.parents c.read_layer.new.r c.in-Ok-read_layer.ensures)
