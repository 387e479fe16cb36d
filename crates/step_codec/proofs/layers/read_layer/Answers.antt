use Rattle.step_codec.proofs.LayerReads.{layer_fails, layer_given}
use Rattle.step_codec.proofs.layers.read_layer.Goals as goal

pub returns-in-Err-read_parents : goal.returns-in-Err-read_parents
returns-in-Err-read_parents c =
    layer_fails c.args.layout.now c.args.r.now c.take_u32.new.self c.read_counted.new.r c.in-Some.dims c.as_slice.result.now c.in-Ok.sizes.items c.as_slice-2.result.now c.as_slice.ensures c.as_slice-2.ensures.value c.in-Some.ensures c.in-Ok.ensures
    c.in-Err-read_parents.e c.in-Err-read_parents.ensures

pub returns : goal.returns
returns c =
    let h = layer_given c.args.layout.now c.args.r.now c.take_u32.new.self c.read_counted.new.r c.in-Some.dims c.as_slice.result.now c.in-Ok.sizes.items c.as_slice-2.result.now c.as_slice.ensures c.as_slice-2.ensures.value c.in-Some.ensures c.in-Ok.ensures
    c.in-Ok-read_parents.parents.items c.read_parents.new.r c.in-Ok-read_parents.ensures in
    rw (c.of.ensures, c.of-2.ensures) h
