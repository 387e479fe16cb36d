use Rattle.std.proofs.Common.{◌∙◌, ap}
use Rattle.step_codec.specs.declared.layout.Layout.{Layout}
use Rattle.step_files.proofs.WorkReads.{dict_given, no_dict_desc, no_dict_rows}
use Rattle.step_files.proofs.reading.read_dict_task.Goals as goal

pub returns-in-Err : goal.returns-in-Err
returns-in-Err c = no_dict_desc c.args.r.now c.in-Err.e c.in-Err.ensures.desc

pub returns-in-Err-read_flat : goal.returns-in-Err-read_flat
returns-in-Err-read_flat c =
    no_dict_rows c.args.r.now c.take_desc.new.r c.in-Ok.cube.desc c.in-Ok.ensures.desc c.as_slice.result.now (c.as_slice.ensures ∙ ap (λ (l : Layout). l.flat) c.in-Ok.ensures.layout)
    c.in-Err-read_flat.e c.in-Err-read_flat.ensures

pub returns : goal.returns
returns c =
    rw c.into_desc.ensures (dict_given c.args.r.now c.take_desc.new.r c.in-Ok.cube.desc c.in-Ok.ensures.desc c.as_slice.result.now (c.as_slice.ensures ∙ ap (λ (l : Layout). l.flat) c.in-Ok.ensures.layout)
    c.in-Ok-read_flat.flat c.read_flat.new.r c.in-Ok-read_flat.ensures)
