use Rattle.std.proofs.Common.{◌++◌, List, ℕ, ap, ◌∙◌}
use Rattle.cube_fields.specs.Dicts.{dict_text}
use Rattle.cube_fields.proofs.Puts.{put_at}
use Rattle.cube_fields.proofs.put.put_each_dict.Goals as goal

pub loop-i-preserved : goal.loop-i-preserved
loop-i-preserved c =
    c.in_ok-put_dict.ensures ∙ ap (λ (t : List ℕ). t ++ dict_text c.get.result.now) c.loop-i.invariant
    ∙ put_at dict_text c.args.dicts.now c.loop-i.i c.get.result.now c.args.out.now.items c.get.ensures
