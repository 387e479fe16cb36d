use Rattle.std.proofs.Common.{◌∙◌}
use Rattle.step_codec.proofs.HoldFacts.{found_is}
use Rattle.step_codec.proofs.dicts.is_in.Goals as goal

pub returns : goal.returns
returns c = c.is_some.ensures ∙ found_is c.id_of.result c.args.dict.now c.args.v.now c.id_of.ensures.found c.id_of.ensures.absent
