use Rattle.std.proofs.Common.{◌∙◌}
use Rattle.step_codec.proofs.KeyFacts.{first_is}
use Rattle.step_codec.proofs.loaded.has_repeat.Goals as goal

pub returns : goal.returns
returns c = c.is_some.ensures ∙ first_is c.args.key.now c.args.rows.now c.in_ok-first.first c.in_ok-first.ensures.none c.in_ok-first.ensures.some
