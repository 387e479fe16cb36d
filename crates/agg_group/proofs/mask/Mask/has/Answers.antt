use Rattle.std.proofs.Common.{arith, sym, ◌∙◌}
use Rattle.std.proofs.lemmas.Bool.{le-ltb}
use Rattle.agg_group.proofs.MaskLemmas.{has_past}
use Rattle.agg_group.proofs.mask.Mask.has.Goals as goal

pub returns-else-d-lt64 : goal.returns-else-d-lt64
returns-else-d-lt64 c = le-ltb c.args.d 64 (omega arith) ∙ sym (has_past c.args.self.now (omega arith) c.args.d (omega arith))
