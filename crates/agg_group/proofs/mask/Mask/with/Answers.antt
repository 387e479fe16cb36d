use Rattle.std.proofs.Common.{ap, eqb}
use Rattle.std.specs.Int.{w64}
use Rattle.std.proofs.lemmas.Nat.Bits.{bit_at_set_same, bit_at_set_other}
use Rattle.agg_group.proofs.mask.Mask.with.Goals as goal

pub returns-clause-same : goal.returns-clause-same
returns-clause-same c = ap (λ x. eqb x 1) (bit_at_set_same w64 c.args.self.0 c.args.d c.requires)

pub returns-clause-others : goal.returns-clause-others
returns-clause-others c = λ e ne. ap (λ x. eqb x 1) (bit_at_set_other w64 c.args.self.0 c.args.d c.requires e ne)
