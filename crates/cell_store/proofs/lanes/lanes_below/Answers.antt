use Rattle.std.proofs.Common.{ap, ltb, arith, w32, ◌∙◌}
use Rattle.std.specs.Int.{bit_at}
use Rattle.std.proofs.lemmas.Simd.{bitmask_splat, length-chunk}
use lib.Lanes.{chunk}
use Rattle.cell_store.proofs.LaneLemmas.{mask_lanes}
use Rattle.cell_store.proofs.lanes.lanes_below.Goals as goal

pub returns : goal.returns
returns c = λ k h.
    ap (λ m. bit_at m k) (bitmask_splat w32 ltb (chunk c.args.at 8 c.args.ids.now) 8 c.args.limit (length-chunk c.args.at 8 c.args.ids.now c.requires) (omega arith))
    ∙ mask_lanes c.args.ids.now c.args.at c.args.limit c.requires k h
