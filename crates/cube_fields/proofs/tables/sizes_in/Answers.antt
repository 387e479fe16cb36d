use Rattle.std.proofs.Common.{◌∙◌}
use Rattle.cube_fields.proofs.TableFacts.{sizes_done}
use Rattle.cube_fields.proofs.tables.sizes_in.Goals as goal

pub returns : goal.returns
returns c = sizes_done c.args.sizes.now c.args.mask c.deref-d-items.result.now c.loop-d.d-index c.loop-d.found.items c.loop-d-test.false (c.deref-d-items.ensures.value ∙ c.in_ok-dims.ensures) c.loop-d.invariant
