use Rattle.std.proofs.Common.{sym, ◌∙◌}
use Rattle.agg_group.specs.Mask.{has}
use Rattle.cube_fields.proofs.TableFacts.{dims_done, dims_left, dims_more}
use Rattle.cube_fields.proofs.tables.dims_of.Goals as goal
use Rattle.cube_fields.proofs.tables.dims_of.Goals.{then-has+in_ok-push, else-has}

pub loop-d-preserved : goal.loop-d-preserved
loop-d-preserved c =
    elim c.if-has.branch [
      | then-has+in_ok-push w ↦
          (let more = dims_more (has c.args.mask) c.loop-d.d (sym c.has.ensures ∙ w.if-has.true) in
          cc (w.in_ok-push.ensures.items, c.loop-d.invariant))
      | else-has w ↦
          (let more = dims_left (has c.args.mask) c.loop-d.d (sym c.has.ensures ∙ w.if-has.false) in
          cc (c.loop-d.invariant))
    ]

pub returns : goal.returns
returns c = dims_done c.args.mask c.loop-d.d c.loop-d.dims.items c.loop-d.auto.d-end c.loop-d-test.false c.loop-d.invariant
