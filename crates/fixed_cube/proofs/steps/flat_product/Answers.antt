use Rattle.std.proofs.Common.{◌≡◌, length, ap, ◌∙◌, arith}
use Rattle.fixed_cube.specs.Rows.{joined}
use Rattle.fixed_cube.proofs.BaseFacts.{joined_fits}
use Rattle.fixed_cube.proofs.steps.flat_product.Goals as goal

pub put_rows-requires : goal.put_rows-requires
put_rows-requires c =
    let some = joined_fits c.args.work.now.0 c.args.work.now.1 c.requires in
    let same : c.deref.result.now ≡ joined c.args.work.now.0 c.args.work.now.1 =
    c.deref.ensures.value ∙ c.in_ok-found.ensures ∙ (λ i. joined (c.range-range.ensures i) ((c.rows.ensures ∙ c.rows-table.ensures) i)) in
    omega (arith, some.0, ap length same)
