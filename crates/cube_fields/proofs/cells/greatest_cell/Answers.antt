use Rattle.std.proofs.Common.{◌∙◌, ℤ, Some, ap, arith}
use Rattle.std.specs.Int.{w64}
use Rattle.std.proofs.lemmas.Int.{to_z-of_z}
use Rattle.cell_store.specs.declared.cell.Cell.TheVariants.{Max}
use Rattle.cube_fields.proofs.CellFacts.{extreme_is}
use Rattle.cube_fields.proofs.cells.greatest_cell.Goals as goal

pub returns : goal.returns
returns c =
    let value = c.of.ensures.some (omega (arith, c.args.count.some, c.from.ensures)) ∙ ap (λ (z : ℤ). Some z) (to_z-of_z w64 c.args.v c.ranges.v) in
    ap Max (extreme_is c.of.result c.args.count.items c.args.v (c.of.ensures.items ∙ c.from.ensures) value)
