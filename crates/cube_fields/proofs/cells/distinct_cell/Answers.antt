use Rattle.std.proofs.Common.{◌∙◌, ap}
use Rattle.cell_store.specs.declared.cell.Cell.TheVariants.{Distinct}
use Rattle.cube_fields.proofs.CellFacts.{set_is}
use Rattle.cube_fields.proofs.cells.distinct_cell.Goals as goal

pub returns : goal.returns
returns c = ap Distinct (set_is c.in_ok-set.set c.args.count.items c.args.ids.now c.requires.rising (c.in_ok-set.ensures.items ∙ c.from.ensures) c.in_ok-set.ensures.ids)
