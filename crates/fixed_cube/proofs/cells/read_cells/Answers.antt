use Rattle.std.proofs.Common.{ap, sym, ◌∙◌}
use Rattle.byte_frame.specs.Spelling.{rises}
use Rattle.fixed_cube.specs.Cells.{cell_below}
use Rattle.fixed_cube.specs.CellTests.{counts_fit}
use Rattle.fixed_cube.specs.Columns.{row_limit}
use Rattle.fixed_cube.proofs.CellFacts.{are_cells}
use Rattle.fixed_cube.proofs.cells.read_cells.Goals as goal

pub of-requires : goal.of-requires
of-requires c =
    are_cells c.in-Ok.cells.items (ap (counts_fit row_limit) (sym c.deref.ensures.value) ∙ sym c.are_counts.ensures ∙ c.if-not-are_counts.false)
    (ap (rises cell_below) (sym c.deref-2.ensures.value) ∙ sym c.rise.ensures ∙ c.if-not-rise.false)
