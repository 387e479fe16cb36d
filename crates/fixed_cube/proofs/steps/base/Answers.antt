use Rattle.std.proofs.Common.{arith, sym, subst, ◌∙◌, List}
use Rattle.fixed_cube.specs.Cells.{Cell, base_of}
use Rattle.fixed_cube.specs.CellTests.{AreCells}
use Rattle.fixed_cube.proofs.BaseFacts.{base_fits}
use Rattle.fixed_cube.proofs.CellFacts.{fitting_are_cells}
use Rattle.fixed_cube.proofs.steps.base.Goals as goal

pub base_map-requires : goal.base_map-requires
base_map-requires c = omega (arith, c.requires.0)

pub of-requires : goal.of-requires
of-requires c =
    subst (λ (cells : List Cell). AreCells cells) (sym (c.in_ok-cells-2.ensures ∙ c.in_ok-cells.ensures)) (fitting_are_cells (base_of c.args.rows.now) (base_fits c.args.rows.now c.requires))
