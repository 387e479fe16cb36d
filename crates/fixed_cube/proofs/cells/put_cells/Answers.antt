use Rattle.std.proofs.Common.{◌++◌, ℕ, List, length, ap, ◌∙◌}
use Rattle.std.specs.Int.{w32, to_be_bytes}
use Rattle.fixed_cube.specs.Spelling.{cell_text}
use Rattle.fixed_cube.proofs.AddFacts.{put_more}
use Rattle.fixed_cube.proofs.cells.put_cells.Goals as goal

pub loop-cell-preserved : goal.loop-cell-preserved
loop-cell-preserved c =
    c.in_ok-put_cell.ensures ∙ ap (λ (t : List ℕ). t ++ cell_text c.cell-item.result) c.loop-cell.invariant
    ∙ put_more cell_text c.as_slice-cells.result.now c.loop-cell.cell-index c.cell-item.result (c.args.out.now.items ++ to_be_bytes w32 (length c.as_slice-cells.result.now)) c.loop-cell-test.true c.cell-item.is
