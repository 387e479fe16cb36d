use Rattle.std.proofs.Common.{take, ◌≡◌, []}
use Rattle.std.specs.BTreeMap.{IsOrdered, get}
use Rattle.aggregation.specs.Groups.{merged_all, values_at}
use Rattle.aggregation.proofs.CellFacts.{cell_of}
use Rattle.cube_val.specs.Order.{row_cmp}
use Rattle.measure_laws.specs.Measures.{merged_sum, summed}
use Rattle.fixed_cube.specs.Answers.{first_of}
use Rattle.fixed_cube.proofs.answer.gathered_map.Given as goal

abbrev pub invariant-loop-i : goal.invariant-loop-i
invariant-loop-i l =
    IsOrdered row_cmp l.cells
    × ((q : _) → get row_cmp l.cells q ≡ cell_of (merged_all (summed []) merged_sum) (values_at row_cmp (λ c. first_of c.0) (λ c. c.1) (take l.i l.refs) q))
