use Rattle.cube_desc.specs.Resolve.{measured_column}
use Rattle.cube_desc.proofs.FirstColumns.{next_first}
use Rattle.cube_desc.proofs.resolve.measure_columns.Goals as goal

pub loop-measure-preserved : goal.loop-measure-preserved
loop-measure-preserved c = next_first (measured_column c.args.raw.now) _ _ c.measure-item.result _ _ _ c.loop-measure-test.true c.measure-item.is (rw c.measured_column.ensures at c.in_ok-add_first.ensures) c.loop-measure.invariant
