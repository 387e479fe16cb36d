-- The segments that lines make: each of one row, whose partition date is null, so that it lies in no range.
use Rattle.std.specs.Prelude.{ℕ, pos, List, [], ◌∷◌, None}
use Rattle.agg_group.specs.declared.mask.Mask.{Mask}
use Rattle.cell_store.specs.Cells.{CellRows}
use Rattle.cube_val.specs.declared.form.JoinPlan.{JoinPlan}
use Rattle.cube_val.specs.declared.val.ColType.TheVariants as ty
use Rattle.cube_val.specs.declared.val.Val.{Val}
use Rattle.cube_val.specs.declared.val.Val.TheVariants.{Int, Null}
use Rattle.measure_laws.specs.declared.measure.MeasureForm.TheVariants as form
use Rattle.plain_answer.specs.declared.ask.Agg.{Agg}
use Rattle.plain_answer.specs.declared.ask.AggKind.TheVariants as kind
use Rattle.range_list.specs.Ranges.{Interval}
use Rattle.segment_store.specs.Sources.{Source}
use Rattle.segment_store.specs.declared.parts.SegmentParts.{SegmentParts}

abbrev pub count_of_rows : Agg
count_of_rows = record { kind = kind.Count; column = None; ty = ty.Int }

-- no lookup, and one column of joined rows, which is the rowkey
abbrev pub job_plan : JoinPlan
job_plan = record { partition = 0; joins = []; wide = record { table = 0; column = 1 } ∷ [] }

-- the row of a job: no date, and the number of the job
abbrev pub job_row : ℕ → List Val
job_row job = Null ∷ Int (pos job) ∷ []

abbrev pub job_source : Interval → ℕ → Source
job_source range job = record { plan = job_plan; tables = (job_row job ∷ []) ∷ []; range = range }

-- the cuboid of no row by the rowkey
abbrev pub empty_table : CellRows
empty_table = record { mask = record { 0 = 1 }; forms = form.Count ∷ []; rows = [] }

abbrev pub job_parts : Interval → ℕ → SegmentParts
job_parts range job = record {
  range = range;
  job = job;
  origin = job_source range job ∷ [];
  kept = count_of_rows ∷ [];
  dicts = [] ∷ [];
  lookups = [];
  tables = empty_table ∷ [];
}
