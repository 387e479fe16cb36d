-- What the rows of a segment come from: tables with their plan and a range.
use Rattle.std.specs.Prelude.{◌≡◌, ◌<◌, ℕ, suc, List, [], All, length, slice_index_or}
use Rattle.std.specs.List.{AllZip}
use Rattle.cube_val.specs.Values.{FitsType}
use Rattle.cube_val.specs.declared.val.ColType.TheVariants as ty
use Rattle.cube_val.specs.declared.form.JoinPlan.{JoinPlan}
use Rattle.cube_val.specs.declared.form.JoinStep.{JoinStep}
use Rattle.cube_val.specs.declared.form.WideCol.{WideCol}
use Rattle.cube_val.specs.declared.val.Val.{Val}
use Rattle.flat_join.specs.Joins.{fact_of, joined, lookups_of}
use Rattle.range_list.specs.Ranges.{Interval}
use Rattle.table_reader.specs.Keys.{AreWithin, HasDistinctKeys, val_at}

-- the tables that one BUILD or REFRESH read, how their rows are joined, and the range of the rows
pub record Source : Type 0 where
  pub plan : JoinPlan
  pub tables : List (List (List Val))
  pub range : Interval

-- the rows of the table of a number; the fact table is 0
abbrev pub rows_in : Source → ℕ → List (List Val)
rows_in s table = slice_index_or s.tables table []

-- its joined rows
abbrev pub rows_of : Source → List (List Val)
rows_of s = joined s.plan s.tables s.range

-- ---- what each source keeps

-- a join of a fact table with a lookup: columns that each row has, in pairs, by which the lookup finds one row at most
pub record IsJoin (facts lookup : List (List Val)) (j : JoinStep) : Type 0 where
  pub pairs : length j.foreign ≡ length j.primary
  pub some : 0 < length j.primary
  pub foreign : All (AreWithin j.foreign) facts
  pub primary : All (AreWithin j.primary) lookup
  pub distinct : HasDistinctKeys j.primary lookup

-- a row has the column, and there a valid date or null
abbrev pub HasDate : ℕ → List Val → Type 0
HasDate column row = (column < length row) × FitsType ty.Date (val_at row column)

-- a column of a joined row is one of a table that is there, and each row of this table has it
pub record IsColumn (s : Source) (w : WideCol) : Type 0 where
  pub table : w.table < length s.tables
  pub column : All (λ row. w.column < length row) (rows_in s w.table)

pub record IsSource (s : Source) : Type 0 where
  pub tables : length s.tables ≡ suc (length s.plan.joins)
  pub partition : All (HasDate s.plan.partition) (fact_of s.tables)
  pub joins : AllZip (IsJoin (fact_of s.tables)) (lookups_of s.tables) s.plan.joins
  pub wide : All (IsColumn s) s.plan.wide

-- ---- lists of sources

abbrev pub no_source : Source
no_source = record { plan = record { partition = 0; joins = []; wide = [] }; tables = []; range = record { start = 0; end = 0 } }

-- the source at a place
abbrev pub source_at : List Source → ℕ → Source
source_at sources place = slice_index_or sources place no_source
