-- Which values may stand in a field.
use Rattle.std.specs.Prelude.{◌≢◌, ◌≤◌, ◌<◌, ℕ, IsTrue, List, length}
use Rattle.std.specs.List.{AllByRecursion}
use Rattle.byte_frame.specs.Spelling.{EachFits}
use Rattle.calendar.specs.Dates.{last_day}
use Rattle.cube_val.specs.declared.val.Val.{Val}
use Rattle.cube_val.specs.declared.val.Val.TheVariants.{Null}
use Rattle.cube_val.specs.Values.{FitsType, IsValue}
use Rattle.range_list.specs.Ranges.{Interval}
use Rattle.step_fields.specs.declared.column.Column.{Column}

-- a value of the column's type, and no null where none may stand
pub record FitsColumn (column : Column) (v : Val) : Type 0 where
  pub of_type : FitsType column.ty v
  pub is_value : IsValue v
  pub no_null : IsTrue column.no_null → v ≢ Null

-- one value for each column
abbrev pub FitsRow : List Column → List Val → Type 0
FitsRow columns row = EachFits FitsColumn columns row

-- at most so many rows
abbrev pub FitsRows : List Column → ℕ → List (List Val) → Type 0
FitsRows columns limit rows = (length rows ≤ limit) × AllByRecursion (FitsRow columns) rows

-- the days of the years 0000 to 9999
abbrev pub IsDay : ℕ → Type 0
IsDay day = day ≤ last_day

-- two such days, the first before the second
abbrev pub IsDayRange : Interval → Type 0
IsDayRange range = (range.start < range.end) × IsDay range.end
