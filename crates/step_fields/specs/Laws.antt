-- What holds of all these fields.
use Rattle.std.specs.Prelude.{◌≡◌, ◌<◌, ◌^◌, ℕ, List}
use Rattle.byte_frame.specs.Exact.{Exact}
use Rattle.cube_val.specs.declared.val.Val.{Val}
use Rattle.step_fields.specs.declared.column.Column.{Column}
use Rattle.calendar.specs.DayTexts.{day_text}
use Rattle.step_fields.specs.Fits.{FitsColumn, FitsRow, FitsRows, IsDay, IsDayRange}
use Rattle.step_fields.specs.Reading.{day_at, range_at, row_at, rows_at, val_at}
use Rattle.step_fields.specs.Spelling.{range_text, row_text, rows_text, val_text}

-- each field is read exactly: what fits is read again from what it is written as, whatever follows, and what is read was so written and fits
pub record FieldsAreExact : Type 0 where
  pub value : (column : Column) → Exact val_text (FitsColumn column) (val_at column)
  pub row : (columns : List Column) → Exact row_text (FitsRow columns) (row_at columns)
  pub rows : (columns : List Column) (limit : ℕ) → limit < 2 ^ 32 → Exact rows_text (FitsRows columns limit) (rows_at columns limit)
  pub day : Exact day_text IsDay day_at
  pub range : Exact range_text IsDayRange range_at
