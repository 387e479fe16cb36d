-- The bytes that values, rows, days and ranges are written as.
use Rattle.std.specs.Prelude.{ℕ, ℤ, List, [], ◌∷◌, ◌++◌, length}
use Rattle.std.specs.Int.{w64}
use Rattle.std.specs.List.{flat_map}
use Rattle.byte_frame.specs.Spelling.{list_text, signed_text}
use Rattle.cube_val.specs.declared.val.Val.{Val}
use Rattle.cube_val.specs.declared.val.Val.TheVariants.{Null, Int, Text}
use Rattle.range_list.specs.Ranges.{Interval}
use Rattle.calendar.specs.DayTexts.{day_text}

-- a length of one byte, and the bytes
abbrev pub short_text : List ℕ → List ℕ
short_text bytes = length bytes ∷ bytes

-- 0 for null, 1 and the number in eight bytes, or 2 and the text with its length
abbrev pub val_text : Val → List ℕ
val_text Null = 0 ∷ []
val_text (Int n) = 1 ∷ signed_text w64 n
val_text (Text t) = 2 ∷ short_text t

-- the values in column order
abbrev pub row_text : List Val → List ℕ
row_text row = flat_map val_text row

-- a u32 count, and the rows
abbrev pub rows_text : List (List Val) → List ℕ
rows_text rows = list_text row_text rows

-- the first day and the day after the last one
abbrev pub range_text : Interval → List ℕ
range_text range = day_text range.start ++ day_text range.end
