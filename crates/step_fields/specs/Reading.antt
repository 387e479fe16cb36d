-- Readers of values, rows, days and ranges: what stands at the front of bytes, with the bytes after it, or nothing.
use Rattle.std.specs.Prelude.{◌≡◌, ℕ, zero, suc, ℤ, Bool, true, not, nat_lt, List, [], ◌∷◌, Option, Some, None, is_some, if◌then◌else◌}
use Rattle.std.specs.Int.{w64}
use Rattle.std.specs.Str.{is_utf8}
use Rattle.byte_frame.specs.Reading.{◌>>=◌, as_at, byte_at, bytes_at, each_at, if_at, list_at, signed_at, then_at}
use Rattle.calendar.specs.Dates.{day_of}
use Rattle.cube_val.specs.declared.val.ColType.{ColType}
use Rattle.cube_val.specs.declared.val.ColType.TheVariants as ty
use Rattle.cube_val.specs.declared.val.Val.{Val}
use Rattle.cube_val.specs.declared.val.Val.TheVariants.{Null, Int, Text}
use Rattle.range_list.specs.Ranges.{Interval}
use Rattle.step_fields.specs.declared.column.Column.{Column}

-- ---- values

-- a length of one byte, and so many bytes
abbrev pub short_at : List ℕ → Option (List ℕ × List ℕ)
short_at = as_at (λ p. p.1) (then_at byte_at bytes_at)

-- the same, where they are UTF-8
abbrev pub text_at : List ℕ → Option (List ℕ × List ℕ)
text_at = if_at is_utf8 short_at

-- the same, where they are a date
abbrev pub date_at : List ℕ → Option (List ℕ × List ℕ)
date_at = if_at (λ bytes. is_some (day_of bytes)) text_at

-- what stands behind a tag in a column of the type
abbrev pub tagged_val_at : ColType → ℕ → List ℕ → Option (Val × List ℕ)
tagged_val_at t zero bytes = Some (Null, bytes)
tagged_val_at ty.Int (suc zero) bytes = as_at Int (signed_at w64) bytes
tagged_val_at ty.Decimal (suc zero) bytes = as_at Int (signed_at w64) bytes
tagged_val_at ty.Text (suc (suc zero)) bytes = as_at Text text_at bytes
tagged_val_at ty.Date (suc (suc zero)) bytes = as_at Text date_at bytes
tagged_val_at t tag bytes = None

-- a value of the type
unfoldable pub typed_at : ColType → List ℕ → Option (Val × List ℕ)
typed_at t [] = None
typed_at t (tag ∷ bytes) = tagged_val_at t tag bytes

-- whether the value may stand where there may be no null
abbrev pub may_stand : Bool → Val → Bool
may_stand no_null Null = not no_null
may_stand no_null (Int n) = true
may_stand no_null (Text t) = true

-- a value of the column
abbrev pub val_at : Column → List ℕ → Option (Val × List ℕ)
val_at column = if_at (may_stand column.no_null) (typed_at column.ty)

-- ---- rows

-- one value for each column
abbrev pub row_at : List Column → List ℕ → Option (List Val × List ℕ)
row_at columns = each_at val_at columns

-- a u32 count up to the limit, and so many rows
abbrev pub rows_at : List Column → ℕ → List ℕ → Option (List (List Val) × List ℕ)
rows_at columns limit = list_at limit (row_at columns)

-- ---- days and ranges

-- ten bytes that are the text of a day
abbrev pub day_at : List ℕ → Option (ℕ × List ℕ)
day_at bytes = bytes_at 10 bytes >>= λ x. day_of x.0 >>= λ day. Some (day, x.1)

-- the range from the one day to the other
abbrev pub range_from : ℕ × ℕ → Interval
range_from days = record { start = days.0; end = days.1 }

-- two days, the first before the second
abbrev pub range_at : List ℕ → Option (Interval × List ℕ)
range_at = as_at range_from (if_at (λ days. nat_lt days.0 days.1) (then_at day_at (λ _. day_at)))

-- ---- answers that want no memory

-- the answer is what the reader gives, and the new bytes are left; after no answer nothing is known of what is left
abbrev pub Finds : {X : Type 0} → Option X → List ℕ → Option (X × List ℕ) → Type 0
Finds (Some x) new read = read ≡ Some (x, new)
Finds None new read = read ≡ None
