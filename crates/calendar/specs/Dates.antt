-- Dates of the years 0000 to 9999: the calendar, the ten bytes YYYY-MM-DD, and the number of a day.
use Rattle.std.specs.Prelude.{◌≡◌, ◌≤◌, ◌+◌, ◌-◌, ◌*◌, ◌/◌, ◌%◌, ℕ, Bool, ◌&&◌, ◌==◌, nat_le, if◌then◌else◌, Option, Some, None, List, [], ◌∷◌, length, slice_index, pos}
use Rattle.std.specs.Char.{is_ascii_digit}
use Rattle.jiff_core.specs.Calendar.{days_in_month, day_count}

-- the calendar has this day
abbrev pub IsCalendarDate : ℕ → ℕ → ℕ → Type 0
IsCalendarDate year month day =
    (year ≤ 9999) × ((1 ≤ month) × (month ≤ 12))
    × ((1 ≤ day) × (day ≤ days_in_month (pos year) month))

-- how many days lie between 1 January 0000 and the date
unfoldable pub day_number : ℕ → ℕ → ℕ → ℕ
day_number year month day = day_count (pos year) month day - day_count (pos 0) 1 1

-- the number of 31 December 9999
abbrev pub last_day : ℕ
last_day = 3_652_424

-- the byte of a digit
abbrev pub digit_byte : ℕ → ℕ
digit_byte n = 48 + n

-- the byte between year, month and day
abbrev pub dash : ℕ
dash = 45

-- the ten bytes YYYY-MM-DD
abbrev pub date_text : ℕ → ℕ → ℕ → List ℕ
date_text year month day =
    digit_byte (year / 1000) ∷ digit_byte (year / 100 % 10) ∷ digit_byte (year / 10 % 10) ∷ digit_byte (year % 10) ∷ dash
    ∷ digit_byte (month / 10) ∷ digit_byte (month % 10) ∷ dash
    ∷ digit_byte (day / 10) ∷ digit_byte (day % 10) ∷ []

-- the bytes are the text of the day with this number
pub record IsDateText (bytes : List ℕ) (number : ℕ) : Type 0 where
  pub year : ℕ
  pub month : ℕ
  pub day : ℕ
  pub in_calendar : IsCalendarDate year month day
  pub spelled : bytes ≡ date_text year month day
  pub counted : number ≡ day_number year month day

-- the bytes are the text of a date
abbrev pub IsDate : List ℕ → Type 0
IsDate bytes = (number : ℕ) × IsDateText bytes number

-- ---- the same as a function, for readers

-- whether two digits stand at a place
abbrev pub is_two_digits : List ℕ → ℕ → Bool
is_two_digits bytes i = is_ascii_digit (slice_index bytes i) && is_ascii_digit (slice_index bytes (i + 1))

-- and the number that they write
abbrev pub two_digits : List ℕ → ℕ → ℕ
two_digits bytes i = (slice_index bytes i - 48) * 10 + (slice_index bytes (i + 1) - 48)

-- whether digits and dashes stand in their places
abbrev pub has_date_form : List ℕ → Bool
has_date_form bytes =
    (length bytes == 10) && is_two_digits bytes 0 && is_two_digits bytes 2 && (slice_index bytes 4 == dash)
    && is_two_digits bytes 5 && (slice_index bytes 7 == dash) && is_two_digits bytes 8

-- whether the calendar has the day
abbrev pub is_calendar_date : ℕ → ℕ → ℕ → Bool
is_calendar_date year month day =
    nat_le year 9999 && nat_le 1 month && nat_le month 12 && nat_le 1 day && nat_le day (days_in_month (pos year) month)

-- the day with these parts, if the calendar has it
unfoldable pub day_with : ℕ → ℕ → ℕ → Option ℕ
day_with year month day = if is_calendar_date year month day then Some (day_number year month day) else None

-- the day whose text the bytes are, if they are one
unfoldable pub day_of : List ℕ → Option ℕ
day_of bytes =
    if has_date_form bytes then day_with (two_digits bytes 0 * 100 + two_digits bytes 2) (two_digits bytes 5) (two_digits bytes 8)
    else None
