-- The date of a day and its ten bytes, from the number of the day.
use Rattle.std.specs.Prelude.{ℕ, zero, suc, ◌+◌, ◌-◌, nat_lt, if◌then◌else◌, List, pos}
use Rattle.jiff_core.specs.Calendar.{days_in_month, days_in_year}
use Rattle.calendar.specs.Dates.{date_text}

-- a year or a month, and how many days of it come before a day
pub record Place : Type 0 where
  pub period : ℕ
  pub before : ℕ

-- the year in which a day lies that comes so many days after the first one of a year; at most so many years are passed
abbrev pub year_from : ℕ → ℕ → ℕ → Place
year_from zero year days = record { period = year; before = days }
year_from (suc more) year days =
    if nat_lt days (days_in_year (pos year)) then record { period = year; before = days }
    else year_from more (year + 1) (days - days_in_year (pos year))

-- the same with the months of a year
abbrev pub month_from : ℕ → ℕ → ℕ → ℕ → Place
month_from zero year month days = record { period = month; before = days }
month_from (suc more) year month days =
    if nat_lt days (days_in_month (pos year) month) then record { period = month; before = days }
    else month_from more year (month + 1) (days - days_in_month (pos year) month)

-- the year of the day with a number, and the month in that year
unfoldable pub year_of : ℕ → Place
year_of number = year_from 9999 0 number

unfoldable pub month_of : ℕ → Place
month_of number = month_from 11 (year_of number).period 1 (year_of number).before

-- the ten bytes YYYY-MM-DD of the day with a number
unfoldable pub day_text : ℕ → List ℕ
day_text number = date_text (year_of number).period (month_of number).period ((month_of number).before + 1)
