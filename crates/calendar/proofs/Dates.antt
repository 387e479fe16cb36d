-- Lemmas on dates, their texts and their numbers.
use Rattle.std.proofs.Common.{◌≡◌, ◌≤◌, ◌≤ℤ◌, ◌+ℤ◌, ℕ, ℤ, pos, negsuc, refl, rules, arith, true}
use Rattle.jiff_core.specs.Calendar.{day_count, days_from_civil, IsCivilDate, IsDate}
use Rattle.jiff_core.specs.Date.{epoch_day, IsYmd}
use Rattle.jiff_core.specs.declared.civil.date.Date.{Date}
use Rattle.jiff_core.proofs.DateLemmas as jiff
use Rattle.jiff_core.proofs.MarchLemmas.{day_count-early}
use Rattle.jiff_core.proofs.CalendarLemmas.{day_count-lt_year, day_count-last_of_year, day_count-next_year, days_from_civil-day_count, day_count_bounds}
use Rattle.jiff.proofs.SpanFacts.{signed_arith}
use Rattle.std.proofs.lemmas.Int.{by_lt_z}
use Rattle.std.proofs.lemmas.Bool.Decides.{nat_tests}
use Rattle.calendar.specs.Dates.{IsCalendarDate, day_number, is_calendar_date, last_day}

-- 1 January 0000
pub first_is : day_count (pos 0) 1 1 ≡ 3_652_425
first_is = day_count-early (pos 0) 9999 1 1 refl (omega arith) (omega arith) (omega arith)

-- the calendar's day is one of jiff's
pub civil : (y m d : ℕ) → IsCalendarDate y m d → IsCivilDate (pos y) m d
civil y m d h = ((omega (arith, signed_arith, h.0), omega (arith, signed_arith, h.0)), h.1, h.2)

-- no date of the year 0 or later comes before 1 January 0000
pub count_least : (y : ℤ) (m d : ℕ) → IsCivilDate y m d → pos 0 ≤ℤ y → 3_652_425 ≤ day_count y m d
count_least y m d h low =
    let eve : IsCivilDate (negsuc 0) 12 31 = search rules in
    omega (arith, day_count-lt_year (negsuc 0) 12 31 y m d eve h.2.0 (omega (arith, signed_arith)), day_count-last_of_year (negsuc 0), day_count-next_year (negsuc 0) (pos 0) (search rules) refl, first_is)

-- and no date of a year before it after it
pub count_before : (y : ℤ) (m d : ℕ) → IsCivilDate y m d → 3_652_425 ≤ day_count y m d → pos 0 ≤ℤ y
count_before y m d h low =
    by_lt_z y (pos 0) (λ lt. absurd (omega (arith, day_count-lt_year y m d (pos 0) 1 1 h (omega arith) lt, first_is))) (λ ge. ge)

-- the number of a date by jiff's day number
pub number_is : (y m d n : ℕ) → IsCalendarDate y m d → days_from_civil (pos y) m d +ℤ pos 719_528 ≡ pos n → n ≡ day_number y m d
unfolding day_number
number_is y m d n h e = omega (arith, signed_arith, e, first_is, days_from_civil-day_count (pos y) m d, count_least (pos y) m d (civil y m d h) (search rules))

-- no day has a number past the last
pub number_bound : (y m d : ℕ) → IsCalendarDate y m d → day_number y m d ≤ last_day
unfolding day_number
number_bound y m d h = omega (arith, first_is, day_count_bounds (pos y) m d (civil y m d h))

-- the test of a date
pub is_date_true : (y m d : ℕ) → is_calendar_date y m d ≡ true → IsCalendarDate y m d
is_date_true y m d h = grind (arith, nat_tests)

pub is_date_again : (y m d : ℕ) → IsCalendarDate y m d → is_calendar_date y m d ≡ true
is_date_again y m d h = grind (arith, nat_tests)

-- the calendar is jiff's
pub of_jiff : (y m d : ℕ) → y ≤ 9999 → IsDate (pos y) (pos m) (pos d) → IsCalendarDate y m d
of_jiff y m d year h = (year, (omega (arith, signed_arith, h.1), omega (arith, signed_arith, h.1)), (omega (arith, signed_arith, h.2), omega (arith, signed_arith, h.2)))

pub to_jiff : (y m d : ℕ) → IsCalendarDate y m d → IsDate (pos y) (pos m) (pos d)
to_jiff y m d h = ((omega (arith, signed_arith, h.0), omega (arith, signed_arith, h.0)), (omega (arith, signed_arith, h.1), omega (arith, signed_arith, h.1)), (omega (arith, signed_arith, h.2), omega (arith, signed_arith, h.2)))

pos_is : (a b : ℕ) → pos a ≡ pos b → a ≡ b
pos_is a b e = omega (arith, signed_arith)

-- the number of a date with these parts
pub number_of : (y m d n : ℕ) (date : Date) → IsCalendarDate y m d → IsYmd (pos y) (pos m) (pos d) date → epoch_day date +ℤ pos 719_528 ≡ pos n → n ≡ day_number y m d
number_of y m d n date h parts e = number_is y m d n h (rw (← parts.0, ← pos_is _ _ parts.1, ← pos_is _ _ parts.2) e)

-- the parts of a date of the year 0 or later are in the calendar
pub parts_in : (date : Date) (y m d : ℕ) → IsYmd (pos y) (pos m) (pos d) date → IsCalendarDate y m d
parts_in date y m d h =
    let parts = rw (h.0, pos_is _ _ h.1, pos_is _ _ h.2) at (jiff.civil date) in
    (omega (arith, signed_arith, parts.0), parts.1, parts.2)

-- no date that is counted from 1 January 0000 is of a year before 0
pub year_from : (date : Date) (n : ℕ) → epoch_day date +ℤ pos 719_528 ≡ pos n → pos 0 ≤ℤ date.year
year_from date n e =
    count_before date.year date.month date.day (jiff.civil date) (omega (arith, signed_arith, e, days_from_civil-day_count date.year date.month date.day))

-- jiff's date with these parts
jiff_date : (y m d : ℕ) → IsCalendarDate y m d → Date
jiff_date y m d h = let there = civil y m d h in record { year = pos y; month = m; day = d; year_in = there.0; month_in = there.1; day_in = there.2 }

-- a number is of one date
pub number_injective : (y m d y₂ m₂ d₂ : ℕ) → IsCalendarDate y m d → IsCalendarDate y₂ m₂ d₂ → day_number y m d ≡ day_number y₂ m₂ d₂ → (y ≡ y₂) × (m ≡ m₂) × (d ≡ d₂)
unfolding day_number jiff_date
number_injective y m d y₂ m₂ d₂ h k e =
    let same : days_from_civil (pos y) m d ≡ days_from_civil (pos y₂) m₂ d₂ = omega (arith, signed_arith, e, first_is, days_from_civil-day_count (pos y) m d, days_from_civil-day_count (pos y₂) m₂ d₂, count_least (pos y) m d (civil y m d h) (search rules), count_least (pos y₂) m₂ d₂ (civil y₂ m₂ d₂ k) (search rules)) in
    let parts = jiff.epoch_day_injective (jiff_date y m d h) (jiff_date y₂ m₂ d₂ k) same in
    (pos_is _ _ parts.0, parts.1, parts.2)
