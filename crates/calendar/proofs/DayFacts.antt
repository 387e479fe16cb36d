-- The text of a day, by walking over the years and the months before it.
use Rattle.std.proofs.Common.{◌≡◌, ◌≤◌, ◌<◌, ◌+◌, ◌-◌, ◌^◌, ℕ, zero, suc, Bool, true, false, cond, List, length, pos, refl, sym, ap, subst, ◌∙◌, arith, rules}
use Rattle.std.specs.Prelude.{nat_lt}
use Rattle.std.proofs.lemmas.Bool.{ltb-true, ltb-false}
use Rattle.jiff_core.specs.Calendar.{day_count, days_in_month, days_in_year}
use Rattle.jiff_core.proofs.CalendarLemmas.{day_count-day, day_count-end, day_count-last_of_year, day_count-next_month, day_count-next_year}
use Rattle.jiff_core.proofs.SignedLemmas.{signed_arith}
use Rattle.calendar.specs.Dates.{IsDateText, day_number, last_day}
use Rattle.calendar.proofs.Dates.{first_is}
use Rattle.calendar.proofs.Texts.{one_text, text_bound}
use Rattle.calendar.specs.DayTexts.{Place, day_text, month_from, month_of, year_from, year_of}

-- the year of a day, which is counted from the first day of jiff's calendar
record InYear (count : ℕ) (p : Place) : Type 0 where
  year : p.period ≤ 9999
  inside : p.before < days_in_year (pos p.period)
  counted : day_count (pos p.period) 1 1 + p.before ≡ count

next_year : (year : ℕ) → day_count (pos (year + 1)) 1 1 ≡ day_count (pos year) 1 1 + days_in_year (pos year)
next_year year = day_count-next_year (pos year) (pos (year + 1)) (omega (arith, signed_arith)) (omega (arith, signed_arith))

year_found : (more year days : ℕ) → year + more ≡ 9999 → day_count (pos year) 1 1 + days < 7_304_850 → InYear (day_count (pos year) 1 1 + days) (year_from more year days)
year_found zero year days last small =
    let is : year ≡ 9999 = omega arith in
    let end : day_count (pos (year + 1)) 1 1 ≡ 7_304_850 = rw is day_count-end in
    record { year = omega arith; inside = omega (arith, next_year year, end); counted = refl }
year_found (suc more) year days last small =
    by (nat_lt days (days_in_year (pos year))) refl
    (λ there.
    let same : day_count (pos (year + 1)) 1 1 + (days - days_in_year (pos year)) ≡ day_count (pos year) 1 1 + days = omega (arith, next_year year) in
    subst (λ (n : ℕ). InYear n (year_from more (year + 1) (days - days_in_year (pos year)))) same
    (year_found more (year + 1) (days - days_in_year (pos year)) (omega arith) (omega (arith, same)))) where
      by : (b : Bool) → nat_lt days (days_in_year (pos year)) ≡ b
          → (days_in_year (pos year) ≤ days → InYear (day_count (pos year) 1 1 + days) (year_from more (year + 1) (days - days_in_year (pos year))))
          → InYear (day_count (pos year) 1 1 + days) (cond b (record { period = year; before = days }) (year_from more (year + 1) (days - days_in_year (pos year))))
      by true e later = record { year = omega arith; inside = ltb-true _ _ e; counted = refl }
      by false e later = later (ltb-false _ _ e)

-- the month of a day in a year
record InMonth (year count : ℕ) (p : Place) : Type 0 where
  low : 1 ≤ p.period
  high : p.period ≤ 12
  inside : p.before < days_in_month (pos year) p.period
  counted : day_count (pos year) p.period 1 + p.before ≡ count

month_found : (more year month days : ℕ) → 1 ≤ month → month + more ≡ 12 → day_count (pos year) month 1 + days < day_count (pos year) 1 1 + days_in_year (pos year)
    → InMonth year (day_count (pos year) month 1 + days) (month_from more year month days)
month_found zero year month days low last small =
    let is : month ≡ 12 = omega arith in
    let december : day_count (pos year) 12 1 + days < day_count (pos year) 1 1 + days_in_year (pos year) = subst (λ (m : ℕ). day_count (pos year) m 1 + days < day_count (pos year) 1 1 + days_in_year (pos year)) is small in
    let inside : days < days_in_month (pos year) 12 = omega (arith, day_count-last_of_year (pos year), day_count-day (pos year) 12 1 31 (omega arith) (omega arith)) in
    record { low = low; high = omega arith; inside = subst (λ (m : ℕ). days < days_in_month (pos year) m) (sym is) inside; counted = refl }
month_found (suc more) year month days low last small =
    by (nat_lt days (days_in_month (pos year) month)) refl
    (λ there.
    let same : day_count (pos year) (month + 1) 1 + (days - days_in_month (pos year) month) ≡ day_count (pos year) month 1 + days = omega (arith, day_count-next_month (pos year) month low) in
    subst (λ (n : ℕ). InMonth year n (month_from more year (month + 1) (days - days_in_month (pos year) month))) same
    (month_found more year (month + 1) (days - days_in_month (pos year) month) (omega arith) (omega arith) (omega (arith, same)))) where
      by : (b : Bool) → nat_lt days (days_in_month (pos year) month) ≡ b
          → (days_in_month (pos year) month ≤ days → InMonth year (day_count (pos year) month 1 + days) (month_from more year (month + 1) (days - days_in_month (pos year) month)))
          → InMonth year (day_count (pos year) month 1 + days) (cond b (record { period = month; before = days }) (month_from more year (month + 1) (days - days_in_month (pos year) month)))
      by true e later = record { low = low; high = omega arith; inside = ltb-true _ _ e; counted = refl }
      by false e later = later (ltb-false _ _ e)

-- the date of a day
pub text_of_day : (day : ℕ) → day ≤ last_day → IsDateText (day_text day) day
unfolding day_text year_of month_of day_number
text_of_day day small =
    let y = year_found 9999 0 day refl (omega (arith, first_is)) in
    let year = (year_of day).period in
    let january : day_count (pos year) 1 1 + (year_of day).before < day_count (pos year) 1 1 + days_in_year (pos year) = omega (arith, y.inside) in
    let m = month_found 11 year 1 (year_of day).before (omega arith) refl january in
    let month = (month_of day).period in
    let before = (month_of day).before in
    let counted : day ≡ day_number year month (before + 1) =
    omega (arith, first_is, y.counted, m.counted, day_count-day (pos year) month 1 (before + 1) (omega arith) (omega arith)) in
    record {
      year = year;
      month = month;
      day = before + 1;
      in_calendar = (y.year, (m.low, m.high), (omega arith, omega (arith, m.inside)));
      spelled = refl;
      counted = counted;
    }

pub only_text_of_day : (bytes : List ℕ) (day : ℕ) → IsDateText bytes day → bytes ≡ day_text day
only_text_of_day bytes day h = one_text bytes (day_text day) day h (text_of_day day (text_bound bytes day h))
