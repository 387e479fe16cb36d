-- What holds of all dates.
use Rattle.std.specs.Prelude.{◌≡◌, ◌≤◌, ◌↔◌, ℕ, Some, None, List}
use Rattle.calendar.specs.Dates.{IsDate, IsDateText, day_of, last_day}
use Rattle.calendar.specs.DayTexts.{day_text}

-- the function and the relation say the same of each list of bytes
pub record DatesAreRead : Type 0 where
  pub exactly : (bytes : List ℕ) (day : ℕ) → (day_of bytes ≡ Some day) ↔ IsDateText bytes day
  pub none : (bytes : List ℕ) → (day_of bytes ≡ None) ↔ ¬ (IsDate bytes)

-- a day has one text, a text is of one day, and no day comes after 9999-12-31
pub record DatesAreCounted : Type 0 where
  pub one_text : (bytes others : List ℕ) (day : ℕ) → IsDateText bytes day → IsDateText others day → bytes ≡ others
  pub one_day : (bytes : List ℕ) (day other : ℕ) → IsDateText bytes day → IsDateText bytes other → day ≡ other
  pub bound : (bytes : List ℕ) (day : ℕ) → IsDateText bytes day → day ≤ last_day

-- the text of a day is its ten bytes in the calendar, and no other bytes are
pub record DaysHaveTexts : Type 0 where
  pub text : (day : ℕ) → day ≤ last_day → IsDateText (day_text day) day
  pub only : (bytes : List ℕ) (day : ℕ) → IsDateText bytes day → bytes ≡ day_text day
