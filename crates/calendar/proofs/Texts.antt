-- The text of a date, and what the test of its form says.
use Rattle.std.proofs.Common.{◌≡◌, ◌≤◌, ◌+◌, ◌*◌, ◌/◌, ◌%◌, ℕ, refl, sym, ap, arith, Bool, true, false, ◌&&◌, cond, ◌∙◌, ◌↔◌, IsSome, IfSome, pos, List, length, Option, Some, None, get_or}
use Rattle.std.specs.Char.{is_ascii_digit}
use Rattle.std.proofs.lemmas.Bool.{eqb-true}
use Rattle.std.proofs.lemmas.Bool.Decides.{nat_tests}
use Rattle.std.proofs.lemmas.Slice.Eq.{text_from_reads}
use Rattle.jiff_core.proofs.CalendarLemmas.{days_in_month_bounds}
use Rattle.calendar.specs.Dates.{IsCalendarDate, IsDate, IsDateText, last_day, day_number, is_calendar_date, date_text, has_date_form, two_digits, day_with, day_of}
use Rattle.calendar.proofs.Dates.{is_date_true, is_date_again, number_injective, number_bound}

both : (a b : Bool) → (a && b) ≡ true → (a ≡ true) × (b ≡ true)
both true b h = (refl, h)
both false b h = (h, elim b as (λ v. v ≡ true) [ true ↦ refl | false ↦ h ])

-- a byte is a digit
abbrev IsDigit : ℕ → Type 0
IsDigit b = (48 ≤ b) × (b ≤ 57)

is_digit : (b : ℕ) → is_ascii_digit b ≡ true → IsDigit b
is_digit b h = grind (arith, nat_tests)

is_digit_again : (b : ℕ) → IsDigit b → is_ascii_digit b ≡ true
is_digit_again b h = grind (arith, nat_tests)

-- the bytes at the places of a date
record HasForm (b : List ℕ) : Type 0 where
  long : length b ≡ 10
  year : IsDigit (get_or b 0 0) × IsDigit (get_or b 1 0) × IsDigit (get_or b 2 0) × IsDigit (get_or b 3 0)
  first : get_or b 4 0 ≡ 45
  month : IsDigit (get_or b 5 0) × IsDigit (get_or b 6 0)
  second : get_or b 7 0 ≡ 45
  day : IsDigit (get_or b 8 0) × IsDigit (get_or b 9 0)

has_form : (b : List ℕ) → has_date_form b ≡ true → HasForm b
has_form b h =
    let p8 = both _ _ h in
    let p7 = both _ _ p8.0 in
    let p5 = both _ _ p7.0 in
    let p4 = both _ _ p5.0 in
    let p2 = both _ _ p4.0 in
    let p0 = both _ _ p2.0 in
    let d8 = both _ _ p8.1 in
    let d5 = both _ _ p5.1 in
    let d2 = both _ _ p2.1 in
    let d0 = both _ _ p0.1 in
    record {
      long = eqb-true _ _ p0.0;
      year = (is_digit _ d0.0, is_digit _ d0.1, is_digit _ d2.0, is_digit _ d2.1);
      first = eqb-true _ _ p4.1;
      month = (is_digit _ d5.0, is_digit _ d5.1);
      second = eqb-true _ _ p7.1;
      day = (is_digit _ d8.0, is_digit _ d8.1);
    }

-- bytes of that form are the text of their parts
spelled : (b : List ℕ) → HasForm b → b ≡ date_text (two_digits b 0 * 100 + two_digits b 2) (two_digits b 5) (two_digits b 8)
spelled b h =
    text_from_reads b (date_text (two_digits b 0 * 100 + two_digits b 2) (two_digits b 5) (two_digits b 8)) h.long
    (omega (arith, h.year), (omega (arith, h.year), (omega (arith, h.year), (omega (arith, h.year), (h.first, (omega (arith, h.month), (omega (arith, h.month), (h.second, (omega (arith, h.day), (omega (arith, h.day), tt))))))))))

-- the text of a date has the form
form_of_text : (y m d : ℕ) → y ≤ 9999 → m ≤ 12 → d ≤ 31 → has_date_form (date_text y m d) ≡ true
form_of_text y m d year month day =
    rw (is_digit_again (48 + y / 1000) (omega arith, omega (arith, year)), is_digit_again (48 + y / 100 % 10) (omega arith, omega arith), is_digit_again (48 + y / 10 % 10) (omega arith, omega arith), is_digit_again (48 + y % 10) (omega arith, omega arith), is_digit_again (48 + m / 10) (omega arith, omega (arith, month)), is_digit_again (48 + m % 10) (omega arith, omega arith), is_digit_again (48 + d / 10) (omega arith, omega (arith, day)), is_digit_again (48 + d % 10) (omega arith, omega arith)) refl

year_of_text : (y m d : ℕ) → y ≤ 9999 → two_digits (date_text y m d) 0 * 100 + two_digits (date_text y m d) 2 ≡ y
year_of_text y m d h = omega (arith, h)

month_of_text : (y m d : ℕ) → m ≤ 12 → two_digits (date_text y m d) 5 ≡ m
month_of_text y m d h = omega (arith, h)

day_of_text : (y m d : ℕ) → d ≤ 31 → two_digits (date_text y m d) 8 ≡ d
day_of_text y m d h = omega (arith, h)

some_is : (x y : ℕ) → ◌≡◌ {A = Option ℕ} (Some x) (Some y) → x ≡ y
some_is x y e = cc

-- what the test of a date and its number say together
pub day_with_some : (y m d n : ℕ) → day_with y m d ≡ Some n → IsCalendarDate y m d × (n ≡ day_number y m d)
unfolding day_with
day_with_some y m d n h = split (is_calendar_date y m d) refl h where
  split : (b : Bool) → is_calendar_date y m d ≡ b → ◌≡◌ {A = Option ℕ} (cond b (Some (day_number y m d)) None) (Some n) → IsCalendarDate y m d × (n ≡ day_number y m d)
  split true e h = (is_date_true y m d e, sym (some_is (day_number y m d) n h))
  split false e h = absurd cc

pub day_with_again : (y m d : ℕ) → IsCalendarDate y m d → day_with y m d ≡ Some (day_number y m d)
unfolding day_with
day_with_again y m d h = rw (is_date_again y m d h) refl

pub day_with_none : (y m d : ℕ) → ¬ (IsCalendarDate y m d) → day_with y m d ≡ None
unfolding day_with
day_with_none y m d h = split (is_calendar_date y m d) refl where
  split : (b : Bool) → is_calendar_date y m d ≡ b → ◌≡◌ {A = Option ℕ} (cond b (Some (day_number y m d)) None) None
  split true e = absurd (h (is_date_true y m d e))
  split false e = refl

-- ---- the function and the relation agree

pub text_is : (b : List ℕ) (n : ℕ) → day_of b ≡ Some n → IsDateText b n
unfolding day_of
text_is b n h = split (has_date_form b) refl h where
  split : (v : Bool) → has_date_form b ≡ v → ◌≡◌ {A = Option ℕ} (cond v (day_with (two_digits b 0 * 100 + two_digits b 2) (two_digits b 5) (two_digits b 8)) None) (Some n) → IsDateText b n
  split true e h =
      let w = day_with_some (two_digits b 0 * 100 + two_digits b 2) (two_digits b 5) (two_digits b 8) n h in
      record { year = two_digits b 0 * 100 + two_digits b 2; month = two_digits b 5; day = two_digits b 8; in_calendar = w.0; spelled = spelled b (has_form b e); counted = w.1 }
  split false e h = absurd cc

pub text_read : (b : List ℕ) (n : ℕ) → IsDateText b n → day_of b ≡ Some n
unfolding day_of
text_read b n h =
    let year = h.in_calendar.0 in
    let month = h.in_calendar.1.1 in
    let day : h.day ≤ 31 = omega (arith, h.in_calendar.2.1, days_in_month_bounds (pos h.year) h.month) in
    rw (h.spelled, form_of_text h.year h.month h.day year month day, year_of_text h.year h.month h.day year, month_of_text h.year h.month h.day month, day_of_text h.year h.month h.day day)
    (day_with_again h.year h.month h.day h.in_calendar ∙ ap (λ (k : ℕ). Some k) (sym h.counted))

-- what a reader that answers by the function says of dates
pub reads_exactly : (b : List ℕ) (r : Option ℕ) → r ≡ day_of b → IsSome r ↔ IsDate b
reads_exactly b (Some n) e = ((λ h. (n, text_is b n (sym e))), (λ h. refl))
reads_exactly b None e = ((λ h. absurd cc), (λ h. absurd (none_not (day_of b) h.0 (sym e) (text_read b h.0 h.1)))) where
  none_not : (o : Option ℕ) (n : ℕ) → o ≡ None → o ≡ Some n → ⊥
  none_not o n p q = cc

pub reads_text : (b : List ℕ) (r : Option ℕ) → r ≡ day_of b → IfSome r (λ n. IsDateText b n)
reads_text b (Some n) e = text_is b n (sym e)
reads_text b None e = tt

pub reads_none : (b : List ℕ) → (day_of b ≡ None) ↔ ¬ (IsDate b)
reads_none b = split (day_of b) refl where
  split : (r : Option ℕ) → day_of b ≡ r → (r ≡ None) ↔ ¬ (IsDate b)
  split (Some n) e = ((λ h. absurd cc), (λ h. absurd (h (n, text_is b n e))))
  split None e = ((λ h. (λ k. let read = text_read b k.0 k.1 in absurd cc)), (λ h. refl))

-- ---- one text a day, one day a text

pub one_day : (b : List ℕ) (n o : ℕ) → IsDateText b n → IsDateText b o → n ≡ o
one_day b n o h k = some_is n o (sym (text_read b n h) ∙ text_read b o k)

pub one_text : (b c : List ℕ) (n : ℕ) → IsDateText b n → IsDateText c n → b ≡ c
one_text b c n h k =
    let parts = number_injective h.year h.month h.day k.year k.month k.day h.in_calendar k.in_calendar (sym h.counted ∙ k.counted) in
    h.spelled ∙ rw (parts.0, parts.1, parts.2) (sym k.spelled)

pub text_bound : (b : List ℕ) (n : ℕ) → IsDateText b n → n ≤ last_day
text_bound b n h = rw h.counted (number_bound h.year h.month h.day h.in_calendar)
