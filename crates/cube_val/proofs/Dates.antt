-- The text of a date is a text, and no null.
use Rattle.std.proofs.Common.{◌≡◌, ◌≢◌, ◌<◌, ◌≤◌, ℕ, zero, suc, List, ◌∷◌, length, get_or, arith, lit<, lit≤, sym, ap, ◌∙◌, pos}
use Rattle.std.specs.Str.{IsAscii}
use Rattle.std.proofs.lemmas.Str.{IsUtf8-from_ascii}
use Rattle.jiff_core.proofs.CalendarLemmas.{days_in_month_bounds}
use Rattle.calendar.specs.Dates.{IsDate, IsDateText, date_text}
use Rattle.cube_val.specs.Texts.{IsText, null_text}

-- each byte is ASCII
record EachAscii (bytes : List ℕ) : Type 0 where
  each : IsAscii bytes

before : (c : ℕ) (cs : List ℕ) → c < 128 → EachAscii cs → (i : ℕ) → get_or (c ∷ cs) i 0 < 128
before c cs h hs zero = h
before c cs h hs (suc k) = hs.each k

ascii_cons : {c : ℕ} {cs : List ℕ} → c < 128 → EachAscii cs → EachAscii (c ∷ cs)
ascii_cons {c} {cs} h hs = record { each = before c cs h hs }

date_text_is_ascii : (year month day : ℕ) → year ≤ 9999 → month ≤ 12 → day ≤ 31 → EachAscii (date_text year month day)
date_text_is_ascii year month day y m d =
    ascii_cons (omega arith) (ascii_cons (omega arith) (ascii_cons (omega arith) (ascii_cons (omega arith) (ascii_cons (lit< tt)
    (ascii_cons (omega arith) (ascii_cons (omega arith) (ascii_cons (lit< tt)
    (ascii_cons (omega arith) (ascii_cons (omega arith) (record { each = λ i. lit< tt }))))))))))

date_is_ascii : (bytes : List ℕ) (day : ℕ) → IsDateText bytes day → IsAscii bytes
date_is_ascii bytes day h =
    let last : h.day ≤ 31 = omega (arith, h.in_calendar.2.1, days_in_month_bounds (pos h.year) h.month) in
    rw h.spelled ((date_text_is_ascii h.year h.month h.day h.in_calendar.0 h.in_calendar.1.1 last).each)

pub date_is_text : (bytes : List ℕ) → IsDate bytes → IsText bytes
date_is_text bytes h = record { short = rw h.1.spelled (lit≤ tt); utf8 = IsUtf8-from_ascii bytes (date_is_ascii bytes h.0 h.1) }

pub date_is_short : (bytes : List ℕ) → IsDate bytes → length bytes ≤ 14
date_is_short bytes h = rw h.1.spelled (lit≤ tt)

pub date_is_not_null : (bytes : List ℕ) → IsDate bytes → bytes ≢ null_text
date_is_not_null bytes h e = let long : length null_text ≡ 10 = ap length (sym e ∙ h.1.spelled) in absurd (omega (arith, long))
