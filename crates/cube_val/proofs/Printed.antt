-- What is printed of a value writes it.
use Rattle.std.proofs.Common.{◌≡◌, ◌<◌, ◌+◌, ◌*◌, ◌/◌, ◌%◌, ◌^◌, ◌++◌, ℕ, ℤ, suc, arith, lit≤, refl, sym, ap, ◌∙◌}
use Rattle.std.specs.Prelude.{pos, negsuc, FitsSigned}
use Rattle.std.specs.Int.{w64}
use Rattle.std.specs.Char.{digit_value}
use Rattle.std.specs.Fmt.{decimal, signed_decimal}
use Rattle.std.specs.Str.Parse.{AllDigits, digits_value}
use Rattle.std.proofs.lemmas.Fmt.{decimal_is_IsNumeral, length-decimal-le}
use Rattle.cube_val.specs.declared.val.ColType.TheVariants as ty
use Rattle.cube_val.specs.declared.val.Val.TheVariants.{Null, Int, Text}
use Rattle.cube_val.specs.Laws.{PrintedIsRead}
use Rattle.cube_val.specs.Numbers.{Sign, none, minus, sign_text, signed, four_digits, units_text, decimal_text, IsWhole, WritesDecimal, WritesInt}
use Rattle.cube_val.proofs.Digits.{digit_value_is}

-- the digits of a size below 2 ^ 64
whole_of : (size : ℕ) → size < 2 ^ 64 → IsWhole (decimal size)
whole_of size small = record { numeral = (decimal_is_IsNumeral size small).0; short = length-decimal-le 20 size (omega arith) (omega arith) small }

writes_signed : (n : ℤ) → FitsSigned w64 n → WritesInt (signed_decimal n) n
writes_signed (pos n) fits =
    let small : n < 2 ^ 64 = omega arith in
    record { sign = none; digits = decimal n; spelling = refl; whole = whole_of n small; value = ap pos (sym (decimal_is_IsNumeral n small).1); fits = fits }
writes_signed (negsuc n) fits =
    let small : suc n < 2 ^ 64 = omega arith in
    record { sign = minus; digits = decimal (suc n); spelling = refl; whole = whole_of (suc n) small; value = ap (λ k. signed minus k) (sym (decimal_is_IsNumeral (suc n) small).1); fits = fits }

-- the four digits of a number below 10000 are a fraction, and write it
digit_of : (d : ℕ) → d < 10 → digit_value (48 + d) ≡ d
digit_of d h = digit_value_is (48 + d) (omega arith, omega arith) ∙ omega arith

small_digit : (d : ℕ) → d < 10 → digit_value (48 + d) < 10
small_digit d h = let e = digit_of d h in omega (arith, e)

four_are_digits : (n : ℕ) → n < 10_000 → AllDigits 10 (four_digits n)
four_are_digits n small = (small_digit (n / 1_000) (omega arith), (small_digit (n / 100 % 10) (omega arith), (small_digit (n / 10 % 10) (omega arith), (small_digit (n % 10) (omega arith), tt))))

four_value : (n : ℕ) → n < 10_000 → digits_value 10 (four_digits n) ≡ n
four_value n small = rw (digit_of (n / 1_000) (omega arith), digit_of (n / 100 % 10) (omega arith), digit_of (n / 10 % 10) (omega arith), digit_of (n % 10) (omega arith)) (omega arith)

-- the value of what is printed of so many units
units_written : (sign : Sign) (units : ℕ) (n : ℤ) → units < 2 ^ 64 → n ≡ signed sign units → FitsSigned w64 n → WritesDecimal (sign_text sign ++ units_text units) n
units_written sign units n small value fits =
    let whole = units / 10_000 in
    let places = units % 10_000 in
    let size : units ≡ digits_value 10 (decimal whole) * 10_000 + digits_value 10 (four_digits places) =
    rw ((decimal_is_IsNumeral whole (omega arith)).1, four_value places (omega arith)) (omega arith) in
    record {
      sign = sign;
      whole = decimal whole;
      fraction = four_digits places;
      spelling = refl;
      is_whole = whole_of whole (omega arith);
      is_fraction = record { all_digits = four_are_digits places (omega arith); short = lit≤ tt; zeros = λ k d within. absurd (omega (arith, within)) };
      value = value ∙ ap (signed sign) size;
      fits = fits;
    }

writes_decimal : (n : ℤ) → FitsSigned w64 n → WritesDecimal (decimal_text n) n
writes_decimal (pos n) fits = units_written none n (pos n) (omega arith) refl fits
writes_decimal (negsuc n) fits = units_written minus (suc n) (negsuc n) (omega arith) refl fits

pub printed_is_read : PrintedIsRead
printed_is_read t Null value fits other = refl
printed_is_read ty.Int (Int n) value fits other = writes_signed n value
printed_is_read ty.Decimal (Int n) value fits other = writes_decimal n value
printed_is_read ty.Text (Int n) value fits other = absurd fits
printed_is_read ty.Date (Int n) value fits other = absurd fits
printed_is_read ty.Int (Text t) value fits other = absurd fits
printed_is_read ty.Decimal (Text t) value fits other = absurd fits
printed_is_read ty.Text (Text t) value fits other = (value, λ e. other (ap Text e), refl)
printed_is_read ty.Date (Text t) value fits other = (fits, refl)
