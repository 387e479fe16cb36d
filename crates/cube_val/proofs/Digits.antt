-- Digits and the numbers that they write.
use Rattle.std.proofs.Common.{◌≡◌, ◌<◌, ◌≤◌, ◌+◌, ◌*◌, ◌-◌, ◌^◌, ◌∙◌, ◌&&◌, ◌++◌, ℕ, Bool, true, List, [], ◌∷◌, length, take, get_or, arith, ap, refl}
use Rattle.std.specs.List.{list_all}
use Rattle.std.specs.Int.{IsInRange}
use Rattle.std.specs.Char.{digit_value, is_ascii_digit}
use Rattle.std.specs.Str.Parse.{AllDigits, IsNumeral, digits_value}
use Rattle.std.proofs.lemmas.Bool.Decides.{nat_tests}
use Rattle.std.proofs.lemmas.Str.Parse.{digit_at, digit_from_value, digits_value-take-le, digits_value_short, numerals_by_value, tells_digits}
use Rattle.std.proofs.lemmas.Int.Digits.{digits_value_more}

-- the value of a byte that is a digit
pub digit_value_is : (c : ℕ) → IsInRange 48 57 c → digit_value c ≡ c - 48
digit_value_is c h = grind (arith, nat_tests)

digit_from_test : (c : ℕ) → is_ascii_digit c ≡ true → digit_value c < 10
digit_from_test c h = grind (arith, nat_tests)

test_from_digit : (c : ℕ) → IsInRange 48 57 c → is_ascii_digit c ≡ true
test_from_digit c h = grind (arith, nat_tests)

both : (a b : Bool) → (a && b) ≡ true → (a ≡ true) × (b ≡ true)
both a b h = grind (arith, nat_tests)

pub digits_from_test : (ds : List ℕ) → list_all is_ascii_digit ds ≡ true → AllDigits 10 ds
digits_from_test [] h = tt
digits_from_test (c ∷ cs) h = let b = both _ _ h in (digit_from_test c b.0, digits_from_test cs b.1)

pub test_from_digits : (ds : List ℕ) → AllDigits 10 ds → list_all is_ascii_digit ds ≡ true
test_from_digits [] h = refl
test_from_digits (c ∷ cs) h = rw (test_from_digit c (digit_from_value c h.0), test_from_digits cs h.1) refl

pub value_below : (ds : List ℕ) (k : ℕ) → AllDigits 10 ds → length ds ≤ k → digits_value 10 ds < 10 ^ k
value_below ds k all few = digits_value_short (numerals_by_value (AllDigits 10) tells_digits) ds k all few

-- the next digit of a numeral: it is one, and with it the number is below the next power of ten
pub record Step (ds : List ℕ) (i : ℕ) : Type 0 where
  pub low : 48 ≤ get_or ds i 0
  pub high : get_or ds i 0 ≤ 57
  pub more : digits_value 10 (take (i + 1) ds) ≡ digits_value 10 (take i ds) * 10 + (get_or ds i 0 - 48)
  pub small : digits_value 10 (take (i + 1) ds) < 10 ^ 24

pub step_at : (ds : List ℕ) (i : ℕ) → AllDigits 10 ds → length ds ≤ 24 → i < length ds → Step ds i
step_at ds i all few within =
    let digit = digit_at ds i all within in
    let total = value_below ds 24 all few in
    let part = digits_value-take-le 10 ds (i + 1) (omega arith) in
    record {
      low = digit.0;
      high = digit.1;
      more = digits_value_more 10 ds i within ∙ ap (λ n. digits_value 10 (take i ds) * 10 + n) (digit_value_is _ digit);
      small = omega arith;
    }

-- a numeral begins with a digit, whatever follows it
pub first_digit : (ds rest : List ℕ) → IsNumeral 10 ds → IsInRange 48 57 (get_or (ds ++ rest) 0 0)
first_digit [] rest h = absurd (omega (arith, h.0))
first_digit (d ∷ ds) rest h = digit_from_value d h.1.0

pub first_of : (ds : List ℕ) → IsNumeral 10 ds → IsInRange 48 57 (get_or ds 0 0)
first_of [] h = absurd (omega (arith, h.0))
first_of (d ∷ ds) h = digit_from_value d h.1.0
