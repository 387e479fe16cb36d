-- The texts of numbers.
use Rattle.std.specs.Prelude.{◌≡◌, ◌≤◌, ◌+◌, ◌*◌, ◌/◌, ◌%◌, ◌++◌, ℕ, suc, ℤ, pos, negsuc, neg_ℤ, List, [], ◌∷◌, All, length, take, drop, codes, FitsSigned}
use Rattle.std.specs.Int.{w64}
use Rattle.std.specs.Fmt.{decimal}
use Rattle.std.specs.Str.Parse.{AllDigits, IsNumeral, digits_value}

-- the sign before a number, or none
pub data Sign : Type 0 where
  none : Sign
  plus : Sign
  minus : Sign

-- how a sign is written
abbrev pub sign_text : Sign → List ℕ
sign_text none = []
sign_text plus = codes "+"
sign_text minus = codes "-"

-- the number of this size under a sign
abbrev pub signed : Sign → ℕ → ℤ
signed none size = pos size
signed plus size = pos size
signed minus size = neg_ℤ (pos size)

-- 1 to 20 digits
pub record IsWhole (digits : List ℕ) : Type 0 where
  pub numeral : IsNumeral 10 digits
  pub short : length digits ≤ 20

-- the bytes write a whole number: a sign or none, and 1 to 20 digits, with the value in an i64
pub record WritesInt (bytes : List ℕ) (n : ℤ) : Type 0 where
  pub sign : Sign
  pub digits : List ℕ
  pub spelling : bytes ≡ sign_text sign ++ digits
  pub whole : IsWhole digits
  pub value : n ≡ signed sign (digits_value 10 digits)
  pub fits : FitsSigned w64 n

-- a point and the digits after it, or nothing where there are none
abbrev pub with_point : List ℕ → List ℕ
with_point [] = []
with_point (digit ∷ digits) = codes "." ++ digit ∷ digits

-- at most 18 digits, and those past the fourth are 0
pub record IsFraction (digits : List ℕ) : Type 0 where
  pub all_digits : AllDigits 10 digits
  pub short : length digits ≤ 18
  pub zeros : All (λ digit. digit ≡ 48) (drop 4 digits)

-- the first four digits after the point, filled up with zeros
abbrev pub four_places : List ℕ → List ℕ
four_places digits = take 4 (digits ++ codes "0000")

-- the bytes write a decimal, whose value counts units of 1/10000: a sign or none, 1 to 20 digits, and a point and 1 to 18
-- digits or neither, with the value in an i64
pub record WritesDecimal (bytes : List ℕ) (units : ℤ) : Type 0 where
  pub sign : Sign
  pub whole : List ℕ
  pub fraction : List ℕ
  pub spelling : bytes ≡ sign_text sign ++ (whole ++ with_point fraction)
  pub is_whole : IsWhole whole
  pub is_fraction : IsFraction fraction
  pub value : units ≡ signed sign (digits_value 10 whole * 10_000 + digits_value 10 (four_places fraction))
  pub fits : FitsSigned w64 units

-- the four digits of a number below 10000
abbrev pub four_digits : ℕ → List ℕ
four_digits n = (48 + n / 1_000) ∷ (48 + n / 100 % 10) ∷ (48 + n / 10 % 10) ∷ (48 + n % 10) ∷ []

-- so many units of 1/10000, with four digits after the point
abbrev pub units_text : ℕ → List ℕ
units_text units = decimal (units / 10_000) ++ (codes "." ++ four_digits (units % 10_000))

-- the same under a sign where the number is below 0
abbrev pub decimal_text : ℤ → List ℕ
decimal_text (pos units) = units_text units
decimal_text (negsuc units) = codes "-" ++ units_text (suc units)
