-- Values and their texts, by the type of their column.
use Rattle.std.specs.Prelude.{◌≡◌, ◌≢◌, ⊤, ℕ, List, FitsSigned}
use Rattle.std.specs.Int.{w64}
use Rattle.std.specs.Fmt.{signed_decimal}
use Rattle.calendar.specs.Dates.{IsDate}
use Rattle.cube_val.specs.declared.val.ColType.{ColType}
use Rattle.cube_val.specs.declared.val.ColType.TheVariants as ty
use Rattle.cube_val.specs.declared.val.Val.{Val}
use Rattle.cube_val.specs.declared.val.Val.TheVariants.{Null, Int, Text}
use Rattle.cube_val.specs.Numbers.{WritesDecimal, WritesInt, decimal_text}
use Rattle.cube_val.specs.Texts.{IsText, null_text}

-- these bytes write this value in a column of the type
abbrev pub Writes : ColType → List ℕ → Val → Type 0
Writes t bytes Null = bytes ≡ null_text
Writes ty.Int bytes (Int n) = WritesInt bytes n
Writes ty.Decimal bytes (Int n) = WritesDecimal bytes n
Writes ty.Text bytes (Text t) = IsText bytes × (bytes ≢ null_text) × (t ≡ bytes)
Writes ty.Date bytes (Text t) = IsDate bytes × (t ≡ bytes)
Writes t bytes v = ⊥

-- a value that may stand in a column of the type
abbrev pub FitsType : ColType → Val → Type 0
FitsType t Null = ⊤
FitsType ty.Int (Int n) = ⊤
FitsType ty.Decimal (Int n) = ⊤
FitsType ty.Text (Text t) = ⊤
FitsType ty.Date (Text t) = IsDate t
FitsType t v = ⊥

-- the text that is printed of a value in a column of the type
abbrev pub text_of : ColType → Val → List ℕ
text_of t Null = null_text
text_of ty.Decimal (Int n) = decimal_text n
text_of t (Int n) = signed_decimal n
text_of t (Text bytes) = bytes

-- what every value of a program keeps: a number is in an i64, and a text is at most 255 bytes of UTF-8
abbrev pub IsValue : Val → Type 0
IsValue Null = ⊤
IsValue (Int n) = FitsSigned w64 n
IsValue (Text t) = IsText t
