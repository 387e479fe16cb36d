-- Bytes write one value of a type.
use Rattle.std.proofs.Common.{◌≡◌, ◌≢◌, ◌<◌, ◌++◌, ℕ, ℤ, List, [], ◌∷◌, get_or, arith, lit<, refl, sym, ap, ◌∙◌}
use Rattle.std.specs.Int.{IsInRange}
use Rattle.std.specs.Str.Parse.{digits_value}
use Rattle.cube_val.specs.declared.val.ColType.{ColType}
use Rattle.cube_val.specs.declared.val.ColType.TheVariants as ty
use Rattle.cube_val.specs.declared.val.Val.{Val}
use Rattle.cube_val.specs.declared.val.Val.TheVariants.{Null, Int, Text}
use Rattle.cube_val.specs.Laws.{TextsHaveOneValue}
use Rattle.cube_val.specs.Numbers.{Sign, none, plus, minus, sign_text, with_point, WritesDecimal, WritesInt}
use Rattle.cube_val.specs.Texts.{null_text}
use Rattle.cube_val.specs.Values.{FitsType, IsValue, Writes}
use Rattle.cube_val.proofs.Dates.{date_is_not_null, date_is_text}
use Rattle.cube_val.proofs.Decimals.{decimal_parts, one_number}
use Rattle.cube_val.proofs.Digits.{first_of}
use Rattle.cube_val.proofs.Signs.{split_is, the_split}
use Rattle.cube_val.specs.Splits.{signed_by}
use Rattle.std.proofs.lemmas.List.{append-nil}

one_int : (bytes : List ℕ) (n m : ℤ) → WritesInt bytes n → WritesInt bytes m → n ≡ m
one_int bytes n m g h =
    let s = the_split bytes in
    let a = split_is bytes _ _ s g.sign g.digits g.spelling (first_of g.digits g.whole.numeral) in
    let b = split_is bytes _ _ s h.sign h.digits h.spelling (first_of h.digits h.whole.numeral) in
    let digits : g.digits ≡ h.digits = sym a.rest_is ∙ b.rest_is in
    g.value ∙ a.same _ ∙ ap (λ ds. signed_by _ (digits_value 10 ds)) digits ∙ sym (b.same _) ∙ sym h.value

-- a number begins with a byte below that of a backslash
first_below : (sign : Sign) (ds rest : List ℕ) → IsInRange 48 57 (get_or ds 0 0) → get_or (sign_text sign ++ (ds ++ rest)) 0 0 < 92
first_below none [] rest digit = absurd (omega (arith, digit.0))
first_below none (d ∷ ds) rest digit = omega (arith, digit.1)
first_below plus ds rest digit = lit< tt
first_below minus ds rest digit = lit< tt

not_null : (bytes : List ℕ) → get_or bytes 0 0 < 92 → bytes ≢ null_text
not_null bytes below e = let first : get_or bytes 0 0 ≡ 92 = ap (λ (bs : List ℕ). get_or bs 0 0) e in omega (arith, below, first)

int_is_not_null : (n : ℤ) → WritesInt null_text n → ⊥
int_is_not_null n w =
    let below : get_or (sign_text w.sign ++ w.digits) 0 0 < 92 = rw append-nil at (first_below w.sign w.digits [] (first_of w.digits w.whole.numeral)) in
    not_null _ below (sym w.spelling)

decimal_is_not_null : (n : ℤ) → WritesDecimal null_text n → ⊥
decimal_is_not_null n w = not_null _ (first_below w.sign w.whole (with_point w.fraction) (first_of w.whole w.is_whole.numeral)) (sym w.spelling)

one_decimal : (bytes : List ℕ) (n m : ℤ) → WritesDecimal bytes n → WritesDecimal bytes m → n ≡ m
one_decimal bytes n m g h =
    let split = the_split bytes in
    one_number _ _ n m (decimal_parts bytes _ _ split n g) (decimal_parts bytes _ _ split m h)

-- no value but null is written by the text of a null
only_null : (t : ColType) (v : Val) → Writes t null_text v → Null ≡ v
only_null t Null h = refl
only_null ty.Int (Int n) h = absurd (int_is_not_null n h)
only_null ty.Decimal (Int n) h = absurd (decimal_is_not_null n h)
only_null ty.Text (Int n) h = absurd h
only_null ty.Date (Int n) h = absurd h
only_null ty.Int (Text t) h = absurd h
only_null ty.Decimal (Text t) h = absurd h
only_null ty.Text (Text t) h = absurd (h.1 refl)
only_null ty.Date (Text t) h = absurd (date_is_not_null null_text h.0 refl)

pub one_value : TextsHaveOneValue
one_value t bytes Null w g h = only_null t w (rw g at h)
one_value t bytes (Int n) Null g h = sym (only_null t (Int n) (rw h at g))
one_value t bytes (Text u) Null g h = sym (only_null t (Text u) (rw h at g))
one_value ty.Int bytes (Int n) (Int m) g h = ap Int (one_int bytes n m g h)
one_value ty.Decimal bytes (Int n) (Int m) g h = ap Int (one_decimal bytes n m g h)
one_value ty.Text bytes (Int n) (Int m) g h = absurd g
one_value ty.Date bytes (Int n) (Int m) g h = absurd g
one_value ty.Int bytes (Int n) (Text u) g h = absurd h
one_value ty.Decimal bytes (Int n) (Text u) g h = absurd h
one_value ty.Text bytes (Int n) (Text u) g h = absurd g
one_value ty.Date bytes (Int n) (Text u) g h = absurd g
one_value ty.Int bytes (Text u) (Int m) g h = absurd g
one_value ty.Decimal bytes (Text u) (Int m) g h = absurd g
one_value ty.Text bytes (Text u) (Int m) g h = absurd h
one_value ty.Date bytes (Text u) (Int m) g h = absurd h
one_value ty.Int bytes (Text u) (Text w) g h = absurd g
one_value ty.Decimal bytes (Text u) (Text w) g h = absurd g
one_value ty.Text bytes (Text u) (Text w) g h = ap Text (g.2 ∙ sym h.2)
one_value ty.Date bytes (Text u) (Text w) g h = ap Text (g.1 ∙ sym h.1)

-- what bytes write fits the type, and is a value of a program
pub written_fits : (t : ColType) (bytes : List ℕ) (v : Val) → Writes t bytes v → FitsType t v
written_fits t bytes Null w = tt
written_fits ty.Int bytes (Int n) w = tt
written_fits ty.Decimal bytes (Int n) w = tt
written_fits ty.Text bytes (Int n) w = w
written_fits ty.Date bytes (Int n) w = w
written_fits ty.Int bytes (Text t) w = w
written_fits ty.Decimal bytes (Text t) w = w
written_fits ty.Text bytes (Text t) w = tt
written_fits ty.Date bytes (Text t) w = rw w.1 w.0

pub written_is_value : (t : ColType) (bytes : List ℕ) (v : Val) → Writes t bytes v → IsValue v
written_is_value t bytes Null w = tt
written_is_value ty.Int bytes (Int n) w = w.fits
written_is_value ty.Decimal bytes (Int n) w = w.fits
written_is_value ty.Text bytes (Int n) w = absurd w
written_is_value ty.Date bytes (Int n) w = absurd w
written_is_value ty.Int bytes (Text t) w = absurd w
written_is_value ty.Decimal bytes (Text t) w = absurd w
written_is_value ty.Text bytes (Text t) w = rw w.2 w.0
written_is_value ty.Date bytes (Text t) w = rw w.1 (date_is_text bytes w.0)
