-- Numbers.
use Rattle.std.specs.Prelude.{ℕ, ◌+◌, ◌*◌, ◌&&◌, ◌==◌, nat_eq, nat_lt, nat_le, List, [], ◌∷◌, length, drop, codes, Option, Some, None, if◌then◌else◌}
use Rattle.std.specs.Char.{is_ascii_digit}
use Rattle.std.specs.Cmp.Lexicographic.{pointwise}
use Rattle.std.specs.List.{take_while}
use Rattle.std.specs.Str.Parse.{digits_value}
use Rattle.cube_val.specs.Numbers.{four_places}
use Rattle.sql_tokens.specs.declared.kind.Kind.TheVariants as k
use Rattle.query_faults.specs.declared.sql.SqlKind.TheVariants.{BadNumber}
use Rattle.sql_tokens.specs.declared.payload.Payload.TheVariants.{Rows, Units}
use Rattle.sql_tokens.specs.declared.lexeme.Lexeme.{Lexeme}
use Rattle.sql_tokens.specs.declared.lexeme.Lexeme.TheVariants.{Bad, Token}

-- the digits behind a point that stands in front, which may be none, or none where no point does
abbrev pub places_behind : List ℕ → Option (List ℕ)
places_behind [] = None
places_behind (b ∷ bs) = if b == 46 then Some (take_while is_ascii_digit bs) else None

-- 1 to 30 digits without a point
abbrev pub whole_lexeme : List ℕ → Lexeme
whole_lexeme digits =
    if pointwise nat_eq digits (codes "1") then Token k.One (Rows 1) 1 else (
    if nat_le (length digits) 9 then Token k.Whole (Rows (digits_value 10 digits)) (length digits) else (
    if nat_le (length digits) 30 then Token k.Number (Units (digits_value 10 digits * 10_000)) (length digits) else Bad BadNumber))

-- 1 to 30 digits, a point, and 1 to 4 digits
abbrev pub decimal_lexeme : List ℕ → List ℕ → Lexeme
decimal_lexeme digits places =
    if nat_le (length digits) 30 && (nat_lt 0 (length places) && nat_le (length places) 4) then Token k.Number (Units (digits_value 10 digits * 10_000 + digits_value 10 (four_places places))) (length digits + 1 + length places) else Bad BadNumber

abbrev pub number_of : List ℕ → Option (List ℕ) → Lexeme
number_of digits None = whole_lexeme digits
number_of digits (Some places) = decimal_lexeme digits places

-- the digits in front, with their point and the digits behind that
unfoldable pub number_at : List ℕ → Lexeme
number_at text = let digits = take_while is_ascii_digit text in number_of digits (places_behind (drop (length digits) text))
