-- Names and texts in quotes.
use Rattle.std.specs.Prelude.{ℕ, ◌+◌, Bool, true, false, not, ◌&&◌, ◌==◌, nat_le, List, [], ◌∷◌, length, take, Option, Some, None, option_map, if◌then◌else◌}
use Rattle.std.specs.Char.{is_ascii_digit}
use Rattle.std.specs.List.{list_all, position}
use Rattle.std.specs.Str.{is_utf8}
use Rattle.sql_tokens.specs.declared.kind.Kind.TheVariants as k
use Rattle.query_faults.specs.declared.sql.SqlKind.TheVariants.{BadToken}
use Rattle.sql_tokens.specs.declared.payload.Payload.TheVariants.{Name, Text}
use Rattle.sql_tokens.specs.declared.lexeme.Lexeme.{Lexeme}
use Rattle.sql_tokens.specs.declared.lexeme.Lexeme.TheVariants.{Bad, Token}
use Rattle.sql_tokens.specs.Words.{is_word_byte, upper}

-- ---- names

abbrev pub is_double_quote : ℕ → Bool
is_double_quote b = b == 34

-- a letter or an underscore, then letters, digits and underscores, at most 64 bytes
abbrev pub is_name : List ℕ → Bool
is_name [] = false
is_name (b ∷ bs) = not (is_ascii_digit b) && (list_all is_word_byte (b ∷ bs) && nat_le (length (b ∷ bs)) 64)

-- the name in front of a double quote, so many bytes behind the one that opens it
abbrev pub name_lexeme : Option ℕ → List ℕ → Lexeme
name_lexeme None rest = Bad BadToken
name_lexeme (Some n) rest = if is_name (take n rest) then Token k.Name (Name (upper (take n rest))) (n + 2) else Bad BadToken

-- a name in double quotes, of which this stands behind the first one
unfoldable pub name_at : List ℕ → Lexeme
name_at rest = name_lexeme (position is_double_quote rest) rest

-- ---- texts

-- a text as it is written between its quotes: each quote in it twice
abbrev pub doubled : List ℕ → List ℕ
doubled [] = []
doubled (b ∷ bs) = if b == 39 then 39 ∷ (39 ∷ doubled bs) else b ∷ doubled bs

abbrev pub put : ℕ → Option (List ℕ) → Option (List ℕ)
put b text = option_map (λ (bs : List ℕ). b ∷ bs) text

-- The text that ends at the first quote which is followed by no other one; none where no quote ends it. The first argument says whether a
-- quote has just been passed, which ends the text unless another one follows.
abbrev pub text_behind : Bool → List ℕ → Option (List ℕ)
text_behind false [] = None
text_behind true [] = Some []
text_behind false (b ∷ bs) = if b == 39 then text_behind true bs else put b (text_behind false bs)
text_behind true (b ∷ bs) = if b == 39 then put 39 (text_behind false bs) else Some []

-- at most 255 bytes of UTF-8
abbrev pub is_text : List ℕ → Bool
is_text text = nat_le (length text) 255 && is_utf8 text

abbrev pub text_lexeme : Option (List ℕ) → Lexeme
text_lexeme None = Bad BadToken
text_lexeme (Some text) = if is_text text then Token k.Text (Text text) (length (doubled text) + 2) else Bad BadToken

-- a text in quotes, of which this stands behind the first one
unfoldable pub text_at : List ℕ → Lexeme
text_at rest = text_lexeme (text_behind false rest)
