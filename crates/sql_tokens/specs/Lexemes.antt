-- What stands in front of a text, by its first byte.
use Rattle.std.specs.Prelude.{ℕ, ◌==◌, List, [], ◌∷◌, if◌then◌else◌}
use Rattle.std.specs.Char.{is_ascii_digit}
use Rattle.sql_tokens.specs.declared.lexeme.Lexeme.{Lexeme}
use Rattle.sql_tokens.specs.declared.lexeme.Lexeme.TheVariants.{End}
use Rattle.sql_tokens.specs.Words.{is_word_byte, word_at}
use Rattle.sql_tokens.specs.Numbers.{number_at}
use Rattle.sql_tokens.specs.Quotes.{name_at, text_at}
use Rattle.sql_tokens.specs.Symbols.{symbol_at}

-- what stands in front of a text that begins with no blank
unfoldable pub next_at : List ℕ → Lexeme
next_at [] = End
next_at (b ∷ bs) =
    if is_ascii_digit b then number_at (b ∷ bs) else (
    if is_word_byte b then word_at (b ∷ bs) else (
    if b == 34 then name_at bs else (
    if b == 39 then text_at bs else symbol_at (b ∷ bs))))
