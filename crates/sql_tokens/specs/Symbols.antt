-- Symbols: one byte, or two.
use Rattle.std.specs.Prelude.{ℕ, ◌&&◌, ◌==◌, List, [], ◌∷◌, Option, Some, None, if◌then◌else◌}
use Rattle.sql_tokens.specs.declared.kind.Kind.{Kind}
use Rattle.sql_tokens.specs.declared.kind.Kind.TheVariants as k
use Rattle.query_faults.specs.declared.sql.SqlKind.TheVariants.{BadToken}
use Rattle.sql_tokens.specs.declared.payload.Payload.TheVariants.{Nothing}
use Rattle.sql_tokens.specs.declared.lexeme.Lexeme.{Lexeme}
use Rattle.sql_tokens.specs.declared.lexeme.Lexeme.TheVariants.{Bad, Token}

abbrev pub pair_of : ℕ → ℕ → Option Kind
pair_of a b =
    if a == 60 && b == 62 then Some k.NotEqual else (
    if a == 33 && b == 61 then Some k.NotEqual else (
    if a == 60 && b == 61 then Some k.LessEqual else (
    if a == 62 && b == 61 then Some k.GreaterEqual else None)))

abbrev pub single_of : ℕ → Option Kind
single_of b =
    if b == 44 then Some k.Comma else (
    if b == 40 then Some k.Open else (
    if b == 41 then Some k.Close else (
    if b == 42 then Some k.Star else (
    if b == 59 then Some k.Semicolon else (
    if b == 46 then Some k.Dot else (
    if b == 43 then Some k.Plus else (
    if b == 45 then Some k.Minus else (
    if b == 61 then Some k.Equal else (
    if b == 60 then Some k.Less else (
    if b == 62 then Some k.Greater else None))))))))))

abbrev pub single_lexeme : Option Kind → Lexeme
single_lexeme None = Bad BadToken
single_lexeme (Some kind) = Token kind Nothing 1

abbrev pub pair_lexeme : Option Kind → ℕ → Lexeme
pair_lexeme None a = single_lexeme (single_of a)
pair_lexeme (Some kind) a = Token kind Nothing 2

-- the longest symbol in front
unfoldable pub symbol_at : List ℕ → Lexeme
symbol_at [] = Bad BadToken
symbol_at (a ∷ []) = single_lexeme (single_of a)
symbol_at (a ∷ (b ∷ bs)) = pair_lexeme (pair_of a b) a
