-- Words: names without quotes, and keywords.
use Rattle.std.specs.Prelude.{ℕ, Bool, ◌||◌, ◌==◌, nat_eq, nat_le, List, length, map, codes, Option, Some, None, if◌then◌else◌}
use Rattle.std.specs.Char.{is_ascii_alphanumeric, to_ascii_uppercase}
use Rattle.std.specs.Cmp.Lexicographic.{pointwise}
use Rattle.std.specs.List.{take_while}
use Rattle.std.specs.Option.{option_or}
use Rattle.sql_tokens.specs.declared.kind.Kind.{Kind}
use Rattle.sql_tokens.specs.declared.kind.Kind.TheVariants as k
use Rattle.query_faults.specs.declared.sql.SqlKind.TheVariants.{BadToken}
use Rattle.sql_tokens.specs.declared.payload.Payload.TheVariants.{Nothing, Name}
use Rattle.sql_tokens.specs.declared.lexeme.Lexeme.{Lexeme}
use Rattle.sql_tokens.specs.declared.lexeme.Lexeme.TheVariants.{Bad, Token}

-- a letter, a digit or an underscore
abbrev pub is_word_byte : ℕ → Bool
is_word_byte b = is_ascii_alphanumeric b || b == 95

abbrev pub upper : List ℕ → List ℕ
upper bytes = map to_ascii_uppercase bytes

abbrev pub is : List ℕ → List ℕ → Bool
is word other = pointwise nat_eq word other

abbrev pub clause_word : List ℕ → Option Kind
clause_word w =
    if is w (codes "SELECT") then Some k.Select else (
    if is w (codes "FROM") then Some k.From else (
    if is w (codes "WHERE") then Some k.Where else (
    if is w (codes "GROUP") then Some k.Group else (
    if is w (codes "BY") then Some k.By else (
    if is w (codes "HAVING") then Some k.Having else (
    if is w (codes "ORDER") then Some k.Order else (
    if is w (codes "LIMIT") then Some k.Limit else None)))))))

abbrev pub item_word : List ℕ → Option Kind
item_word w =
    if is w (codes "AS") then Some k.As else (
    if is w (codes "ASC") then Some k.Asc else (
    if is w (codes "DESC") then Some k.Desc else (
    if is w (codes "COUNT") then Some k.Count else (
    if is w (codes "DISTINCT") then Some k.Distinct else (
    if is w (codes "SUM") then Some k.Sum else (
    if is w (codes "MIN") then Some k.Min else (
    if is w (codes "MAX") then Some k.Max else (
    if is w (codes "AVG") then Some k.Avg else None))))))))

abbrev pub join_word : List ℕ → Option Kind
join_word w =
    if is w (codes "INNER") then Some k.Inner else (
    if is w (codes "LEFT") then Some k.Left else (
    if is w (codes "OUTER") then Some k.Outer else (
    if is w (codes "JOIN") then Some k.Join else (
    if is w (codes "ON") then Some k.On else None))))

abbrev pub condition_word : List ℕ → Option Kind
condition_word w =
    if is w (codes "OR") then Some k.Or else (
    if is w (codes "AND") then Some k.And else (
    if is w (codes "NOT") then Some k.Not else (
    if is w (codes "IN") then Some k.In else (
    if is w (codes "BETWEEN") then Some k.Between else (
    if is w (codes "IS") then Some k.Is else (
    if is w (codes "NULL") then Some k.Null else (
    if is w (codes "DATE") then Some k.Date else None)))))))

-- the keyword that is written so in upper case, or none
unfoldable pub keyword : List ℕ → Option Kind
keyword w = option_or (option_or (clause_word w) (item_word w)) (option_or (join_word w) (condition_word w))

-- a word is a keyword, or else a name in upper case
abbrev pub word_lexeme : Option Kind → List ℕ → ℕ → Lexeme
word_lexeme None w len = Token k.Name (Name w) len
word_lexeme (Some word) w len = Token word Nothing len

abbrev pub word_of : List ℕ → Lexeme
word_of word = if nat_le (length word) 64 then word_lexeme (keyword (upper word)) (upper word) (length word) else Bad BadToken

-- the longest word in front
unfoldable pub word_at : List ℕ → Lexeme
word_at text = word_of (take_while is_word_byte text)
