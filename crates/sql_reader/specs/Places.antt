-- Where the reader of tokens stopped, as a place in the text.
use Rattle.std.specs.Prelude.{ℕ, ◌-◌, List, length, Option, Some, None, Result, Ok, Err, slice_get, option_map, nat_lt, if◌then◌else◌}
use Rattle.query_faults.specs.declared.sql.SqlFault.{SqlFault}
use Rattle.query_faults.specs.declared.sql.SqlKind.{SqlKind}
use Rattle.query_faults.specs.declared.sql.SqlKind.TheVariants as kinds
use Rattle.sql_tokens.specs.declared.token.Token.{Token}
use Rattle.sql_reader.specs.declared.stop.Stop.{Stop}
use Rattle.sql_reader.specs.declared.stop.Stop.TheVariants.{Unexpected, Barred}
use Rattle.sql_reader.specs.declared.stop.ReadError.{ReadError}
use Rattle.sql_reader.specs.declared.stop.ReadError.TheVariants as errors
use Rattle.sql_reader.specs.declared.sql.SqlRefusal.{SqlRefusal}
use Rattle.sql_reader.specs.declared.sql.SqlRefusal.TheVariants as refusals
use Rattle.sql_reader.specs.declared.stop.Bar.{Bar}
use Rattle.sql_reader.specs.declared.stop.Bar.TheVariants as bars

abbrev pub token_place : Token → ℕ
token_place t = t.place

-- the place of the token of which so many are left
abbrev pub place_left : List Token → ℕ → Option ℕ
place_left ts n = if nat_lt (length ts) n then None else option_map token_place (slice_get ts (length ts - n))

abbrev pub tokens_left : Stop → ℕ
tokens_left (Unexpected n) = n
tokens_left (Barred w n) = n

abbrev pub kind_of_bar : Bar → SqlKind
kind_of_bar bars.TooDeep = kinds.TooDeep
kind_of_bar bars.BadNumber = kinds.BadNumber

abbrev pub kind_of_stop : Stop → SqlKind
kind_of_stop (Unexpected n) = kinds.Unexpected
kind_of_stop (Barred w n) = kind_of_bar w

-- a token's place, else the place where none starts, else the end
abbrev pub fault_from : Option ℕ → Option SqlFault → ℕ → SqlKind → SqlFault
fault_from (Some place) bad end kind = record { place = place; kind = kind }
fault_from None (Some b) end kind = b
fault_from None None end kind = record { place = end; kind = kinds.Unexpected }

abbrev pub fault_at : List Token → Option SqlFault → ℕ → Stop → SqlFault
fault_at ts bad end stop = fault_from (place_left ts (tokens_left stop)) bad end (kind_of_stop stop)

-- what is answered where tokens were read so
abbrev pub answer_of : {A : Type 0} → Result A ReadError → List Token → Option SqlFault → ℕ → Result A SqlRefusal
answer_of (Ok x) ts None end = Ok x
answer_of (Ok x) ts (Some b) end = Err (refusals.Fault b)
answer_of (Err errors.Memory) ts bad end = Err refusals.Memory
answer_of (Err (errors.Stop stop)) ts bad end = Err (refusals.Fault (fault_at ts bad end stop))
