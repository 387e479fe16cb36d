-- What tokens stand for. What a token doesn't stand for is empty, or 0.
use Rattle.std.specs.Prelude.{ℕ, ◌*◌, ℤ, pos, neg_ℤ, Bool, true, false, List, []}
use Rattle.sql_tokens.specs.declared.payload.Payload.{Payload}
use Rattle.sql_tokens.specs.declared.payload.Payload.TheVariants.{Nothing, Name, Text, Rows, Units}

-- the number of this size, below zero where it is negative
abbrev pub signed : Bool → ℕ → ℤ
signed false size = pos size
signed true size = neg_ℤ (pos size)

-- the name
abbrev pub name_in : Payload → List ℕ
name_in Nothing = []
name_in (Name name) = name
name_in (Text text) = []
name_in (Rows rows) = []
name_in (Units units) = []

-- the text
abbrev pub text_in : Payload → List ℕ
text_in Nothing = []
text_in (Name name) = []
text_in (Text text) = text
text_in (Rows rows) = []
text_in (Units units) = []

-- the number, in units of 1/10000
abbrev pub units_in : Payload → ℕ
units_in Nothing = 0
units_in (Name name) = 0
units_in (Text text) = 0
units_in (Rows rows) = rows * 10_000
units_in (Units units) = units

-- the number that is whole and has at most nine digits
abbrev pub rows_in : Payload → ℕ
rows_in Nothing = 0
rows_in (Name name) = 0
rows_in (Text text) = 0
rows_in (Rows rows) = rows
rows_in (Units units) = 0
