-- What a line keeps of a row.
use Rattle.std.specs.Prelude.{All}
use Rattle.std.specs.Arc.{arc_value}
use Rattle.version_row.specs.Rows.{IsOf, Row}
use Rattle.set_check.specs.declared.rows.Reader.{Reader}

-- the tokens and the session are of the row
pub record IsReader (row : Row) (reader : Reader) : Type 0 where
  pub tokens : All (λ token. IsOf row (arc_value token)) reader.tokens.items
  pub session : IsOf row reader.session
