-- The limits of tables.
use Rattle.std.specs.Prelude.{ℕ}

-- the most rows of a table
abbrev pub row_limit : ℕ
row_limit = 200_000
