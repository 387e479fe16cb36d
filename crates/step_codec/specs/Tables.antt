-- The columns of a table and its primary key.
use Rattle.std.specs.Prelude.{◌<◌, ℕ, List, length}
use Rattle.std.specs.List.{AllByRecursion}
use Rattle.step_fields.specs.declared.column.Column.{Column}

pub record TableShape : Type 0 where
  pub columns : List Column
  -- the places of the key's columns
  pub key : List ℕ

-- the columns of the key are among the table's
abbrev pub IsTableShape : List Column → List ℕ → Type 0
IsTableShape columns key = AllByRecursion (λ place. place < length columns) key
