-- What jobs read: the tables of their snapshots, and the loads that these come from.
use Rattle.std.specs.Prelude.{◌≡◌, ◌==◌, ℕ, true, List, [], ◌∷◌, All, Contains, Some, is_some, length, slice_get, unwrap_or, if◌then◌else◌}
use Rattle.std.specs.List.{flat_map}
use Rattle.run_history.specs.Commands.{Command, Turn}
use Rattle.run_history.specs.Commands.Command.{Load}
use Rattle.run_history.specs.Commands.Turn.{Takes}
use Rattle.run_history.specs.Cubes.{Rows}
use Rattle.run_history.specs.World.{Submitted, World, in_force}

module _ {Query : Type 0} where
  -- each table was loaded
  abbrev pub AreLoaded : World Query → Type 0
  AreLoaded w = All (λ rows. is_some rows ≡ true) w.loaded

  -- the tables of a job's snapshot: those of its first claim, and before that the tables in force
  abbrev pub tables_of : World Query → Submitted → List Rows
  tables_of w s = unwrap_or s.tables (in_force w)

  -- the rows that a command loads into the table of a place
  abbrev pub loaded_into : ℕ → Command Query → List Rows
  loaded_into place (Load table rows) = if table == place then rows ∷ [] else []
  loaded_into place _ = []

  abbrev pub loads_in : ℕ → Turn Query → List Rows
  loads_in place (Takes line command) = loaded_into place command
  loads_in place _ = []

  -- the rows of each load of the table of a place
  abbrev pub loads_of : ℕ → List (Turn Query) → List Rows
  loads_of place turns = flat_map (loads_in place) turns

  -- so many tables, of which each has the rows of a load of its place
  pub record AreFromLoads (turns : List (Turn Query)) (count : ℕ) (tables : List Rows) : Type 0 where
    pub all : length tables ≡ count
    pub each : (place : ℕ) (rows : Rows) → slice_get tables place ≡ Some rows → Contains (loads_of place turns) rows
