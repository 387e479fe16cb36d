-- The records of a file, each a list of fields, as `csv` reads them with its default settings after a byte order mark.
use Rattle.std.specs.Prelude.{ℕ, List}
use Rattle.csv.specs.Reading.{AreRecords, Reached, default_config, strip_bom}
use Rattle.csv.specs.declared.parser.State.{State}
use Rattle.csv.specs.declared.parser.State.TheVariants as st

-- these are all the records of a file
abbrev pub HasRecords : List ℕ → List (List (List ℕ)) → Type 0
HasRecords bytes records = AreRecords default_config st.StartRecord (strip_bom bytes) records

-- a file begins with these records, whatever follows
abbrev pub BeginsWith : List ℕ → List (List (List ℕ)) → Type 0
BeginsWith bytes records = (s : State) × (left : List ℕ) × Reached default_config st.StartRecord (strip_bom bytes) records s left
