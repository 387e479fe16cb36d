-- The file that `fold` reads.
use Rattle.std.specs.Prelude.{ℕ, List, Option}
use Rattle.cube_val.specs.declared.val.Val.{Val}
use Rattle.fault_lines.specs.Files.{IsFileAt, TellsFileAt}
use Rattle.outside.specs.Contents.{Paths}
use Rattle.table_reader.specs.declared.fault.TableFault.{TableFault}
use Rattle.cubes_plain.specs.Tables.{IsFoldFault, IsFoldTable}

-- the bytes of the file are not too many and are a table, with these rows; they stand at the path, where the contents are told
abbrev pub AcceptedAt : Option Paths → List ℕ → List (List Val) → Type 0
AcceptedAt contents path rows = IsFileAt contents path (λ bytes. IsFoldTable bytes rows)

-- .. and have this as their first fault
abbrev pub FaultyAt : Option Paths → List ℕ → TableFault → Type 0
FaultyAt contents path fault = IsFileAt contents path (λ bytes. IsFoldFault bytes fault)

-- the contents are told, and the file at the path is not too large and is a table, with these rows
abbrev pub TellsAcceptedAt : Option Paths → List ℕ → List (List Val) → Type 0
TellsAcceptedAt contents path rows = TellsFileAt contents path (λ bytes. IsFoldTable bytes rows)

-- .. and has this as its first fault
abbrev pub TellsFaultyAt : Option Paths → List ℕ → TableFault → Type 0
TellsFaultyAt contents path fault = TellsFileAt contents path (λ bytes. IsFoldFault bytes fault)
