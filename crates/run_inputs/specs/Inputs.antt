-- What a run is given, and the first fault of the files where they give nothing.
use Rattle.std.specs.Prelude.{◌≡◌, ◌⊎◌, ℕ, List, [], ◌∷◌, Option}
use Rattle.std.specs.List.{AllZip, flat_map}
use Rattle.cube_val.specs.declared.val.Val.{Val}
use Rattle.fault_lines.specs.Files.{IsFileAt, most_bytes}
use Rattle.fixed_cube.specs.Columns.{fact_columns, row_limit}
use Rattle.fixed_cube.specs.Form.{fact_form}
use Rattle.fixed_script.specs.Scripts.{IsFixedScript, IsNoFixedScript}
use Rattle.outside.specs.Contents.{IsLongerAt, IsNotLongerAt, Paths}
use Rattle.script_text.specs.declared.verb.Line.{Line}
use Rattle.script_text.specs.declared.verb.Verb.{Verb}
use Rattle.script_text.specs.declared.verb.Verb.TheVariants as verb
use Rattle.step_fields.specs.Fits.{FitsRows}
use Rattle.table_reader.specs.Tables.{IsFaultOf, IsTableOf}
use Rattle.run_inputs.specs.declared.fault.InputFault.{InputFault}
use Rattle.run_inputs.specs.declared.fault.InputFault.TheVariants.{BadScript, BadTable, ReadFault, TooLarge}
use Rattle.run_inputs.specs.declared.inputs.FixedInputs.{FixedInputs}
use Rattle.run_inputs.specs.declared.inputs.LoadedTable.{LoadedTable}

abbrev pub IsScriptAt : Option Paths → List ℕ → List Line → Type 0
IsScriptAt contents path script = IsFileAt contents path (λ bytes. IsFixedScript bytes script)

abbrev pub IsTableAt : Option Paths → List ℕ → List (List Val) → Type 0
IsTableAt contents path rows = IsFileAt contents path (λ bytes. IsTableOf fact_form bytes rows)

-- ---- the files that a script loads

-- the path of a line that loads, with the line's number
abbrev pub load_of : ℕ → Verb → List (ℕ × List ℕ)
load_of line (verb.Load name path) = (line, path) ∷ []
load_of line _ = []

abbrev pub loads_of : List Line → List (ℕ × List ℕ)
loads_of script = flat_map (λ line. load_of line.number line.verb) script

-- the rows of a load are those of the file at its path
abbrev pub IsLoadedAt : Option Paths → ℕ × List ℕ → LoadedTable → Type 0
IsLoadedAt contents load table = (table.line ≡ load.0) × IsTableAt contents load.1 table.rows

-- the script of the file at the path, and the rows of each of its loads in their order
pub record AreInputsAt (contents : Option Paths) (path : List ℕ) (inputs : FixedInputs) : Type 0 where
  pub script : IsScriptAt contents path inputs.script
  pub tables : AllZip (IsLoadedAt contents) (loads_of inputs.script) inputs.tables

-- the rows of a load may stand in a task
abbrev pub HasFittingRows : LoadedTable → Type 0
HasFittingRows table = FitsRows fact_columns row_limit table.rows

-- ---- faults

-- the file at a path isn't read, is too large, or is no script
abbrev pub IsScriptFault : Option Paths → List ℕ → InputFault → Type 0
IsScriptFault contents path (ReadFault at) = (at ≡ path) × IsNotLongerAt contents path most_bytes
IsScriptFault contents path (TooLarge at) = (at ≡ path) × IsLongerAt contents path most_bytes
IsScriptFault contents path (BadScript line) = IsFileAt contents path (λ bytes. IsNoFixedScript bytes line)
IsScriptFault contents path (BadTable at fault) = ⊥

-- the file at a path isn't read, is too large, or is no table
abbrev pub IsTableFault : Option Paths → List ℕ → InputFault → Type 0
IsTableFault contents path (ReadFault at) = (at ≡ path) × IsNotLongerAt contents path most_bytes
IsTableFault contents path (TooLarge at) = (at ≡ path) × IsLongerAt contents path most_bytes
IsTableFault contents path (BadScript line) = ⊥
IsTableFault contents path (BadTable at fault) = (at ≡ path) × IsFileAt contents path (λ bytes. IsFaultOf fact_form bytes fault)

-- the file of the first load that is no table has this fault
abbrev pub IsLoadFault : Option Paths → List (ℕ × List ℕ) → InputFault → Type 0
IsLoadFault contents [] fault = ⊥
IsLoadFault contents (load ∷ loads) fault =
    IsTableFault contents load.1 fault ⊎ (((rows : List (List Val)) × IsTableAt contents load.1 rows) × IsLoadFault contents loads fault)

-- the first fault: that of the script's file, or else that of a load
abbrev pub IsInputFault : Option Paths → List ℕ → InputFault → Type 0
IsInputFault contents path fault =
    IsScriptFault contents path fault ⊎ ((script : List Line) × IsScriptAt contents path script × IsLoadFault contents (loads_of script) fault)
