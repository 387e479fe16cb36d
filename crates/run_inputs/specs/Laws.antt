-- What holds of all files whose contents are told.
use Rattle.std.specs.Prelude.{◌≡◌, ⊤, ℕ, List, Option, Some, None, Result, Ok, Err}
use Rattle.outside.specs.Contents.{Paths}
use Rattle.run_inputs.specs.Inputs.{AreInputsAt, IsInputFault}
use Rattle.run_inputs.specs.declared.fault.InputFault.{InputFault}
use Rattle.run_inputs.specs.declared.fault.InputFault.TheVariants.{BadScript, BadTable, ReadFault, TooLarge}
use Rattle.run_inputs.specs.declared.inputs.FixedInputs.{FixedInputs}

-- a file that isn't read isn't there
abbrev pub IsAbsent : Paths → InputFault → Type 0
IsAbsent paths (ReadFault at) = paths at ≡ None
IsAbsent paths (TooLarge at) = ⊤
IsAbsent paths (BadScript line) = ⊤
IsAbsent paths (BadTable at fault) = ⊤

-- the contents are told, and the files give this: where a fault of reading is the first fault, nothing stands at its path
abbrev pub TellsOutcomeAt : Option Paths → List ℕ → Result FixedInputs InputFault → Type 0
TellsOutcomeAt None path outcome = ⊥
TellsOutcomeAt (Some paths) path (Ok inputs) = AreInputsAt (Some paths) path inputs
TellsOutcomeAt (Some paths) path (Err fault) = IsInputFault (Some paths) path fault × IsAbsent paths fault

-- files whose contents are told give one script with its tables, or one first fault, and never both
abbrev pub FilesGiveOneOutcome : Type 0
FilesGiveOneOutcome =
    (contents : Option Paths) (path : List ℕ) (a b : Result FixedInputs InputFault) → TellsOutcomeAt contents path a → TellsOutcomeAt contents path b → a ≡ b
