-- What the readers of files answer.
use Rattle.std.specs.Prelude.{◌≡◌, ⊤, ℕ, List, Result, Ok, Err}
use Rattle.outside.specs.declared.files.FileFault.{FileFault}
use Rattle.outside.specs.declared.files.FileFault.TheVariants as file
use Rattle.run_inputs.specs.declared.fault.InputFault.{InputFault}
use Rattle.run_inputs.specs.declared.fault.InputFault.TheVariants.{BadScript, BadTable, ReadFault, TooLarge}
use Rattle.run_inputs.specs.declared.fault.InputRefusal.{InputRefusal}
use Rattle.run_inputs.specs.declared.fault.InputRefusal.TheVariants.{Fault, Memory}
use Rattle.run_inputs.specs.declared.inputs.FixedInputs.{FixedInputs}

-- a file that isn't read, for this reason; or want of memory
abbrev pub IsUnread : List ℕ → FileFault → InputRefusal → Type 0
IsUnread path fault Memory = ⊤
IsUnread path fault (Fault (ReadFault at)) = (at ≡ path) × (fault ≡ file.Failed)
IsUnread path fault (Fault (TooLarge at)) = (at ≡ path) × (fault ≡ file.TooLong)
IsUnread path fault (Fault (BadScript line)) = ⊥
IsUnread path fault (Fault (BadTable at wrong)) = ⊥

-- an outcome is answered as it is; want of memory and a read that fails may stand in its place
abbrev pub AnswersAs : Result FixedInputs InputFault → Result FixedInputs InputRefusal → Type 0
AnswersAs outcome (Ok inputs) = outcome ≡ Ok inputs
AnswersAs outcome (Err Memory) = ⊤
AnswersAs outcome (Err (Fault (ReadFault at))) = ⊤
AnswersAs outcome (Err (Fault (TooLarge at))) = outcome ≡ Err (TooLarge at)
AnswersAs outcome (Err (Fault (BadScript line))) = outcome ≡ Err (BadScript line)
AnswersAs outcome (Err (Fault (BadTable at fault))) = outcome ≡ Err (BadTable at fault)
