-- The statuses and the lines of the faults of inputs.
use Rattle.std.specs.Prelude.{◌≡◌, ◌⊎◌, ℕ, List, [], ◌∷◌, ◌++◌, codes, Option}
use Rattle.std.specs.Fmt.{decimal}
use Rattle.fault_lines.specs.Lines.{Appends, read_fault_line, too_large_line}
use Rattle.fault_lines.specs.Tables.{bad_table_line}
use Rattle.run_inputs.specs.declared.fault.InputFault.{InputFault}
use Rattle.run_inputs.specs.declared.fault.InputFault.TheVariants.{BadScript, BadTable, ReadFault, TooLarge}
use Rattle.run_inputs.specs.declared.fault.InputRefusal.{InputRefusal}
use Rattle.run_inputs.specs.declared.fault.InputRefusal.TheVariants.{Fault, Memory}

-- the names of the fact table's columns
abbrev pub fact_names : List (List ℕ)
fact_names = codes "DT" ∷ codes "D1" ∷ codes "D2" ∷ codes "M" ∷ []

abbrev pub bad_script_line : ℕ → List ℕ
bad_script_line line = codes "fault: BadScript " ++ (decimal line ++ 10 ∷ [])

-- the status of a fault, and its line
abbrev pub status_of : InputFault → ℕ
status_of (ReadFault path) = 3
status_of (TooLarge path) = 10
status_of (BadScript line) = 6
status_of (BadTable path fault) = 8

abbrev pub line_of : InputFault → List ℕ
line_of (ReadFault path) = read_fault_line path
line_of (TooLarge path) = too_large_line path
line_of (BadScript line) = bad_script_line line
line_of (BadTable path fault) = bad_table_line fact_names path fault

-- the status, and what was appended: the line of the fault with its status, and nothing with that of want of memory
pub record Answers (faults_old faults_new : ℕ) (old new : Option (List ℕ)) (fault : InputFault) (status : ℕ) : Type 0 where
  pub which : (status ≡ status_of fault) ⊎ (status ≡ 1)
  pub line : status ≡ status_of fault → Appends faults_old faults_new old new (line_of fault)
  pub nothing : status ≡ 1 → new ≡ old

abbrev pub Refuses : ℕ → ℕ → Option (List ℕ) → Option (List ℕ) → InputRefusal → ℕ → Type 0
Refuses faults_old faults_new old new Memory status = (status ≡ 1) × (new ≡ old)
Refuses faults_old faults_new old new (Fault fault) status = Answers faults_old faults_new old new fault status
