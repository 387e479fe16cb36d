-- What a command writes.
use Rattle.std.specs.Prelude.{◌≡◌, ◌∷◌, [], ◌++◌, ℕ, List, Option, codes}
use Rattle.std.specs.Io.KnownBytes.{append_known}
use Rattle.outside.specs.Counts.{Rose}
use Rattle.outside.specs.Written.{AppendsPart}

-- all of the text was appended to what was written, where that is told
abbrev pub AppendsAll : Option (List ℕ) → Option (List ℕ) → List ℕ → Type 0
AppendsAll old new text = new ≡ append_known old text

-- the text was appended: all of it where the count of failed writes did not rise, else a part from the front
pub record Appends (faults_old faults_new : ℕ) (old new : Option (List ℕ)) (text : List ℕ) : Type 0 where
  pub part : AppendsPart old new text
  pub whole : ¬ (Rose faults_old faults_new) → AppendsAll old new text

-- the fault lines
abbrev pub bad_words_line : List ℕ
bad_words_line = codes "fault: BadWords" ++ 10 ∷ []

abbrev pub read_fault_line : List ℕ → List ℕ
read_fault_line path = codes "fault: ReadFault " ++ path ++ 10 ∷ []

abbrev pub too_large_line : List ℕ → List ℕ
too_large_line path = codes "fault: TooLarge " ++ path ++ 10 ∷ []

abbrev pub stopped_line : List ℕ
stopped_line = codes "fault: Stopped" ++ 10 ∷ []

abbrev pub bad_task_line : List ℕ
bad_task_line = codes "fault: BadTask" ++ 10 ∷ []
