-- What the readers of lines answer.
use Rattle.std.specs.Prelude.{◌≡◌, ⊤, ℕ, true, false, List, Option, Some, None, Result, Ok, Err}
use Rattle.script_reader.specs.Faults.{fault_after, fault_of_command, fault_of_words, instruction_of, said_by_words, word_in}
use Rattle.script_reader.specs.Instructions.{said_by}
use Rattle.script_reader.specs.Lines.{is_passed_over, is_silent, words_of}
use Rattle.script_reader.specs.declared.fault.ScriptKind.{ScriptKind}
use Rattle.script_reader.specs.declared.fault.LineRefusal.{LineRefusal}
use Rattle.script_reader.specs.declared.fault.LineRefusal.TheVariants.{Fault, Memory}
use Rattle.script_reader.specs.declared.line.Counts.{Counts}
use Rattle.script_reader.specs.declared.line.Said.{Said}
use Rattle.script_reader.specs.declared.word.CommandWord.{CommandWord}

-- a reader answers what it should, where memory isn't wanting
abbrev pub Gives : {T : Type 0} → Result T ScriptKind → Result T LineRefusal → Type 0
Gives expected (Ok v) = expected ≡ Ok v
Gives expected (Err (Fault kind)) = expected ≡ Err kind
Gives expected (Err Memory) = ⊤

-- a check passes exactly where there is no fault
abbrev pub Checks : Option ScriptKind → Result (Unit {0}) LineRefusal → Type 0
Checks fault (Ok passed) = fault ≡ None
Checks fault (Err (Fault kind)) = fault ≡ Some kind
Checks fault (Err Memory) = ⊤

-- a command is read exactly where it has no fault, and then it says this
abbrev pub ReadsCommand : Counts → CommandWord → List (List ℕ) → List ℕ → Result Said LineRefusal → Type 0
ReadsCommand before word arguments sql (Ok said) =
    (fault_of_command before word arguments sql ≡ None) × (said_by word arguments sql ≡ Ok said.instruction) × (said.word ≡ word)
ReadsCommand before word arguments sql (Err (Fault kind)) = fault_of_command before word arguments sql ≡ Some kind
ReadsCommand before word arguments sql (Err Memory) = ⊤

-- words are read exactly where they have no fault, and then they say this or are passed over
abbrev pub ReadsWords : Counts → List (List ℕ) → List ℕ → Result (Option Said) LineRefusal → Type 0
ReadsWords before words sql (Ok None) = (fault_of_words before words sql ≡ None) × (is_silent words ≡ true)
ReadsWords before words sql (Ok (Some said)) =
    (fault_of_words before words sql ≡ None) × (is_silent words ≡ false) × (word_in words ≡ Some said.word)
    × (said_by_words words sql ≡ Some said.instruction)
ReadsWords before words sql (Err (Fault kind)) = fault_of_words before words sql ≡ Some kind
ReadsWords before words sql (Err Memory) = ⊤

-- a line says this, and has no fault after these lines
pub record IsSaid (before : Counts) (line : List ℕ) (said : Said) : Type 0 where
  pub sound : fault_after before line ≡ None
  pub command : is_passed_over line ≡ false
  pub word : word_in (words_of line) ≡ Some said.word
  pub instruction : instruction_of line ≡ Some said.instruction

-- a line is passed over, and has no fault after these lines
pub record IsPassed (before : Counts) (line : List ℕ) : Type 0 where
  pub sound : fault_after before line ≡ None
  pub silent : is_passed_over line ≡ true

abbrev pub ReadsLine : Counts → List ℕ → Result (Option Said) LineRefusal → Type 0
ReadsLine before line (Ok None) = IsPassed before line
ReadsLine before line (Ok (Some said)) = IsSaid before line said
ReadsLine before line (Err (Fault kind)) = fault_after before line ≡ Some kind
ReadsLine before line (Err Memory) = ⊤
