-- Whole scripts.
use Rattle.std.specs.Prelude.{◌≡◌, ◌<◌, ◌+◌, ◌⊎◌, ℕ, Bool, true, false, not, List, [], ◌∷◌, ◌++◌, count_by, fold, length, Option, Some, None, slice_index_or, take, if◌then◌else◌}
use Rattle.std.specs.List.{list_any, position_or_len}
use Rattle.std.specs.Str.{bytes_eq}
use Rattle.script_reader.specs.Faults.{fault_after, instruction_of, word_in}
use Rattle.script_reader.specs.Lines.{is_passed_over, lines_of, words_of}
use Rattle.script_reader.specs.declared.instruction.Instruction.{Instruction}
use Rattle.script_reader.specs.declared.instruction.Instruction.TheVariants as say
use Rattle.script_reader.specs.declared.fault.ScriptFault.{ScriptFault}
use Rattle.script_reader.specs.declared.fault.ScriptKind.{ScriptKind}
use Rattle.script_reader.specs.declared.fault.ScriptKind.TheVariants.{NoDescriptor}
use Rattle.script_reader.specs.declared.line.Counts.{Counts}
use Rattle.script_reader.specs.declared.word.CommandWord.{CommandWord}
use Rattle.script_reader.specs.declared.word.CommandWord.TheVariants as word
use Rattle.script_text.specs.declared.verb.Line.{Line}
use Rattle.script_text.specs.declared.verb.Verb.{Verb}
use Rattle.script_text.specs.declared.verb.Verb.TheVariants as verb

-- ---- what matters of lines to those after them

abbrev pub is_load : Option CommandWord → Bool
is_load (Some word.Load) = true
is_load _ = false

abbrev pub is_job : Option CommandWord → Bool
is_job (Some word.Build) = true
is_job (Some word.Refresh) = true
is_job (Some word.Merge) = true
is_job (Some word.Drop) = true
is_job _ = false

abbrev pub word_of : List ℕ → Option CommandWord
word_of line = word_in (words_of line)

abbrev pub is_command : List ℕ → Bool
is_command line = not (is_passed_over line)

abbrev pub counts_of : List (List ℕ) → Counts
counts_of lines = record {
  lines = length lines;
  started = list_any is_command lines;
  loads = count_by (λ line. is_load (word_of line)) lines;
  jobs = count_by (λ line. is_job (word_of line)) lines;
}

-- ---- sessions

abbrev pub session_in : Option Instruction → Option (List ℕ)
session_in (Some (say.Query name sql)) = Some name
session_in _ = None

abbrev pub with_name : List (List ℕ) → Option (List ℕ) → List (List ℕ)
with_name names None = names
with_name names (Some name) = if list_any (bytes_eq name) names then names else names ++ name ∷ []

-- the sessions of the queries in these lines, in the order of their first ones
abbrev pub sessions_of : List (List ℕ) → List (List ℕ)
sessions_of lines = fold (λ names line. with_name names (session_in (instruction_of line))) [] lines

-- what an instruction asks for, where these sessions came before
abbrev pub verb_of : List (List ℕ) → Instruction → Verb
verb_of names (say.Descriptor path) = verb.Descriptor path
verb_of names (say.Load name path) = verb.Load name path
verb_of names (say.Build range) = verb.Build range
verb_of names (say.Refresh range) = verb.Refresh range
verb_of names (say.Merge range) = verb.Merge range
verb_of names (say.Drop range) = verb.Drop range
verb_of names (say.Pause job) = verb.Pause job
verb_of names (say.Resume job) = verb.Resume job
verb_of names (say.Discard job) = verb.Discard job
verb_of names (say.AwaitJob job) = verb.AwaitJob job
verb_of names say.AwaitJobs = verb.AwaitJobs
verb_of names say.AwaitQueries = verb.AwaitQueries
verb_of names say.Jobs = verb.Jobs
verb_of names say.Segments = verb.Segments
verb_of names (say.Query name sql) = verb.Query (position_or_len (bytes_eq name) names) sql

-- ---- commands

-- the command of a line after these lines, if it is one
abbrev pub lines_for : List (List ℕ) → Option Instruction → List Line
lines_for before None = []
lines_for before (Some said) = record { number = length before + 1; verb = verb_of (sessions_of before) said } ∷ []

-- the commands of lines that come after these lines
abbrev pub script_after : List (List ℕ) → List (List ℕ) → List Line
script_after before [] = []
script_after before (line ∷ lines) = lines_for before (instruction_of line) ++ script_after (before ++ line ∷ []) lines

abbrev pub script_of : List (List ℕ) → List Line
script_of lines = script_after [] lines

-- ---- scripts

-- the fault of the line at a place, after those before it
abbrev pub fault_at : List (List ℕ) → ℕ → Option ScriptKind
fault_at lines place = fault_after (counts_of (take place lines)) (slice_index_or lines place [])

-- no line has a fault
abbrev pub AreGood : List (List ℕ) → Type 0
AreGood lines = (place : ℕ) → place < length lines → fault_at lines place ≡ None

-- no line has a fault, there is a command, and these are the commands
pub record IsScript (bytes : List ℕ) (script : List Line) : Type 0 where
  pub good : AreGood (lines_of bytes)
  pub command : list_any is_command (lines_of bytes) ≡ true
  pub commands : script ≡ script_of (lines_of bytes)

-- the first line that has a fault, by its number from 1, has it of this kind
pub record IsFirstFault (lines : List (List ℕ)) (fault : ScriptFault) : Type 0 where
  pub place : ℕ
  pub counted : fault.line ≡ place + 1
  pub there : place < length lines
  pub kind : fault_at lines place ≡ Some fault.kind
  pub before : (k : ℕ) → k < place → fault_at lines k ≡ None

-- no line has a fault, and none is a command
pub record HasNoCommand (lines : List (List ℕ)) : Type 0 where
  pub good : AreGood lines
  pub none : list_any is_command lines ≡ false

-- the fault with which the bytes are no script: that of the first line with one, or NoDescriptor at line 0 where there is no command
abbrev pub IsNoScript : List ℕ → ScriptFault → Type 0
IsNoScript bytes fault = IsFirstFault (lines_of bytes) fault ⊎ ((fault ≡ record { line = 0; kind = NoDescriptor }) × HasNoCommand (lines_of bytes))
