-- Whole scripts of the fixed cube.
use Rattle.std.specs.Prelude.{◌≡◌, ◌<◌, ◌+◌, ◌⊎◌, ℕ, Bool, true, false, not, ◌||◌, List, [], ◌∷◌, ◌++◌, codes, count_by, fold, is_some, length, Option, Some, None, slice_index_or, take, if◌then◌else◌}
use Rattle.std.specs.List.{list_any, position_or_len}
use Rattle.std.specs.Str.{bytes_eq}
use Rattle.script_reader.specs.Faults.{fault_after, instruction_of, word_in}
use Rattle.script_reader.specs.Lines.{is_passed_over, lines_of, words_of}
use Rattle.script_reader.specs.declared.instruction.Instruction.{Instruction}
use Rattle.script_reader.specs.declared.instruction.Instruction.TheVariants as say
use Rattle.script_reader.specs.declared.line.Counts.{Counts}
use Rattle.script_reader.specs.declared.word.CommandWord.{CommandWord}
use Rattle.script_reader.specs.declared.word.CommandWord.TheVariants as word
use Rattle.script_text.specs.declared.verb.Line.{Line}
use Rattle.script_text.specs.declared.verb.Verb.{Verb}
use Rattle.script_text.specs.declared.verb.Verb.TheVariants as verb

-- ---- what matters of lines to those after them

abbrev pub is_load : Option CommandWord → Bool
is_load (Some word.Load) = true
is_load _ = false

abbrev pub is_job : Option CommandWord → Bool
is_job (Some word.Build) = true
is_job (Some word.Refresh) = true
is_job (Some word.Merge) = true
is_job (Some word.Drop) = true
is_job _ = false

abbrev pub word_of : List ℕ → Option CommandWord
word_of line = word_in (words_of line)

abbrev pub is_command : List ℕ → Bool
is_command line = not (is_passed_over line)

abbrev pub counts_of : List (List ℕ) → Counts
counts_of lines = record {
  lines = length lines;
  started = list_any is_command lines;
  loads = count_by (λ line. is_load (word_of line)) lines;
  jobs = count_by (λ line. is_job (word_of line)) lines;
}

-- ---- sessions

abbrev pub session_in : Option Instruction → Option (List ℕ)
session_in (Some (say.Query name sql)) = Some name
session_in _ = None

abbrev pub with_name : List (List ℕ) → Option (List ℕ) → List (List ℕ)
with_name names None = names
with_name names (Some name) = if list_any (bytes_eq name) names then names else names ++ name ∷ []

-- the sessions of the queries in these lines, in the order of their first ones
abbrev pub sessions_of : List (List ℕ) → List (List ℕ)
sessions_of lines = fold (λ names line. with_name names (session_in (instruction_of line))) [] lines

-- what an instruction asks for, where these sessions came before
abbrev pub verb_of : List (List ℕ) → Instruction → Verb
verb_of names (say.Descriptor path) = verb.Descriptor path
verb_of names (say.Load name path) = verb.Load name path
verb_of names (say.Build range) = verb.Build range
verb_of names (say.Refresh range) = verb.Refresh range
verb_of names (say.Merge range) = verb.Merge range
verb_of names (say.Drop range) = verb.Drop range
verb_of names (say.Pause job) = verb.Pause job
verb_of names (say.Resume job) = verb.Resume job
verb_of names (say.Discard job) = verb.Discard job
verb_of names (say.AwaitJob job) = verb.AwaitJob job
verb_of names say.AwaitJobs = verb.AwaitJobs
verb_of names say.AwaitQueries = verb.AwaitQueries
verb_of names say.Jobs = verb.Jobs
verb_of names say.Segments = verb.Segments
verb_of names (say.Query name sql) = verb.Query (position_or_len (bytes_eq name) names) sql

-- ---- commands

-- the command of a line after these lines, if it is one
abbrev pub lines_for : List (List ℕ) → Option Instruction → List Line
lines_for before None = []
lines_for before (Some said) = record { number = length before + 1; verb = verb_of (sessions_of before) said } ∷ []

-- the commands of lines that come after these lines
abbrev pub script_after : List (List ℕ) → List (List ℕ) → List Line
script_after before [] = []
script_after before (line ∷ lines) = lines_for before (instruction_of line) ++ script_after (before ++ line ∷ []) lines

abbrev pub script_of : List (List ℕ) → List Line
script_of lines = script_after [] lines

-- ---- scripts of the fixed cube

-- its descriptor is `fixed`, its table F, and its query this one; it builds, steers, awaits and lists jobs
abbrev pub is_fixed : Instruction → Bool
is_fixed (say.Descriptor path) = bytes_eq path (codes "fixed")
is_fixed (say.Load name path) = bytes_eq name (codes "F")
is_fixed (say.Query name sql) = bytes_eq sql (codes "select d1, count(*), sum(m) from f group by d1")
is_fixed (say.Refresh range) = false
is_fixed (say.Merge range) = false
is_fixed (say.Drop range) = false
is_fixed say.Segments = false
is_fixed (say.Build range) = true
is_fixed (say.Pause job) = true
is_fixed (say.Resume job) = true
is_fixed (say.Discard job) = true
is_fixed (say.AwaitJob job) = true
is_fixed say.AwaitJobs = true
is_fixed say.AwaitQueries = true
is_fixed say.Jobs = true

abbrev pub is_fixed_said : Option Instruction → Bool
is_fixed_said None = true
is_fixed_said (Some said) = is_fixed said

-- the line after these lines has a fault, or says what no script of the fixed cube says
abbrev pub is_bad_after : List (List ℕ) → List ℕ → Bool
is_bad_after before line = is_some (fault_after (counts_of before) line) || not (is_fixed_said (instruction_of line))

abbrev pub is_bad_at : List (List ℕ) → ℕ → Bool
is_bad_at lines place = is_bad_after (take place lines) (slice_index_or lines place [])

-- no line is bad
abbrev pub AreGood : List (List ℕ) → Type 0
AreGood lines = (place : ℕ) → place < length lines → is_bad_at lines place ≡ false

-- no line is bad, there is a command, and these are the commands
pub record IsFixedScript (bytes : List ℕ) (script : List Line) : Type 0 where
  pub good : AreGood (lines_of bytes)
  pub command : list_any is_command (lines_of bytes) ≡ true
  pub commands : script ≡ script_of (lines_of bytes)

-- the number of the first bad line, from 1
pub record IsFirstBadLine (lines : List (List ℕ)) (number : ℕ) : Type 0 where
  pub place : ℕ
  pub counted : number ≡ place + 1
  pub there : place < length lines
  pub bad : is_bad_at lines place ≡ true
  pub before : (k : ℕ) → k < place → is_bad_at lines k ≡ false

-- no line is bad, and none is a command
pub record HasNoCommand (lines : List (List ℕ)) : Type 0 where
  pub good : AreGood lines
  pub none : list_any is_command lines ≡ false

-- the line with which the bytes are no script of the fixed cube: the first bad one, or 0 where there is no command
abbrev pub IsNoFixedScript : List ℕ → ℕ → Type 0
IsNoFixedScript bytes number = IsFirstBadLine (lines_of bytes) number ⊎ ((number ≡ 0) × HasNoCommand (lines_of bytes))
