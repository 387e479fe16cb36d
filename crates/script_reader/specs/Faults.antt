-- The fault of a line after other lines.
use Rattle.std.specs.Prelude.{ℕ, Bool, true, false, not, ◌==◌, nat_le, List, [], ◌∷◌, Option, Some, None, Result, Ok, Err, slice_index, if◌then◌else◌}
use Rattle.std.specs.Str.{is_utf8}
use Rattle.script_reader.specs.Instructions.{command_word, said_by}
use Rattle.script_reader.specs.Lines.{after_word, hash, text_after_word, words_of}
use Rattle.script_reader.specs.declared.fault.ScriptKind.{ScriptKind}
use Rattle.script_reader.specs.declared.fault.ScriptKind.TheVariants as kind
use Rattle.script_reader.specs.declared.instruction.Instruction.{Instruction}
use Rattle.script_reader.specs.declared.line.Counts.{Counts}
use Rattle.script_reader.specs.declared.word.CommandWord.{CommandWord}
use Rattle.script_reader.specs.declared.word.CommandWord.TheVariants as word

abbrev pub most_lines : ℕ
most_lines = 10000

abbrev pub most_loads : ℕ
most_loads = 64

abbrev pub most_jobs : ℕ
most_jobs = 1000

-- the first of some kinds, each of which may apply or not
abbrev pub first_kind : List (Option ScriptKind) → Option ScriptKind
first_kind [] = None
first_kind (None ∷ rest) = first_kind rest
first_kind (Some fault ∷ rest) = Some fault

abbrev pub kind_if : Bool → ScriptKind → Option ScriptKind
kind_if true fault = Some fault
kind_if false fault = None

abbrev pub kind_in : Result Instruction ScriptKind → Option ScriptKind
kind_in (Ok said) = None
kind_in (Err fault) = Some fault

-- `descriptor` is the first command, and no other one
abbrev pub order_fault : Bool → CommandWord → Option ScriptKind
order_fault false word.Descriptor = None
order_fault true word.Descriptor = Some kind.SecondDescriptor
order_fault false _ = Some kind.NoDescriptor
order_fault true _ = None

-- there are not too many loads and jobs
abbrev pub room_fault : Counts → CommandWord → Option ScriptKind
room_fault before word.Load = kind_if (nat_le most_loads before.loads) kind.TooManyLoads
room_fault before word.Build = kind_if (nat_le most_jobs before.jobs) kind.TooManyJobs
room_fault before word.Refresh = kind_if (nat_le most_jobs before.jobs) kind.TooManyJobs
room_fault before word.Merge = kind_if (nat_le most_jobs before.jobs) kind.TooManyJobs
room_fault before word.Drop = kind_if (nat_le most_jobs before.jobs) kind.TooManyJobs
room_fault before _ = None

-- the fault of a command after these lines
abbrev pub fault_of_command : Counts → CommandWord → List (List ℕ) → List ℕ → Option ScriptKind
fault_of_command before word arguments sql =
    first_kind (order_fault before.started word ∷ kind_in (said_by word arguments sql) ∷ room_fault before word ∷ [])

abbrev pub fault_by_word : Counts → Option CommandWord → List (List ℕ) → List ℕ → Option ScriptKind
fault_by_word before None arguments sql = Some kind.UnknownCommand
fault_by_word before (Some word) arguments sql = fault_of_command before word arguments sql

-- the fault of the words of a line; a line without words and a comment have none
abbrev pub fault_of_words : Counts → List (List ℕ) → List ℕ → Option ScriptKind
fault_of_words before [] sql = None
fault_of_words before (word ∷ words) sql =
    if slice_index word 0 == hash then None else fault_by_word before (command_word word) words sql

-- the fault of a line after these lines, if it has one
abbrev pub fault_after : Counts → List ℕ → Option ScriptKind
fault_after before line =
    first_kind (
    kind_if (not (is_utf8 line)) kind.NotUtf8
    ∷ kind_if (nat_le most_lines before.lines) kind.TooManyLines
    ∷ fault_of_words before (words_of line) (text_after_word (after_word line))
    ∷ []
    )

-- ---- what a line says

-- the command word of a line that isn't passed over, or none
abbrev pub word_in : List (List ℕ) → Option CommandWord
word_in [] = None
word_in (word ∷ words) = if slice_index word 0 == hash then None else command_word word

-- what a command says, where it has no fault
abbrev pub said_in : Result Instruction ScriptKind → Option Instruction
said_in (Ok said) = Some said
said_in (Err fault) = None

abbrev pub said_by_word : Option CommandWord → List (List ℕ) → List ℕ → Option Instruction
said_by_word None arguments sql = None
said_by_word (Some word) arguments sql = said_in (said_by word arguments sql)

abbrev pub said_by_words : List (List ℕ) → List ℕ → Option Instruction
said_by_words [] sql = None
said_by_words (word ∷ words) sql = if slice_index word 0 == hash then None else said_by_word (command_word word) words sql

-- what a line says, where it says something and has no fault of its own
abbrev pub instruction_of : List ℕ → Option Instruction
instruction_of line = said_by_words (words_of line) (text_after_word (after_word line))
