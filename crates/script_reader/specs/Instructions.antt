-- What the words of a line say.
use Rattle.std.specs.Prelude.{ℕ, Bool, true, false, not, ◌&&◌, ◌==◌, nat_le, nat_lt, List, [], ◌∷◌, codes, find, length, Option, Some, None, Result, Ok, Err}
use Rattle.std.specs.Char.{is_ascii_digit}
use Rattle.std.specs.List.{list_all}
use Rattle.std.specs.Str.{bytes_eq, is_utf8}
use Rattle.std.specs.Str.Parse.{digits_value}
use Rattle.calendar.specs.Dates.{day_of}
use Rattle.range_list.specs.Ranges.{Interval}
use Rattle.script_reader.specs.Names.{is_name, name_of}
use Rattle.script_reader.specs.declared.fault.ScriptKind.{ScriptKind}
use Rattle.script_reader.specs.declared.fault.ScriptKind.TheVariants as kind
use Rattle.script_reader.specs.declared.instruction.Instruction.{Instruction}
use Rattle.script_reader.specs.declared.instruction.Instruction.TheVariants as say
use Rattle.script_reader.specs.declared.word.CommandWord.{CommandWord}
use Rattle.script_reader.specs.declared.word.CommandWord.TheVariants as word

-- how a command word is written
abbrev pub word_text : CommandWord → List ℕ
word_text word.Descriptor = codes "descriptor"
word_text word.Load = codes "load"
word_text word.Build = codes "build"
word_text word.Refresh = codes "refresh"
word_text word.Merge = codes "merge"
word_text word.Drop = codes "drop"
word_text word.Pause = codes "pause"
word_text word.Resume = codes "resume"
word_text word.Discard = codes "discard"
word_text word.Await = codes "await"
word_text word.Jobs = codes "jobs"
word_text word.Segments = codes "segments"
word_text word.Query = codes "query"

abbrev pub command_words : List CommandWord
command_words =
    word.Descriptor ∷ word.Load ∷ word.Build ∷ word.Refresh ∷ word.Merge ∷ word.Drop ∷ word.Pause ∷ word.Resume ∷ word.Discard ∷ word.Await
    ∷ word.Jobs ∷ word.Segments ∷ word.Query ∷ []

-- the command that a word begins
abbrev pub command_word : List ℕ → Option CommandWord
command_word bytes = find (λ word. bytes_eq (word_text word) bytes) command_words

-- ---- arguments

-- the value, where the test holds
abbrev pub ok_if : {T : Type 0} → Bool → T → ScriptKind → Result T ScriptKind
ok_if true v fault = Ok v
ok_if false v fault = Err fault

-- what is said of a value that was read
abbrev pub saying : {T : Type 0} → (T → Instruction) → Result T ScriptKind → Result Instruction ScriptKind
saying say (Ok v) = Ok (say v)
saying say (Err fault) = Err fault

-- the only word, and the two words
abbrev pub only_word : List (List ℕ) → Option (List ℕ)
only_word [] = None
only_word (word ∷ []) = Some word
only_word (word ∷ other ∷ words) = None

abbrev pub two_words : List (List ℕ) → Option (List ℕ × List ℕ)
two_words [] = None
two_words (word ∷ words) = with_first word (only_word words)
  where
    with_first : List ℕ → Option (List ℕ) → Option (List ℕ × List ℕ)
    with_first word None = None
    with_first word (Some other) = Some (word, other)

-- a path is UTF-8, as its line is
abbrev pub path_in : Option (List ℕ) → Result (List ℕ) ScriptKind
path_in None = Err kind.BadArguments
path_in (Some path) = ok_if (is_utf8 path) path kind.BadArguments

-- the most bytes of a name, and of a session's name
abbrev pub most_of_name : ℕ
most_of_name = 64

abbrev pub most_of_session : ℕ
most_of_session = 32

-- a name, and a path
abbrev pub load_in : Option (List ℕ × List ℕ) → Result Instruction ScriptKind
load_in None = Err kind.BadArguments
load_in (Some words) = ok_if (is_name most_of_name words.0 && is_utf8 words.1) (say.Load (name_of words.0) words.1) kind.BadArguments

-- two dates, of which the first comes before the second
abbrev pub range_of_days : Option ℕ → Option ℕ → Result Interval ScriptKind
range_of_days None end = Err kind.BadDate
range_of_days (Some start) None = Err kind.BadDate
range_of_days (Some start) (Some end) = ok_if (nat_lt start end) (record { start = start; end = end }) kind.BadRange

abbrev pub range_in : Option (List ℕ × List ℕ) → Result Interval ScriptKind
range_in None = Err kind.BadArguments
range_in (Some words) = range_of_days (day_of words.0) (day_of words.1)

abbrev pub are_digits : List ℕ → Bool
are_digits bytes = not (length bytes == 0) && list_all is_ascii_digit bytes

-- a number of 1 to 9 digits
abbrev pub number_of : List ℕ → Result ℕ ScriptKind
number_of digits = ok_if (are_digits digits && nat_le (length digits) 9) (digits_value 10 digits) kind.BadNumber

abbrev pub number_in : Option (List ℕ) → Result ℕ ScriptKind
number_in None = Err kind.BadArguments
number_in (Some digits) = number_of digits

-- `jobs`, `queries`, or the number of a job
abbrev pub await_by : Bool → Bool → Bool → List ℕ → Result Instruction ScriptKind
await_by true queries digits word = Ok say.AwaitJobs
await_by false true digits word = Ok say.AwaitQueries
await_by false false true word = saying say.AwaitJob (number_of word)
await_by false false false word = Err kind.BadArguments

abbrev pub await_in : Option (List ℕ) → Result Instruction ScriptKind
await_in None = Err kind.BadArguments
await_in (Some word) = await_by (bytes_eq word (codes "jobs")) (bytes_eq word (codes "queries")) (are_digits word) word

abbrev pub nothing_in : Instruction → List (List ℕ) → Result Instruction ScriptKind
nothing_in said [] = Ok said
nothing_in said (word ∷ words) = Err kind.BadArguments

-- a session, and a text that isn't empty
abbrev pub query_in : List (List ℕ) → List ℕ → Result Instruction ScriptKind
query_in [] sql = Err kind.BadArguments
query_in (session ∷ words) sql =
    ok_if (is_name most_of_session session && not (length sql == 0)) (say.Query (name_of session) sql) kind.BadArguments

-- what a command word with these arguments says; the text after the first argument is the query's
abbrev pub said_by : CommandWord → List (List ℕ) → List ℕ → Result Instruction ScriptKind
said_by word.Descriptor arguments sql = saying say.Descriptor (path_in (only_word arguments))
said_by word.Load arguments sql = load_in (two_words arguments)
said_by word.Build arguments sql = saying say.Build (range_in (two_words arguments))
said_by word.Refresh arguments sql = saying say.Refresh (range_in (two_words arguments))
said_by word.Merge arguments sql = saying say.Merge (range_in (two_words arguments))
said_by word.Drop arguments sql = saying say.Drop (range_in (two_words arguments))
said_by word.Pause arguments sql = saying say.Pause (number_in (only_word arguments))
said_by word.Resume arguments sql = saying say.Resume (number_in (only_word arguments))
said_by word.Discard arguments sql = saying say.Discard (number_in (only_word arguments))
said_by word.Await arguments sql = await_in (only_word arguments)
said_by word.Jobs arguments sql = nothing_in say.Jobs arguments
said_by word.Segments arguments sql = nothing_in say.Segments arguments
said_by word.Query arguments sql = query_in arguments sql
