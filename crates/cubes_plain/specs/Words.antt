-- The words of the command line.
use Rattle.std.specs.Prelude.{◌⊎◌, ℕ, List}
use Rattle.command_line.specs.Words.{Say, bytes_of_words, cuboids, fold, step}
use Rattle.std.specs.declared.alloc.Global.{Global}
use Rattle.std.specs.declared.string.String.{String}

-- the words are `fold` and this path
abbrev pub IsFold : List (String Global) → List ℕ → Type 0
IsFold words path = Say (bytes_of_words words) (fold path)

-- the words are `cuboids` and this path
abbrev pub IsCuboids : List (String Global) → List ℕ → Type 0
IsCuboids words path = Say (bytes_of_words words) (cuboids path)

-- the words are `step`, the path of a task, that of its product, and the stop path
abbrev pub IsStep : List (String Global) → List ℕ → List ℕ → List ℕ → Type 0
IsStep words task product stop = Say (bytes_of_words words) (step task product stop)

-- the words are a command that reads a file at this path and writes to the sink
abbrev pub IsOver : List (String Global) → List ℕ → Type 0
IsOver words path = IsFold words path ⊎ IsCuboids words path

-- the words are no `step`
abbrev pub IsNoStep : List (String Global) → Type 0
IsNoStep words = (task product stop : List ℕ) → IsStep words task product stop → ⊥

-- the words are no command
abbrev pub IsNoCommand : List (String Global) → Type 0
IsNoCommand words = ((path : List ℕ) → IsOver words path → ⊥) × IsNoStep words
