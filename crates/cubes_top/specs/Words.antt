-- The words of the command line, for one hand.
use Rattle.std.specs.Prelude.{◌⊎◌, ℕ, List, Some, None}
use Rattle.std.specs.declared.alloc.Global.{Global}
use Rattle.std.specs.declared.string.String.{String}
use Rattle.command_line.specs.Words.{Say, bytes_of_words, run}
use Rattle.cubes_plain.specs.Words.{IsNoCommand}

-- the words are `run` and this path, and `--workers=1` may stand beside it
abbrev pub IsRunOf : List (String Global) → List ℕ → Type 0
IsRunOf words path = Say (bytes_of_words words) (run path None) ⊎ Say (bytes_of_words words) (run path (Some 1))

-- the words are no run on one hand
abbrev pub IsNoRun : List (String Global) → Type 0
IsNoRun words = (path : List ℕ) → IsRunOf words path → ⊥

-- .. and no command that runs no jobs
abbrev pub AreBadWords : List (String Global) → Type 0
AreBadWords words = IsNoRun words × IsNoCommand words
