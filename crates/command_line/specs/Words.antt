-- What the words of a command line say.
use Rattle.std.specs.Prelude.{◌≡◌, ◌≢◌, ◌≤◌, ◌+◌, ◌⊎◌, ℕ, List, [], ◌∷◌, ◌++◌, Option, Some, None, codes, length, map, slice_index}
use Rattle.std.specs.Str.Parse.{IsNumeral, digits_value}
use Rattle.std.specs.String.{string_bytes}
use Rattle.std.specs.declared.alloc.Global.{Global}
use Rattle.std.specs.declared.string.String.{String}
use Rattle.cube_val.specs.Limits.{row_limit}
use Rattle.command_line.specs.declared.order.Order.{Order}
use Rattle.command_line.specs.declared.order.Order.TheVariants.{Run, Demo, Fold, Cuboids, Step}

-- a command with its arguments
pub data Command : Type 0 where
  run : List ℕ → Option ℕ → Command
  demo : ℕ → ℕ → Command
  fold : List ℕ → Command
  cuboids : List ℕ → Command
  step : List ℕ → List ℕ → List ℕ → Command

-- the command that an order is
abbrev pub command_of : Order → Command
command_of (Run path workers) = run (string_bytes path) workers
command_of (Demo number rows) = demo number rows
command_of (Fold path) = fold (string_bytes path)
command_of (Cuboids path) = cuboids (string_bytes path)
command_of (Step task product stop) = step (string_bytes task) (string_bytes product) (string_bytes stop)

-- the bytes of each word
abbrev pub bytes_of_words : List (String Global) → List (List ℕ)
bytes_of_words words = map string_bytes words

-- a path is not empty and does not begin with a dash
abbrev pub IsPath : List ℕ → Type 0
IsPath path = (path ≢ []) × (slice_index path 0 ≢ 45)

-- the word is a number in decimal digits, at least one and at most `most` of them
abbrev pub Writes : ℕ → List ℕ → ℕ → Type 0
Writes most word n = (length word ≤ most) × IsNumeral 10 word × (digits_value 10 word ≡ n)

-- the word that gives the number of workers, one digit
abbrev pub workers_word : ℕ → List ℕ
workers_word n = codes "--workers=" ++ (48 + n) ∷ []

-- .. from 1 to 8
abbrev pub IsWorkers : List ℕ → ℕ → Type 0
IsWorkers word n = (word ≡ workers_word n) × (1 ≤ n) × (n ≤ 8)

-- the word is a number of rows
abbrev pub IsRows : List ℕ → ℕ → Type 0
IsRows word rows = Writes 6 word rows × (1 ≤ rows) × (rows ≤ row_limit)

-- the words say the command
abbrev pub Say : List (List ℕ) → Command → Type 0
Say words (run path None) = (words ≡ codes "run" ∷ path ∷ []) × IsPath path
Say words (run path (Some n)) =
    (w : List ℕ) × ((words ≡ codes "run" ∷ path ∷ w ∷ []) ⊎ (words ≡ codes "run" ∷ w ∷ path ∷ [])) × IsPath path × IsWorkers w n
Say words (demo number rows) = (a : List ℕ) × (b : List ℕ) × (words ≡ codes "demo" ∷ a ∷ b ∷ []) × Writes 9 a number × IsRows b rows
Say words (fold path) = (words ≡ codes "fold" ∷ path ∷ []) × IsPath path
Say words (cuboids path) = (words ≡ codes "cuboids" ∷ path ∷ []) × IsPath path
Say words (step task product stop) =
    (words ≡ codes "step" ∷ task ∷ product ∷ stop ∷ []) × IsPath task × IsPath product × IsPath stop

-- the words say some command
abbrev pub AreLawful : List (List ℕ) → Type 0
AreLawful words = (command : Command) × Say words command
