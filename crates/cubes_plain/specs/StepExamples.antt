-- A small work, and files before and after a step of it.
use Rattle.std.specs.Prelude.{◌≢◌, ℕ, List, [], ◌∷◌, Option, Some, codes, drop}
use Rattle.outside.specs.Contents.{Paths}
use Rattle.outside.specs.MemoryFiles.{bytes_of}

-- a task is its product behind one byte more
abbrev pub IsWrapped : List ℕ → Type 0
IsWrapped task = task ≢ []

abbrev pub unwrapped : List ℕ → List ℕ
unwrapped task = drop 1 task

-- a task, and an empty file
abbrev pub before_step : Option Paths
before_step = Some (bytes_of ((codes "t", codes "!ab") ∷ (codes "e", []) ∷ []))

-- .. and the product
abbrev pub after_step : Option Paths
after_step = Some (bytes_of ((codes "p", codes "ab") ∷ (codes "t", codes "!ab") ∷ (codes "e", []) ∷ []))
