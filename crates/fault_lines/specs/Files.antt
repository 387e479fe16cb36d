-- What the file at a path holds, as far as files tell it.
use Rattle.std.specs.Prelude.{◌≡◌, ◌≤◌, ℕ, List, Option, Some, None, length}
use Rattle.outside.specs.Contents.{IsLongerAt, Paths, StandsAt}

-- the most bytes of a file: 64 MiB
abbrev pub most_bytes : ℕ
most_bytes = 67_108_864

-- the bytes of a file are so, and no more than a file may have; they stand at the path, where the contents are told
pub record IsFileAt (contents : Option Paths) (path : List ℕ) (P : List ℕ → Type 0) : Type 0 where
  pub bytes : List ℕ
  pub stands : StandsAt contents path bytes
  pub short : length bytes ≤ most_bytes
  pub holds : P bytes

-- .. and the contents are told
abbrev pub TellsFileAt : Option Paths → List ℕ → (List ℕ → Type 0) → Type 0
TellsFileAt None path P = ⊥
TellsFileAt (Some paths) path P = IsFileAt (Some paths) path P

-- the contents are told, and the file at the path is too large
abbrev pub TellsLongerAt : Option Paths → List ℕ → Type 0
TellsLongerAt None path = ⊥
TellsLongerAt (Some paths) path = IsLongerAt (Some paths) path most_bytes

-- the contents are told, and nothing stands at the path
abbrev pub TellsNothingAt : Option Paths → List ℕ → Type 0
TellsNothingAt None path = ⊥
TellsNothingAt (Some paths) path = paths path ≡ None
