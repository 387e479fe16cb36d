-- What stands at the paths of files, where they tell it.
use Rattle.std.specs.Prelude.{◌≡◌, ◌≢◌, ◌≤◌, ◌<◌, ℕ, List, length, ⊤, Option, Some, None, Bool, is_some}

-- the bytes at each path, or None where nothing stands there
abbrev pub Paths : Type 0
Paths = List ℕ → Option (List ℕ)

-- where the contents are told, these bytes stand at the path
abbrev pub StandsAt : Option Paths → List ℕ → List ℕ → Type 0
StandsAt None path bytes = ⊤
StandsAt (Some paths) path bytes = paths path ≡ Some bytes

-- where the contents are told, more than this many bytes stand at the path
abbrev pub IsLongerAt : Option Paths → List ℕ → ℕ → Type 0
IsLongerAt None path limit = ⊤
IsLongerAt (Some paths) path limit = (bytes : List ℕ) × (paths path ≡ Some bytes) × (limit < length bytes)

-- where the contents are told, no more than this many bytes stand at the path, if any
abbrev pub IsNotLongerAt : Option Paths → List ℕ → ℕ → Type 0
IsNotLongerAt None path limit = ⊤
IsNotLongerAt (Some paths) path limit = (bytes : List ℕ) → paths path ≡ Some bytes → length bytes ≤ limit

-- the contents stay told or not, and told contents stay as they were at every other path
abbrev pub SameElsewhere : Option Paths → Option Paths → List ℕ → Type 0
SameElsewhere None new path = new ≡ None
SameElsewhere (Some old) None path = ⊥
SameElsewhere (Some old) (Some new) path = (other : List ℕ) → other ≢ path → new other ≡ old other

-- where the contents are told, the answer is whether something stands at the path
abbrev pub TellsPresence : Option Paths → List ℕ → Bool → Type 0
TellsPresence None path answer = ⊤
TellsPresence (Some paths) path answer = answer ≡ is_some (paths path)
