-- What is read of a stream whose bytes are known.
use Rattle.std.specs.Prelude.{◌≡◌, ℕ, List, Option, Some, None, ⊤}

-- where the bytes that were left are known, these are all of them
abbrev pub IsAllOf : Option (List ℕ) → List ℕ → Type 0
IsAllOf None bytes = ⊤
IsAllOf (Some left) bytes = left ≡ bytes
