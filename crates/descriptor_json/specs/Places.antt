-- JSON pointers, as bytes.
use Rattle.std.specs.Prelude.{ℕ, List, ◌∷◌, ◌++◌}
use Rattle.std.specs.Fmt.{decimal}

abbrev pub JsonPointer : Type 0
JsonPointer = List ℕ

-- the place of the value at a key: a slash and the key
abbrev pub at_key : JsonPointer → List ℕ → JsonPointer
at_key place key = place ++ 47 ∷ key

-- the place of an item of a list: a slash and its number
abbrev pub at_index : JsonPointer → ℕ → JsonPointer
at_index place i = place ++ 47 ∷ decimal i
