-- A log to compute with.
use Rattle.std.specs.Prelude.{[], ◌∷◌, ℕ, List}

-- two entries, of two bytes and of none, and a closed gate with a byte behind it
abbrev pub two_entries : List (List ℕ)
two_entries = (7 ∷ 8 ∷ []) ∷ [] ∷ []
