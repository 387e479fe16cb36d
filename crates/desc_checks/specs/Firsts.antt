-- Lists of failing places, and the first of them.
use Rattle.std.specs.Prelude.{ℕ, List, [], ◌∷◌, ◌++◌, Option, Some, None, Bool, true, false, not}
use Rattle.std.specs.List.{list_any}
use Rattle.std.specs.Prelude.{bytes_eq}
use Rattle.descriptor_json.specs.Places.{JsonPointer}

abbrev pub first : {A : Type 0} → List A → Option A
first [] = None
first (x ∷ xs) = Some x

-- this place, where the test fails
abbrev pub unless : Bool → JsonPointer → List JsonPointer
unless true p = []
unless false p = p ∷ []

-- the text is one of those before
abbrev pub is_among : List (List ℕ) → List ℕ → Bool
is_among earlier text = list_any (λ t. bytes_eq t text) earlier

-- the failing places of each item in turn, told whether its text is none of those before it
abbrev pub along : {X : Type 0} → (X → List ℕ) → (Bool → X → List JsonPointer) → List (List ℕ) → List X → List JsonPointer
along text failing earlier [] = []
along text failing earlier (x ∷ xs) = failing (not (is_among earlier (text x))) x ++ along text failing (text x ∷ earlier) xs
