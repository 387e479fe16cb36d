-- Lists of failing places, and the least of them.
use Rattle.std.specs.Prelude.{ℕ, List, [], ◌∷◌, Option, Some, None, Bool, true, false, min}

-- the lesser of two places, where there are two
abbrev pub lesser : Option ℕ → Option ℕ → Option ℕ
lesser None q = q
lesser (Some p) None = Some p
lesser (Some p) (Some q) = Some (min p q)

-- the least place, where there is one
abbrev pub least : List ℕ → Option ℕ
least [] = None
least (p ∷ ps) = lesser (Some p) (least ps)

-- this place, where the test fails
abbrev pub unless : Bool → ℕ → List ℕ
unless true p = []
unless false p = p ∷ []
