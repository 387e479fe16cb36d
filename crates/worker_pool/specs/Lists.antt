-- Lists and one of their members.
use Rattle.std.specs.Prelude.{◌≡◌, ◌++◌, ◌∷◌, List}

-- the rest is the whole list without this member, wherever it stands
pub record IsWithout {A : Type 0} (member : A) (whole rest : List A) : Type 0 where
  pub front : List A
  pub back : List A
  pub before : whole ≡ front ++ member ∷ back
  pub after : rest ≡ front ++ back
