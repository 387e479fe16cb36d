-- The rows of a small file.
use Rattle.std.specs.Prelude.{pos, List, [], ◌∷◌, codes}
use Rattle.cube_val.specs.declared.val.Val.{Val}
use Rattle.cube_val.specs.declared.val.Val.TheVariants.{Int, Text}

abbrev pub three_rows : List (List Val)
three_rows =
    (Text (codes "a") ∷ Text (codes "x") ∷ Int (pos 1) ∷ [])
    ∷ (Text (codes "b") ∷ Text (codes "x") ∷ Int (pos 2) ∷ [])
    ∷ (Text (codes "a") ∷ Text (codes "y") ∷ Int (pos 3) ∷ [])
    ∷ []
