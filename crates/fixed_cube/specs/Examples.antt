-- A small fact table and a month.
use Rattle.std.specs.Prelude.{ℕ, ℤ, pos, List, [], ◌∷◌, codes}
use Rattle.cube_val.specs.declared.val.Val.{Val}
use Rattle.cube_val.specs.declared.val.Val.TheVariants.{Int, Text}
use Rattle.range_list.specs.Ranges.{Interval}
use Rattle.run_history.specs.Cubes.{Snapshot}

abbrev fact : List ℕ → List ℕ → List ℕ → ℤ → List Val
fact day first second m = Text day ∷ Text first ∷ Text second ∷ Int m ∷ []

abbrev pub facts : List (List Val)
facts =
    fact (codes "2012-01-01") (codes "a") (codes "x") (pos 1) ∷ fact (codes "2012-01-02") (codes "b") (codes "x") (pos 2)
    ∷ fact (codes "2012-02-01") (codes "a") (codes "y") (pos 3) ∷ []

-- from 2012-01-01 to 2012-02-01
abbrev pub january : Interval
january = record { start = 734_868; end = 734_899 }

abbrev pub small : Snapshot
small = record { tables = facts ∷ []; range = january }
