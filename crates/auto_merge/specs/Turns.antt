-- What the actions of a plan make of the ranges, one after the other.
use Rattle.std.specs.Prelude.{◌≡◌, ℕ, ◌+◌, ◌≤◌, List, [], ◌∷◌, slice_get, remove, Some}
use Rattle.std.specs.List.{replace_range}
use Rattle.range_list.specs.Ranges.{Interval, IsApart, Fills}
use Rattle.auto_merge.specs.declared.action.Action.{Action}
use Rattle.auto_merge.specs.declared.action.Action.TheVariants.{Drop, Merge}

-- The action can be taken on the ranges rs, and makes next of them: a drop takes one of them away, a merge puts a range in the
-- place of two or more that fill it without a hole.
abbrev pub Takes : List Interval → Action → List Interval → Type 0
Takes rs (Drop r) next = (i : ℕ) × (slice_get rs i ≡ Some r) × (next ≡ remove rs i)
Takes rs (Merge r) next =
    (first : ℕ) × (count : ℕ) × (2 ≤ count) × Fills rs r first count × (next ≡ replace_range rs first (first + count) (r ∷ []))

-- each action can be taken at its turn, and all of them make left of the ranges rs, which stay apart
abbrev pub TakesEach : List Interval → List Action → List Interval → Type 0
TakesEach rs [] left = IsApart rs × (rs ≡ left)
TakesEach rs (a ∷ more) left = (next : List Interval) × IsApart rs × Takes rs a next × TakesEach next more left
