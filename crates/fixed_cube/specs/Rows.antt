-- The joined rows of the fixed cube: the rows of F that lie in a range.
use Rattle.std.specs.Prelude.{ℕ, ℤ, Bool, true, false, ◌&&◌, nat_le, nat_lt, List, [], ◌∷◌, filter, map, Option, Some, None}
use Rattle.calendar.specs.Dates.{day_of}
use Rattle.cube_val.specs.declared.val.Val.{Val}
use Rattle.cube_val.specs.declared.val.Val.TheVariants.{Null, Int, Text}
use Rattle.cube_val.specs.Order.{number_of}
use Rattle.plain_answer.specs.Aggregates.{cell}
use Rattle.range_list.specs.Ranges.{Interval}

-- the day that a value is the text of
abbrev pub day_in : Val → Option ℕ
day_in Null = None
day_in (Int n) = None
day_in (Text t) = day_of t

abbrev pub has_day : Interval → Option ℕ → Bool
has_day range None = false
has_day range (Some day) = nat_le range.start day && nat_lt day range.end

-- whether the row's DT lies in the range
abbrev pub lies_in : Interval → List Val → Bool
lies_in range row = has_day range (day_in (cell row 0))

-- D1, D2 and M of a row of F
abbrev pub joined_row : List Val → List Val
joined_row row = cell row 1 ∷ cell row 2 ∷ cell row 3 ∷ []

-- the joined rows: those whose DT lies in the range, in file order
abbrev pub joined : Interval → List (List Val) → List (List Val)
joined range rows = map joined_row (filter (lies_in range) rows)

-- D1 and D2 of a joined row
abbrev pub key_of_row : List Val → List Val
key_of_row row = cell row 0 ∷ cell row 1 ∷ []

-- M of a joined row
abbrev pub item_of_row : List Val → ℤ
item_of_row row = number_of (cell row 2)

abbrev pub IsNumber : Val → Type 0
IsNumber Null = ⊥
IsNumber (Int n) = Unit {0}
IsNumber (Text t) = ⊥

-- M of a joined row is a number
abbrev pub HasNumber : List Val → Type 0
HasNumber row = IsNumber (cell row 2)
