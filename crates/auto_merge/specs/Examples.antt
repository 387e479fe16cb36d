-- Days of a week, by the numbers of their days.
use Rattle.std.specs.Prelude.{ℕ, zero, suc, ◌+◌, List, [], ◌∷◌}
use Rattle.range_list.specs.Ranges.{Interval}

-- so many ranges of one day, one after the other
abbrev pub days_from : ℕ → ℕ → List Interval
days_from day zero = []
days_from day (suc count) = record { start = day; end = day + 1 } ∷ days_from (day + 1) count

abbrev pub week : List Interval
week = days_from 0 7

-- the first, the second and the fourth of them
abbrev pub with_hole : List Interval
with_hole = record { start = 0; end = 1 } ∷ record { start = 1; end = 2 } ∷ record { start = 3; end = 4 } ∷ []

-- six days as one range, and the seventh day
abbrev pub six_and_one : List Interval
six_and_one = record { start = 0; end = 6 } ∷ record { start = 6; end = 7 } ∷ []
