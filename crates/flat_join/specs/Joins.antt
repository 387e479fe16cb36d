-- Joined rows: the fact rows of a range, each with the rows of the lookups that it matches.
use Rattle.std.specs.Prelude.{ℕ, List, [], ◌∷◌, map, filter, find, zip, Option, Some, None, Bool, false, ◌&&◌, ◌||◌, not, is_some, nat_le, nat_lt, slice_get}
use Rattle.std.specs.List.{list_all}
use Rattle.std.specs.Ordering.{is_eq}
use Rattle.calendar.specs.Dates.{day_of}
use Rattle.range_list.specs.Ranges.{Interval}
use Rattle.cube_val.specs.Order.{row_cmp}
use Rattle.cube_val.specs.declared.form.JoinPlan.{JoinPlan}
use Rattle.cube_val.specs.declared.form.JoinStep.{JoinStep}
use Rattle.cube_val.specs.declared.form.WideCol.{WideCol}
use Rattle.cube_val.specs.declared.val.Val.{Val}
use Rattle.cube_val.specs.declared.val.Val.TheVariants.{Null, Int, Text}
use Rattle.table_reader.specs.Keys.{has_null, key_of, val_at}

-- ---- ranges

-- the day that a value of a date column is; null is none
abbrev pub day_in : Val → Option ℕ
day_in Null = None
day_in (Int n) = None
day_in (Text t) = day_of t

-- the day lies in the range; no day lies in none
abbrev pub is_within : Interval → Option ℕ → Bool
is_within r None = false
is_within r (Some day) = nat_le r.start day && nat_lt day r.end

-- ---- matches

-- a primary key is equal to a foreign key, value by value. A null equals nothing
abbrev pub is_match : List Val → List Val → Bool
is_match primary foreign = not (has_null primary) && is_eq (row_cmp primary foreign)

-- the row of a lookup whose primary key equals the fact row's foreign key, if there is one. A table has one such row at most
abbrev pub match_in : List Val → JoinStep → List (List Val) → Option (List Val)
match_in fact join lookup = find (λ row. is_match (key_of join.primary row) (key_of join.foreign fact)) lookup

-- what a fact row matches in each lookup
abbrev pub matches_of : List JoinStep → List (List (List Val)) → List Val → List (Option (List Val))
matches_of joins lookups fact = map (λ (pair : JoinStep × List (List Val)). match_in fact pair.0 pair.1) (zip joins lookups)

-- each inner join has a match
abbrev pub has_inner_matches : List JoinStep → List (Option (List Val)) → Bool
has_inner_matches joins matches = list_all (λ (pair : JoinStep × Option (List Val)). not pair.0.inner || is_some pair.1) (zip joins matches)

-- ---- a joined row

-- the value at a column of a row that is joined; of no row it is null
abbrev pub part_value : Option (Option (List Val)) → ℕ → Val
part_value None column = Null
part_value (Some None) column = Null
part_value (Some (Some row)) column = val_at row column

-- the value of a column of the joined row: the fact row is table 0, and what it matches are the tables from 1 on
abbrev pub wide_value : List Val → List (Option (List Val)) → WideCol → Val
wide_value fact matches w = part_value (slice_get (Some fact ∷ matches) w.table) w.column

abbrev pub wide_row : List WideCol → List Val → List (Option (List Val)) → List Val
wide_row columns fact matches = map (wide_value fact matches) columns

-- ---- all joined rows

-- the partition date of the fact row lies in the range, and no inner join drops it
abbrev pub is_joined : JoinPlan → Interval → List Val → List (Option (List Val)) → Bool
is_joined plan range fact matches = is_within range (day_in (val_at fact plan.partition)) && has_inner_matches plan.joins matches

-- the joined rows of fact rows, in their order, given what each of them matches
abbrev pub joined_by : (List Val → List (Option (List Val))) → JoinPlan → List WideCol → Interval → List (List Val) → List (List Val)
joined_by matches plan columns range facts = map (λ fact. wide_row columns fact (matches fact)) (filter (λ fact. is_joined plan range fact (matches fact)) facts)

-- the fact table comes first, and then the lookups
abbrev pub fact_of : List (List (List Val)) → List (List Val)
fact_of [] = []
fact_of (table ∷ tables) = table

abbrev pub lookups_of : List (List (List Val)) → List (List (List Val))
lookups_of [] = []
lookups_of (table ∷ tables) = tables

-- the joined rows of tables and a range
abbrev pub joined : JoinPlan → List (List (List Val)) → Interval → List (List Val)
joined plan tables range = joined_by (matches_of plan.joins (lookups_of tables)) plan plan.wide range (fact_of tables)
