-- What the rows of a group come to.
use Rattle.std.specs.Prelude.{ℕ, ℤ, pos, List, [], ◌∷◌, length, Option, Some, None, slice_get, unwrap_or, int_div}
use Rattle.std.specs.List.{filter_map, reduce}
use Rattle.std.specs.Int.{int_min, int_max}
use Rattle.cube_val.specs.declared.val.ColType.{ColType}
use Rattle.cube_val.specs.declared.val.ColType.TheVariants as ty
use Rattle.cube_val.specs.declared.val.Val.{Val}
use Rattle.cube_val.specs.declared.val.Val.TheVariants.{Null, Int, Text}
use Rattle.cube_val.specs.Order.{val_cmp}
use Rattle.measure_laws.specs.Measures.{int_sum}
use Rattle.aggregation.specs.Groups.{distinct}
use Rattle.plain_answer.specs.declared.answer.OutVal.{OutVal}
use Rattle.plain_answer.specs.declared.answer.OutVal.TheVariants as out
use Rattle.plain_answer.specs.declared.ask.Agg.{Agg}
use Rattle.plain_answer.specs.declared.ask.AggKind.{AggKind}
use Rattle.plain_answer.specs.declared.ask.AggKind.TheVariants.{Count, Known, Sum, Min, Max, Distinct, Avg}
use Rattle.plain_answer.specs.OutVals.{in_units, shown_number}

-- a row's value in a column
abbrev pub cell : List Val → ℕ → Val
cell row column = unwrap_or (slice_get row column) Null

-- a value, where it isn't null
abbrev pub known : Val → Option Val
known Null = None
known (Int n) = Some (Int n)
known (Text t) = Some (Text t)

abbrev pub number_in : Val → Option ℤ
number_in Null = None
number_in (Int n) = Some n
number_in (Text t) = None

-- the values of a column in rows that an aggregate takes: those that aren't null
abbrev pub known_values : Option ℕ → List (List Val) → List Val
known_values None rows = []
known_values (Some column) rows = filter_map (λ row. known (cell row column)) rows

abbrev pub numbers_of : List Val → List ℤ
numbers_of vs = filter_map number_in vs

-- the sum of numbers, as it is shown; of no number it is null
abbrev pub sum_shown : ColType → List ℤ → OutVal
sum_shown t [] = out.Null
sum_shown t (n ∷ ns) = shown_number t (int_sum (n ∷ ns))

-- a number of a column of the type, as it is shown; where there is none, it is null
abbrev pub number_or_null : ColType → Option ℤ → OutVal
number_or_null t None = out.Null
number_or_null t (Some n) = shown_number t n

-- a number of a column of the type, in units of 1/10000
abbrev pub column_units : ColType → ℤ → ℤ
column_units ty.Decimal n = n
column_units t n = in_units n

-- the sum of numbers by their count, cut toward zero to four decimals; of no number it is null
abbrev pub average_shown : ColType → List ℤ → OutVal
average_shown t [] = out.Null
average_shown t (n ∷ ns) = out.Units (int_div (column_units t (int_sum (n ∷ ns))) (pos (length (n ∷ ns))))

-- what an aggregate of the kind makes of rows
abbrev pub shown_of_kind : AggKind → Option ℕ → ColType → List (List Val) → OutVal
shown_of_kind Count column t rows = out.Whole (pos (length rows))
shown_of_kind Known column t rows = out.Whole (pos (length (known_values column rows)))
shown_of_kind Distinct column t rows = out.Whole (pos (length (distinct val_cmp (known_values column rows))))
shown_of_kind Sum column t rows = sum_shown t (numbers_of (known_values column rows))
shown_of_kind Min column t rows = number_or_null t (reduce int_min (numbers_of (known_values column rows)))
shown_of_kind Max column t rows = number_or_null t (reduce int_max (numbers_of (known_values column rows)))
shown_of_kind Avg column t rows = average_shown t (numbers_of (known_values column rows))

-- what an aggregate makes of rows
abbrev pub aggregate_of : Agg → List (List Val) → OutVal
aggregate_of agg rows = shown_of_kind agg.kind agg.column agg.ty rows
