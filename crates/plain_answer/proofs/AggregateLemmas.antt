-- Facts on aggregates.
use Rattle.std.proofs.Common.{◌≡◌, ℕ, ℤ, pos, ◌+◌, ◌<◌, ◌≤◌, List, [], ◌∷◌, length, get_or, take, Some, None, ap, ◌∙◌, arith}
use Rattle.std.specs.declared.option.Option.{Option}
use Rattle.std.specs.List.{filter_map, cons_option}
use Rattle.std.proofs.lemmas.List.{take_more}
use Rattle.cube_val.specs.declared.val.Val.{Val}
use Rattle.measure_laws.specs.MeasureFacts.{sum_laws}
use Rattle.measure_laws.specs.Measures.{merged_sum, summed}
use Rattle.plain_answer.specs.Aggregates.{cell, known, known_values}

pub length-filter_map : {X Y : Type 0} (h : X → Option Y) (xs : List X) → length (filter_map h xs) ≤ length xs
length-filter_map h [] = omega arith
length-filter_map {Y = Y} h (x ∷ xs) = by (h x) (length-filter_map h xs)
  where
    by : (o : Option Y) → length (filter_map h xs) ≤ length xs → length (cons_option o (filter_map h xs)) ≤ length (x ∷ xs)
    by None more = omega arith
    by (Some y) more = omega arith

-- no more known values than rows
pub length-known_values : (column : Option ℕ) (rows : List (List Val)) → length (known_values column rows) ≤ length rows
length-known_values None rows = omega arith
length-known_values (Some column) rows = length-filter_map (λ row. known (cell row column)) rows

-- the sum of one more number
pub summed_more : (ns : List ℤ) (i : ℕ) → i < length ns → summed (take (i + 1) ns) ≡ merged_sum (summed (take i ns)) (summed (get_or ns i (pos 0) ∷ []))
summed_more ns i here = ap summed (take_more ns i (pos 0) here) ∙ sum_laws.joined (take i ns) (get_or ns i (pos 0) ∷ [])
