use Rattle.std.proofs.Common.{◌≡◌, map}
use Rattle.std.specs.List.{range_with_len}
use Rattle.plain_answer.specs.Aggregates.{cell}
use Rattle.layer_builder.specs.Base.{dict_at, number_in}
use Rattle.layer_builder.proofs.keys.key_of.Given as goal

abbrev pub invariant-loop-column : goal.invariant-loop-column
invariant-loop-column l = l.key.items ≡ map (λ column. number_in (dict_at l.dicts column) (cell l.row column)) (range_with_len 0 l.column)
