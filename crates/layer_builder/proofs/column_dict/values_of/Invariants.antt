use Rattle.std.proofs.Common.{◌≤◌, length, map, take}
use Rattle.plain_answer.specs.Aggregates.{cell}
use Rattle.layer_builder.proofs.ValueFacts.{AreAlike}
use Rattle.layer_builder.proofs.column_dict.values_of.Given as goal

abbrev pub invariant-loop-row : goal.invariant-loop-row
invariant-loop-row l = record {
  alike : AreAlike l.values.items (map (λ row. cell row l.column) (take l.row-index l.rows));
  few : length l.values.items ≤ l.row-index;
}
