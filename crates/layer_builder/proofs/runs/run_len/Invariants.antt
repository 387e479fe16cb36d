use Rattle.std.proofs.Common.{◌≡◌, ◌+◌, drop}
use Rattle.std.specs.List.{prefix_len}
use Rattle.layer_builder.specs.Runs.{has_key}
use Rattle.layer_builder.proofs.runs.run_len.Given as goal

abbrev pub invariant-loop-row : goal.invariant-loop-row
invariant-loop-row l = (l.n ≡ l.row-index) × (l.n + prefix_len (has_key l.key) (drop l.n l.rows) ≡ prefix_len (has_key l.key) l.rows)
