use Rattle.std.proofs.Common.{◌≡◌, map}
use Rattle.plain_answer.specs.Answers.{aggregates_of, rows_at}
use Rattle.plain_answer.proofs.groups.groups_at.Given as goal

abbrev pub invariant-loop-key : goal.invariant-loop-key
invariant-loop-key l =
    goal.iterator-loop-key.can_next l.key-iterator ×
    goal.iterator-loop-key.is_finite l.key-iterator ×
    (l.groups.items ≡ map (λ key. record { key = key; values = aggregates_of l.aggs (rows_at l.columns (map (λ row. row.now) l.rows) key) }) l.yielded)
