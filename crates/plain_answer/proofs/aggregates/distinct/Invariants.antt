use Rattle.std.proofs.Common.{◌≡◌, ◌++◌, List, vec_len}
use Rattle.aggregation.specs.Groups.{distinct}
use Rattle.plain_answer.proofs.aggregates.distinct.Given as goal

abbrev pub invariant-loop-key : goal.invariant-loop-key
invariant-loop-key g l = (taken : List g.row.K.Denot) × (l.initial.keys.items ≡ l.keys.items ++ taken) × (l.set.keys ≡ distinct g.K.Ord.cmp taken)

abbrev pub decreases-loop-key : goal.decreases-loop-key
decreases-loop-key g l = vec_len l.keys
