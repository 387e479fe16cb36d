use Rattle.std.proofs.Common.{◌≡◌, map, take}
use Rattle.plain_answer.proofs.aggregates.count_distinct.Given as goal

abbrev pub invariant-loop-v : goal.invariant-loop-v
invariant-loop-v l = l.copies.items ≡ map (λ v. v.now) (take l.v-index l.values)
