use Rattle.std.proofs.Common.{◌≡◌, map, take}
use Rattle.std.specs.List.{filter_map}
use Rattle.plain_answer.specs.Aggregates.{number_in}
use Rattle.plain_answer.proofs.aggregates.numbers.Given as goal

abbrev pub invariant-loop-v : goal.invariant-loop-v
invariant-loop-v l = l.numbers.items ≡ filter_map number_in (map (λ v. v.now) (take l.v-index l.values))
