use Rattle.std.proofs.Common.{◌≡◌, map, take}
use Rattle.dim_dictionary.proofs.sorting.copies.Given as goal

abbrev pub invariant-loop-v : goal.invariant-loop-v
invariant-loop-v l = l.values.items ≡ map (λ v. v.now) (take l.v-index l.refs)
