use Rattle.std.proofs.Common.{◌≡◌, map, take}
use Rattle.dim_dictionary.proofs.sorting.references.Given as goal

abbrev pub invariant-loop-v : goal.invariant-loop-v
invariant-loop-v l = map (λ v. v.now) l.refs.items ≡ take l.v-index l.values
