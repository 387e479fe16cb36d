use Rattle.std.proofs.Common.{take}
use Rattle.dim_dictionary.specs.Dictionaries.{KeepsValues}
use Rattle.dim_dictionary.proofs.merge.numbers_of.Given as goal

abbrev pub invariant-loop-v : goal.invariant-loop-v
invariant-loop-v l = KeepsValues l.merged (take l.v-index l.v-items) l.ids.items
