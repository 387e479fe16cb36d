use Rattle.std.proofs.Common.{◌≡◌, map, take}
use Rattle.dim_dictionary.specs.Dictionaries.{merged_dictionary}
use Rattle.dim_dictionary.proofs.merge.union_of.Given as goal

abbrev pub invariant-loop-part : goal.invariant-loop-part
invariant-loop-part l = map (λ v. v.now) l.merged.items ≡ merged_dictionary (take l.part-index l.parts)
