use Rattle.std.proofs.Common.{take}
use Rattle.std.specs.List.{AllZip}
use Rattle.dim_dictionary.specs.Dictionaries.{KeepsValues}
use Rattle.dim_dictionary.proofs.merge.remaps_of.Given as goal

abbrev pub invariant-loop-part : goal.invariant-loop-part
invariant-loop-part l = AllZip (KeepsValues l.merged) (take l.part-index l.parts) l.remaps.items
