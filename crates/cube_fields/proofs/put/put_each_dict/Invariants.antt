use Rattle.std.proofs.Common.{◌≡◌, ◌++◌, take}
use Rattle.std.specs.List.{flat_map}
use Rattle.cube_fields.specs.Dicts.{dict_text}
use Rattle.cube_fields.proofs.put.put_each_dict.Given as goal

abbrev pub invariant-loop-i : goal.invariant-loop-i
invariant-loop-i l = l.out.items ≡ l.fn.out.items ++ flat_map dict_text (take l.i l.dicts)
