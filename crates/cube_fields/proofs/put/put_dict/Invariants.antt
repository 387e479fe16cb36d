use Rattle.std.proofs.Common.{◌≡◌, ◌++◌, length, take}
use Rattle.std.specs.Int.{w32, to_be_bytes}
use Rattle.std.specs.List.{flat_map}
use Rattle.step_fields.specs.Spelling.{val_text}
use Rattle.cube_fields.proofs.put.put_dict.Given as goal

abbrev pub invariant-loop-v : goal.invariant-loop-v
invariant-loop-v l = l.out.items ≡ (l.fn.out.items ++ to_be_bytes w32 (length l.dict)) ++ flat_map val_text (take l.v-index l.v-items)
