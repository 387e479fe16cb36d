use Rattle.std.proofs.Common.{◌≡◌, ◌++◌, length, take}
use Rattle.std.specs.Int.{w32, to_be_bytes}
use Rattle.std.specs.List.{flat_map}
use Rattle.cube_fields.specs.Cells.{id_text}
use Rattle.step_files.proofs.writing.put_sizes.Given as goal

abbrev pub invariant-loop-size : goal.invariant-loop-size
invariant-loop-size l = l.out.items ≡ (l.fn.out.items ++ to_be_bytes w32 (length l.sizes)) ++ flat_map id_text (take l.size-index l.sizes)
