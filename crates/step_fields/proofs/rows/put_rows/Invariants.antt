use Rattle.std.proofs.Common.{◌≡◌, ◌++◌, length, take}
use Rattle.std.specs.Int.{w32, to_be_bytes}
use Rattle.std.specs.List.{flat_map}
use Rattle.step_fields.specs.Spelling.{row_text}
use Rattle.step_fields.proofs.rows.put_rows.Given as goal

abbrev pub invariant-loop-row : goal.invariant-loop-row
invariant-loop-row l = l.out.items ≡ (l.fn.out.items ++ to_be_bytes w32 (length l.rows)) ++ flat_map row_text (take l.row-index l.rows)
