use Rattle.std.proofs.Common.{◌≡◌, ◌++◌, take}
use Rattle.std.specs.List.{flat_map}
use Rattle.step_fields.specs.Spelling.{rows_text}
use Rattle.step_codec.proofs.loaded.put_loaded.Given as goal

abbrev pub invariant-loop-t : goal.invariant-loop-t
invariant-loop-t l = l.out.items ≡ l.fn.out.items ++ flat_map rows_text (take l.t l.tables)
