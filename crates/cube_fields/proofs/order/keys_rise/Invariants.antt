use Rattle.std.proofs.Common.{◌≡◌, drop}
use Rattle.byte_frame.specs.Spelling.{rises}
use Rattle.cube_fields.specs.Reading.{key_before}
use Rattle.cube_fields.proofs.order.keys_rise.Given as goal

abbrev pub invariant-loop-i : goal.invariant-loop-i
invariant-loop-i l = rises key_before (drop l.i l.rows) ≡ rises key_before l.rows
