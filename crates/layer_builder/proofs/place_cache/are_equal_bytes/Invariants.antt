use Rattle.std.proofs.Common.{◌≡◌, take}
use Rattle.layer_builder.proofs.place_cache.are_equal_bytes.Given as goal

abbrev pub invariant-loop-i : goal.invariant-loop-i
invariant-loop-i l = take l.i l.a ≡ take l.i l.b
