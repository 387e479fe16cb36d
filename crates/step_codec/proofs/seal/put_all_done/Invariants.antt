use Rattle.std.proofs.Common.{◌≡◌, ◌++◌, length, take}
use Rattle.std.specs.Int.{w32, to_be_bytes}
use Rattle.std.specs.List.{flat_map}
use Rattle.step_codec.specs.Seals.{done_text}
use Rattle.step_codec.proofs.seal.put_all_done.Given as goal

abbrev pub invariant-loop-step : goal.invariant-loop-step
invariant-loop-step l = l.out.items ≡ (l.fn.out.items ++ to_be_bytes w32 (length l.done)) ++ flat_map done_text (take l.step-index l.done)
