use Rattle.std.proofs.Common.{◌≡◌, drop}
use Rattle.byte_frame.specs.Reading.{each_at}
use Rattle.byte_frame.proofs.Loop.{with_front}
use Rattle.cube_fields.proofs.each.read_behind.Given as goal

abbrev pub invariant-loop-c : goal.invariant-loop-c
invariant-loop-c g l = with_front l.items.items (each_at (g.C.ReadsIn.at l.env) (drop l.c-index l.cs) l.r) ≡ with_front l.fn.front.items (each_at (g.C.ReadsIn.at l.env) l.cs l.initial.r)
