use Rattle.std.proofs.Common.{◌≡◌, drop}
use Rattle.byte_frame.specs.Reading.{each_at}
use Rattle.byte_frame.proofs.Loop.{with_front}
use Rattle.byte_frame.proofs.lists.read_each.Given as goal

abbrev pub invariant-loop-c : goal.invariant-loop-c
invariant-loop-c g l = with_front l.items.items (each_at g.C.Reads.at (drop l.c-index l.cs) l.r) ≡ each_at g.C.Reads.at l.cs l.initial.r
