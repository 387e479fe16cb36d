use Rattle.std.proofs.Common.{◌≡◌, ◌-◌}
use Rattle.byte_frame.specs.Reading.{items_at}
use Rattle.byte_frame.proofs.Loop.{with_front}
use Rattle.byte_frame.proofs.lists.read_items.Given as goal

abbrev pub invariant-loop : goal.invariant-loop
invariant-loop g l = with_front l.items.items (items_at (g.C.Reads.at l.c) (l.count - l.counter) l.r) ≡ items_at (g.C.Reads.at l.c) l.count l.initial.r
