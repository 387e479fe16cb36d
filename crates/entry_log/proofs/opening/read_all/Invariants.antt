use Rattle.std.proofs.Common.{◌≡◌, ◌-◌, ℕ, List, Some, length, take}
use Rattle.entry_log.specs.Looks.{LeftAlone}
use Rattle.entry_log.proofs.opening.read_all.Given as goal

-- the front of the file was read, and nothing changed
abbrev pub invariant-loop-alloc : goal.invariant-loop-alloc
invariant-loop-alloc g l = record {
  front : (file : List ℕ) → g.D.Disk.content l.fn.disk ≡ Some file → l.all.items ≡ take (length l.all.items) file;
  looked : LeftAlone g.D.Disk.content g.D.Disk.crash_image g.D.Disk.clock g.D.Disk.image_since g.D.Disk.faults l.fn.disk l.disk;
}

abbrev pub decreases-loop-alloc : goal.decreases-loop-alloc
decreases-loop-alloc g l = l.len - length l.all.items
