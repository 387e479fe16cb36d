use Rattle.std.proofs.Common.{◌≤◌, length}
use Rattle.os_objects.proofs.file_disk.fill.Given as goal

-- what was read lies in the room
abbrev pub invariant-loop : goal.invariant-loop
invariant-loop l = l.filled ≤ length l.room
