use Rattle.std.proofs.Common.{◌≡◌, take}
use Rattle.disk_image.specs.MemoryDisk.{latest_first, reads_as}
use Rattle.disk_image.proofs.replay.replayed.Given as goal

-- the calls so far are done
abbrev pub invariant-loop-call : goal.invariant-loop-call
invariant-loop-call l = l.file.items ≡ reads_as l.start (latest_first (take l.call-index l.calls))
