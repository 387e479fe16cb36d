use Rattle.std.proofs.Common.{◌≡◌, take}
use Rattle.disk_image.specs.MemoryDisk.{latest_first, reads_as, stopped}
use Rattle.disk_image.proofs.replay.stopped_file.Given as goal

-- the calls so far are done
abbrev pub invariant-loop-call : goal.invariant-loop-call
invariant-loop-call l = record {
  read : l.file.items ≡ reads_as l.start (latest_first (take l.call-index l.calls));
  left : l.image.items ≡ stopped l.fill l.start (latest_first (take l.call-index l.calls));
}
