use Rattle.disk_image.specs.MemoryDisk.{Changed, Cuts, Refused}
use Rattle.disk_image.proofs.Calls.{faults_rise, time_goes_on}
use Rattle.disk_image.proofs.memory_disk.MemoryDiskDisk.cut.Goals as goal

pub returns-clause-time : goal.returns-clause-time
returns-clause-time c = time_goes_on (Changed (Cuts c.args.len)) (Refused (Cuts c.args.len)) c.change.result _ _ c.change.ensures.called

pub returns-clause-faults : goal.returns-clause-faults
returns-clause-faults c = faults_rise (Changed (Cuts c.args.len)) (Refused (Cuts c.args.len)) c.change.result _ _ c.change.ensures.called c.change.ensures.was_bounded
