use Rattle.disk_image.specs.MemoryDisk.{Changed, Refused, Writes}
use Rattle.disk_image.proofs.Calls.{faults_rise, time_goes_on}
use Rattle.disk_image.proofs.memory_disk.MemoryDiskDisk.write_at.Goals as goal

pub returns-clause-time : goal.returns-clause-time
returns-clause-time c = time_goes_on (Changed (Writes c.args.at c.args.bytes.now)) (Refused (Writes c.args.at c.args.bytes.now)) c.write.result _ _ c.write.ensures.called

pub returns-clause-faults : goal.returns-clause-faults
returns-clause-faults c = faults_rise (Changed (Writes c.args.at c.args.bytes.now)) (Refused (Writes c.args.at c.args.bytes.now)) c.write.result _ _ c.write.ensures.called c.write.ensures.was_bounded
