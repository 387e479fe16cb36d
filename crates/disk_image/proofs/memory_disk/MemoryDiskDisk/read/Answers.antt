use Rattle.disk_image.specs.MemoryDisk.{Looked}
use Rattle.disk_image.proofs.Calls.{faults_rise, time_goes_on}
use Rattle.disk_image.proofs.memory_disk.MemoryDiskDisk.read.Goals as goal

pub returns-clause-time : goal.returns-clause-time
returns-clause-time c = time_goes_on Looked Looked c.look_at_part.result _ _ c.look_at_part.ensures.called

pub returns-clause-faults : goal.returns-clause-faults
returns-clause-faults c = faults_rise Looked Looked c.look_at_part.result _ _ c.look_at_part.ensures.called c.look_at_part.ensures.was_bounded
