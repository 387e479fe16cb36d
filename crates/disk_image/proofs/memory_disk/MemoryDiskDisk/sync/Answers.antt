use Rattle.disk_image.specs.MemoryDisk.{Looked, Synced}
use Rattle.disk_image.proofs.Calls.{faults_rise, time_goes_on, sync_within}
use Rattle.disk_image.proofs.memory_disk.MemoryDiskDisk.sync.Goals as goal

pub returns-clause-time : goal.returns-clause-time
returns-clause-time c = time_goes_on Synced Looked c.keep_all.result _ _ c.keep_all.ensures.called

pub returns-clause-faults : goal.returns-clause-faults
returns-clause-faults c = faults_rise Synced Looked c.keep_all.result _ _ c.keep_all.ensures.called c.keep_all.ensures.was_bounded

pub returns-clause-images : goal.returns-clause-images
returns-clause-images c = sync_within c.keep_all.result _ _ c.keep_all.ensures.called
