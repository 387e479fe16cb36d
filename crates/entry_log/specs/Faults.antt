-- What a fault of the disk is to a log.
use Rattle.disk_image.specs.declared.fault.DiskFault.{DiskFault}
use Rattle.disk_image.specs.declared.fault.DiskFault.TheVariants.{Memory, Failed}
use Rattle.entry_log.specs.declared.fault.LogFault.{LogFault}
use Rattle.entry_log.specs.declared.fault.LogFault.TheVariants as log_fault

abbrev pub log_fault_of : DiskFault → LogFault
log_fault_of Memory = log_fault.Memory
log_fault_of Failed = log_fault.Disk
