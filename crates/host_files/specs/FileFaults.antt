-- The faults of calls on files.
use Rattle.host_model.specs.declared.fault.HostFault.{HostFault}
use Rattle.host_model.specs.declared.fault.HostFault.TheVariants.{Disk as OfDisk, Memory as OfMemory}
use Rattle.host_files.specs.declared.file_fault.FileFault.{FileFault}
use Rattle.host_files.specs.declared.file_fault.FileFault.TheVariants.{Disk, Memory}

-- what a host answers for it
abbrev pub fault_of : FileFault → HostFault
fault_of Disk = OfDisk
fault_of Memory = OfMemory
