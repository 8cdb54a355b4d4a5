-- Which fault a race makes of a refusal of its hosts.
use Rattle.cluster.specs.declared.fault.HostFault.{HostFault}
use Rattle.cluster.specs.declared.fault.HostFault.TheVariants as host
use Rattle.dlm_tasks.specs.Faults.{of_refusal}
use Rattle.dlm_tasks.specs.declared.fault.Fault.{Fault}
use Rattle.dlm_tasks.specs.declared.fault.Fault.TheVariants.{NoMemory, JournalFull, SeatTaken, SeatsMissing, OpenCall}

-- a host of a cluster of threads was refused
abbrev pub of_host : HostFault → Fault
of_host (host.Refused refusal) = of_refusal refusal
of_host host.NoMemory = NoMemory
of_host host.JournalFull = JournalFull
of_host host.SeatTaken = SeatTaken
of_host host.SeatsMissing = SeatsMissing
of_host host.OpenCall = OpenCall
