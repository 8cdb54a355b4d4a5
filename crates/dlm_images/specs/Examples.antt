-- One short operation: the first submission, over one disk of zeros of which every call succeeds.
use Rattle.std.specs.Prelude.{false, [], ◌∷◌}
use Rattle.disk.specs.Disk.{DiskState, Call, Answer, Booted, Told, Done, Fault, Succeeds}
use Rattle.disk.specs.Simulated.{fresh_disk}
use Rattle.torn_block.specs.Layout.{cluster_version}
use Rattle.paxos_block.specs.Places.{image_length}
use Rattle.lock_command.specs.declared.mode.Mode.TheVariants.{Exclusive}
use Rattle.lock_command.specs.declared.command.Command.{Command}
use Rattle.lock_command.specs.declared.command.Action.TheVariants.{Enqueue}
use Rattle.paxos_block.specs.Shape.{Shape}
use Rattle.host.specs.Host.{Memory, Submitting, fresh, goes_on}

-- one disk, and room for one command
abbrev pub one_disk : Shape
one_disk = record { disks = 1; slots = 1 }

-- an image of it, with nothing in it
abbrev pub blank : DiskState
blank = fresh_disk (image_length cluster_version 1)

-- through host 0 client 1 asks for lock 1 on db, exclusively
abbrev pub takes_db : Command
takes_db = record { host = 0; client = 1; request = 1; action = Enqueue 1 (100 ∷ 98 ∷ []) Exclusive false }

-- a host that knows nothing submits that, with one try
abbrev pub begun : Memory
begun = goes_on one_disk fresh (Submitting takes_db) 1

-- a disk gives success alone
abbrev pub AlwaysSucceeds : DiskState → Call → Answer → DiskState → Type 0
AlwaysSucceeds old call answer new = Succeeds call old answer new

-- what a disk may answer to who attaches
abbrev pub IsBootOrFault : Answer → Type 0
IsBootOrFault (Booted boot) = Unit {0}
IsBootOrFault (Told bytes) = ⊥
IsBootOrFault Done = ⊥
IsBootOrFault (Fault fault) = Unit {0}
