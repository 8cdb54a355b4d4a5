-- Of the headline. The entries of a list, with the bytes that faults left open, and what each makes of its disk and of its host.
use Rattle.std.specs.Prelude.{◌+◌, ◌==◌, ℕ, Bool, false, List, [], ◌∷◌, length, map, replicate, filter, nat_lt}
use Rattle.disk.specs.declared.fault.DiskFault.TheVariants.{Reset, Failed, Gone}
use Rattle.disk.specs.Disk.{DiskState, Call, Attach, Read, Write, Sync, Answer, Fault, written, synced, done_by, lost}
use Rattle.torn_block.specs.Layout.{cluster_version}
use Rattle.paxos_block.specs.Places.{row_place}
use Rattle.paxos_block.specs.Image.{rows_for}
use Rattle.lock_command.specs.declared.command.Command.{Command}
use Rattle.lock_command.specs.Command.{spelling}
use Rattle.paxos_block.specs.Shape.{Shape}
use Rattle.host.specs.declared.task.Task.{Task}
use Rattle.host.specs.Host.{Host, Stopped, Running, fresh, starts, hears_from}

pub data Filled : Type 0 where
  Start : (host : ℕ) → Filled
  Stop : (host : ℕ) → Filled
  -- a host was given a task
  Begin : (host : ℕ) → (task : Task) → Filled
  -- a device call with its answer, and what a write that failed left in its range
  Called : (host disk : ℕ) → (call : Call) → (answer : Answer) → (left : List ℕ) → Filled
  -- a host stopped within a write, which left these bytes in its range
  Torn : (host disk : ℕ) → (call : Call) → (left : List ℕ) → Filled
  -- a disk crashed, and these are its bytes then
  Crashed : (disk : ℕ) → (left : List ℕ) → Filled
  -- a disk is lost for good
  Lost : (disk : ℕ) → Filled
  -- so many disks begin as a complete migration of these commands left them
  Migrated : (disks : ℕ) → (log : List Command) → Filled

-- WHOSE IT IS

abbrev pub is_on : ℕ → Filled → Bool
is_on k (Called h d call answer left) = d == k
is_on k (Torn h d call left) = d == k
is_on k (Crashed d left) = d == k
is_on k (Lost d) = d == k
is_on k (Migrated disks log) = nat_lt k disks
is_on k other = false

abbrev pub is_of : ℕ → Filled → Bool
is_of h (Start g) = g == h
is_of h (Stop g) = g == h
is_of h (Begin g task) = g == h
is_of h (Called g d call answer left) = g == h
is_of h (Torn g d call left) = g == h
is_of h other = false

-- the entries on a disk, and those of a host
abbrev pub on_disk : ℕ → List Filled → List Filled
on_disk k log = filter (is_on k) log

abbrev pub of_host : ℕ → List Filled → List Filled
of_host h log = filter (is_of h) log

-- A DISK

-- a write that failed or was torn leaves these bytes in its range
abbrev pub torn_by : DiskState → Call → List ℕ → DiskState
torn_by old Attach left = old
torn_by old (Read boot at len) left = old
torn_by old (Write boot at from) left = written old at left
torn_by old (Sync boot) left = old

-- a call that was refused leaves the disk as it was
abbrev pub called_by : DiskState → Call → Answer → List ℕ → DiskState
called_by old call (Fault Failed) left = torn_by old call left
called_by old call (Fault Reset) left = old
called_by old call (Fault Gone) left = old
called_by old call answer left = done_by old call

-- a crash leaves these bytes, nothing unsynced, and the next boot number
abbrev pub crashed_to : DiskState → List ℕ → DiskState
crashed_to old left = record { bytes = left; unsynced = replicate (length old.bytes) false; boot = old.boot + 1; gone = old.gone }

-- a migration leaves a row for each command, from the first slot on, and nothing unsynced
abbrev pub migrated_to : DiskState → List Command → DiskState
migrated_to old log = synced (written old (row_place cluster_version 0) (rows_for (map spelling log)))

abbrev pub disk_step : DiskState → Filled → DiskState
disk_step old (Called h d call answer left) = called_by old call answer left
disk_step old (Torn h d call left) = torn_by old call left
disk_step old (Crashed d left) = crashed_to old left
disk_step old (Lost d) = lost old
disk_step old (Migrated disks log) = migrated_to old log
disk_step old other = old

-- what entries, one after the other, make of a disk
abbrev pub disk_after : DiskState → List Filled → DiskState
disk_after old [] = old
disk_after old (e ∷ es) = disk_after (disk_step old e) es

-- A HOST

-- a stopped host starts knowing nothing
abbrev pub started : Host → Host
started Stopped = Running fresh
started (Running m) = Running m

-- a running host begins a task
abbrev pub begins_on : Shape → Host → Task → Host
begins_on c Stopped task = Stopped
begins_on c (Running m) task = Running (starts c m task)

-- a running host hears an answer of a disk
abbrev pub hears_on : Shape → ℕ → Host → ℕ → Answer → Host
hears_on c h Stopped d answer = Stopped
hears_on c h (Running m) d answer = Running (hears_from c h m m.doing d answer)

abbrev pub host_step : Shape → ℕ → Host → Filled → Host
host_step c h old (Start g) = started old
host_step c h old (Stop g) = Stopped
host_step c h old (Begin g task) = begins_on c old task
host_step c h old (Called g d call answer left) = hears_on c h old d answer
host_step c h old (Torn g d call left) = Stopped
host_step c h old other = old

-- what entries, one after the other, make of a host
abbrev pub host_after : Shape → ℕ → Host → List Filled → Host
host_after c h old [] = old
host_after c h old (e ∷ es) = host_after c h (host_step c h old e) es
