-- What only reads, and what an attempt does that has no ballot to take.
use Rattle.disk.specs.Disk as device
use Rattle.attempt.specs.Status.{End, Decided, NoMajority, BallotsSpent}

-- the call writes nothing on its disk, and syncs nothing there
abbrev pub OnlyReads : device.Call → Type 0
OnlyReads (device.Write boot at from) = ⊥
OnlyReads (device.Sync boot) = ⊥
OnlyReads other = Unit {0}

-- it changes no byte of its disk, though it may sync what others wrote
abbrev pub LeavesBytes : device.Call → Type 0
LeavesBytes (device.Write boot at from) = ⊥
LeavesBytes other = Unit {0}

-- a marked block told what was chosen, or none did, or too few disks are left
abbrev pub EndsTheOpening : End → Type 0
EndsTheOpening (Decided value) = Unit {0}
EndsTheOpening NoMajority = Unit {0}
EndsTheOpening BallotsSpent = Unit {0}
EndsTheOpening other = ⊥
