-- A disk that is larger than what is used of it.
use Rattle.std.specs.Prelude.{◌+◌, ◌≤◌, ℕ, length, take}
use Rattle.disk.specs.Disk.{DiskState, Call, Attach, Read, Write, Sync}

-- the first n positions, as a disk of their own
abbrev pub cut : ℕ → DiskState → DiskState
cut n disk =
    record { bytes = take n disk.bytes; unsynced = take n disk.unsynced; boot = disk.boot; gone = disk.gone }

-- there are so many, each with its flag
abbrev pub HasFirst : ℕ → DiskState → Type 0
HasFirst n disk = (n ≤ length disk.bytes) × (n ≤ length disk.unsynced)

-- what the call reads or writes lies among them
abbrev pub IsInFirst : ℕ → Call → Type 0
IsInFirst n Attach = Unit {0}
IsInFirst n (Read boot at len) = at + len ≤ n
IsInFirst n (Write boot at from) = at + length from ≤ n
IsInFirst n (Sync boot) = Unit {0}
