-- What a call writes lies on a disk, and the shape that every step keeps.
use Rattle.std.specs.Prelude.{◌≡◌, ◌+◌, ◌≤◌, ℕ, length}
use Rattle.disk.specs.Disk.{DiskState, Call, Attach, Read, Write, Sync}
use Rattle.disk.specs.Crash.{IsWhole}

-- what the call writes lies on the disk
abbrev pub WritesOn : DiskState → Call → Type 0
WritesOn disk Attach = Unit {0}
WritesOn disk (Read boot at len) = Unit {0}
WritesOn disk (Write boot at from) = at + length from ≤ length disk.bytes
WritesOn disk (Sync boot) = Unit {0}

-- as many flags as bytes, and so many
abbrev pub HasShape : ℕ → DiskState → Type 0
HasShape size disk = IsWhole disk × (length disk.bytes ≡ size)
