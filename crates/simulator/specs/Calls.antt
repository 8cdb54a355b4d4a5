-- A device call on a simulated disk, and what becomes of the disk.
use Rattle.std.specs.Prelude.{◌^◌, ◌&&◌, ℕ, Bool, true, false, not, nat_lt, List, if◌then◌else◌}
use Rattle.disk.specs.Disk.{DiskState, Call, Write, lost}
use Rattle.disk.specs.Simulated.{SimState, crashed}

-- a call that may be torn
abbrev pub is_write : Call → Bool
is_write (Write boot at from) = true
is_write other = false

-- a disk is there, and its boot number may rise
abbrev pub may_crash : DiskState → Bool
may_crash disk = not disk.gone && nat_lt disk.boot (2 ^ 62)

abbrev pub crashed_if : Bool → SimState → List ℕ → SimState
crashed_if crashes old given = if crashes then record old { disk = crashed old.disk given } else old

-- one that is lost already stays so
abbrev pub lost_if : Bool → SimState → SimState
lost_if gone old = if gone then old else record old { disk = lost old.disk }
