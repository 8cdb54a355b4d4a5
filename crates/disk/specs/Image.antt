-- What a simulated disk holds, and what a write makes of it.
use Rattle.std.specs.Prelude.{ℕ, Bool, true, List, length, replicate}
use Rattle.disk.specs.Disk.{put_at}

-- the bytes, and for each position whether it is unsynced
pub record Contents : Type 0 where
  pub bytes : List ℕ
  pub unsynced : List Bool

-- the range from a place on holds these bytes, unsynced
abbrev pub overwritten : Contents → ℕ → List ℕ → Contents
overwritten old at from =
    record { bytes = put_at old.bytes at from; unsynced = put_at old.unsynced at (replicate (length from) true) }
