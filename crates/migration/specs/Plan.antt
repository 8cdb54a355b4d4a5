-- The device calls of a migration, in their order.
use Rattle.std.specs.Prelude.{ℕ, zero, suc, List, [], ◌∷◌, ◌++◌, map, drop}
use Rattle.disk.specs.Disk.{Call, Attach, Write, Sync}
use Rattle.torn_block.specs.Layout.{cluster_version}
use Rattle.torn_block.specs.declared.block.TheConstants.{OPEN_GATE}
use Rattle.paxos_block.specs.Headers.{header_saying}
use Rattle.paxos_block.specs.Places.{place_of, VoteOf}
use Rattle.paxos_block.specs.Image.{Setup, header_of, block_for}

-- bytes, and where they are written
abbrev pub Put : Type 0
Put = ℕ × List ℕ

-- host 0's blocks of the slots from slot k on
abbrev pub blocks_from : ℕ → List (List ℕ) → List Put
blocks_from k [] = []
blocks_from k (value ∷ log) = (place_of cluster_version (VoteOf k 0), block_for value) ∷ blocks_from (suc k) log

-- all of the header but its gate
abbrev pub heading : Setup → ℕ → Put
heading s d = (1, drop 1 (header_saying cluster_version (header_of s d)))

-- a call on a disk; the gate of its header is opened last
pub data Kind : Type 0 where
  Attaching : Kind
  Putting : (put : Put) → Kind
  Syncing : Kind
  Opening : Kind

pub record Due : Type 0 where
  pub disk : ℕ
  pub kind : Kind

abbrev pub on : ℕ → List Kind → List Due
on d [] = []
on d (kind ∷ kinds) = record { disk = d; kind = kind } ∷ on d kinds

-- what is written before a gate may be opened, and made sure of
abbrev pub header_calls : Setup → ℕ → List Kind
header_calls s d = Putting (heading s d) ∷ Syncing ∷ []

abbrev pub fills : Setup → ℕ → List Kind
fills s d = map Putting (blocks_from 0 s.log) ++ Syncing ∷ header_calls s d

abbrev pub opens : List Kind
opens = Opening ∷ Syncing ∷ []

abbrev pub filling : Setup → ℕ → List Due
filling s d = on d (Attaching ∷ fills s d)

abbrev pub opening : ℕ → List Due
opening d = on d opens

-- so on n disks, from this one on
abbrev pub each : (ℕ → List Due) → ℕ → ℕ → List Due
each f d zero = []
each f d (suc n) = f d ++ each f (suc d) n

-- All disks are filled first; then their gates are opened.
abbrev pub schedule : Setup → List Due
schedule s = each (filling s) 0 s.disks ++ each opening 0 s.disks

-- the call, under the boot number of its disk
abbrev pub call_of : ℕ → Kind → Call
call_of boot Attaching = Attach
call_of boot (Putting put) = Write boot put.0 put.1
call_of boot Syncing = Sync boot
call_of boot Opening = Write boot 0 (OPEN_GATE ∷ [])
