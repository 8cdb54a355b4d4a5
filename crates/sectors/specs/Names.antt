-- The name of a machine, in the sector of a host's heartbeat block.
use Rattle.std.specs.Prelude.{◌+◌, ◌++◌, ℕ, List, drop, slice_range}
use Rattle.torn_block.specs.Block.{number_bytes}
use Rattle.paxos_block.specs.Saying.{zeros}
use Rattle.sectors.specs.declared.sector.TheConstants.{STAMPED_LENGTH}
use Rattle.sectors.specs.declared.name.TheConstants.{NAME_LENGTH, NAMED_LENGTH}
use Rattle.sectors.specs.declared.name.MachineName.{MachineName}
use Rattle.sectors.specs.Sector.{block_of, stamp_of}

-- the name is behind the stamp
abbrev pub name_of : List ℕ → MachineName
name_of sector = record { bytes = slice_range sector STAMPED_LENGTH NAMED_LENGTH }

-- no machine has this name
abbrev pub nobody : MachineName
nobody = record { bytes = zeros NAME_LENGTH }

-- the sector once this name is put into it: the block and what is behind the name stay, and the stamp is the next one
abbrev pub sector_naming : MachineName → List ℕ → List ℕ
sector_naming name sector =
    block_of sector ++ (number_bytes (stamp_of sector + 1) ++ (name.bytes ++ drop NAMED_LENGTH sector))
