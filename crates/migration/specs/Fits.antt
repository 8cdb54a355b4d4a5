-- When a log can be migrated.
use Rattle.std.specs.Prelude.{◌≡◌, ◌≤◌, ◌<◌, ◌^◌, All, length}
use Rattle.torn_block.specs.declared.layout.TheConstants.{DISKS, SLOTS, VALUE_LENGTH}
use Rattle.paxos_block.specs.Image.{Setup}

-- there are disks and slots, but not too many, and a slot for each value
pub record HasRoom (s : Setup) : Type 0 where
  pub some_disks : 1 ≤ s.disks
  pub few_disks : s.disks ≤ DISKS
  pub some_slots : 1 ≤ s.slots
  pub few_slots : s.slots ≤ SLOTS
  pub cluster : s.cluster < 2 ^ 64
  pub log : length s.log ≤ s.slots

-- and each value is as long as a value is
pub record Fits (s : Setup) : Type 0 where
  pub room : HasRoom s
  pub values : All (λ value. length value ≡ VALUE_LENGTH) s.log
