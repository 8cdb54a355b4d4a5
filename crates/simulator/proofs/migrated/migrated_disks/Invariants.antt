use Rattle.std.specs.Prelude.{replicate}
use Rattle.std.proofs.Common.{◌≡◌, ◌≤◌, vec_capacity}
use Rattle.disk.specs.Simulated.{fresh_disk}
use Rattle.torn_block.specs.Layout.{cluster_version}
use Rattle.paxos_block.specs.Places.{image_length}
use Rattle.world.specs.Entry.{migrated_to}
use Rattle.simulator.specs.Kept.{calm}
use Rattle.simulator.proofs.migrated.migrated_disks.Given as goal

abbrev pub invariant-loop : goal.invariant-loop
invariant-loop l =
    record {
      items : l.disks.items ≡ replicate l.counter (calm (migrated_to (fresh_disk (image_length cluster_version l.config.slots)) l.fn.log));
      room : l.count ≤ vec_capacity l.disks;
    }
