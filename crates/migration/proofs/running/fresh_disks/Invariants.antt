use Rattle.std.specs.Prelude.{replicate}
use Rattle.std.proofs.Common.{◌≡◌, ◌≤◌, vec_capacity}
use Rattle.disk.specs.Simulated.{fresh_disk}
use Rattle.torn_block.specs.Layout.{cluster_version}
use Rattle.paxos_block.specs.Places.{image_length}
use Rattle.migration.specs.Running.{calm}
use Rattle.migration.proofs.running.fresh_disks.Given as goal

abbrev pub invariant-loop : goal.invariant-loop
invariant-loop l =
    record {
      items : l.disks.items ≡ replicate l.counter (calm (fresh_disk (image_length cluster_version l.config.slots)));
      room : l.count ≤ vec_capacity l.disks;
    }
