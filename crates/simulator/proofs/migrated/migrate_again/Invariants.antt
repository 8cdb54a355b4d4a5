use Rattle.std.specs.Prelude.{replicate, take}
use Rattle.std.proofs.Common.{ℕ, ◌≡◌, ◌≤◌, get_or}
use Rattle.disk.specs.Simulated.{SimState, fresh_disk}
use Rattle.torn_block.specs.Layout.{cluster_version}
use Rattle.paxos_block.specs.Places.{image_length}
use Rattle.world.specs.Entry.{migrated_to}
use Rattle.simulator.specs.Kept.{calm}
use Rattle.simulator.proofs.migrated.migrate_again.Given as goal

abbrev pub invariant-loop-at : goal.invariant-loop-at
invariant-loop-at l =
    record {
      done : take l.at l.disks ≡ replicate l.at (calm (migrated_to (fresh_disk (image_length cluster_version l.config.slots)) l.fn.log));
      rest : (d : ℕ) (other : SimState) → l.at ≤ d → get_or l.disks d other ≡ get_or l.fn.disks d other;
    }
