use Rattle.std.specs.Prelude.{replicate}
use Rattle.std.proofs.Common.{◌≡◌, ◌≤◌, vec_capacity}
use Rattle.disk.specs.Simulated.{fresh_disk}
use Rattle.standings.specs.Epochs.{whole_length}
use Rattle.epoch_deeds.specs.Knowing.{image_of}
use Rattle.epoch_simulator.specs.Kept.{calm}
use Rattle.epoch_simulator.proofs.simulated_epochs.fresh_disks.Given as goal

abbrev pub invariant-loop : goal.invariant-loop
invariant-loop l =
    record {
      items : l.disks.items ≡ replicate l.counter (calm (fresh_disk (whole_length (image_of l.config))));
      room : l.count ≤ vec_capacity l.disks;
    }
