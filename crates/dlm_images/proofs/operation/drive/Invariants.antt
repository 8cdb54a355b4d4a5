use Rattle.std.proofs.Common.{◌≡◌, ◌≤◌, ◌-◌, ℕ, length, slice_get, Some}
use Rattle.torn_block.specs.Layout.{cluster_version}
use Rattle.paxos_block.specs.Places.{image_length}
use Rattle.dlm_images.specs.declared.operation.TheConstants.{MOST_CALLS}
use Rattle.dlm_images.proofs.Driving.{IsDriven}
use Rattle.dlm_images.proofs.operation.drive.Given as goal

abbrev pub invariant-loop-made : goal.invariant-loop-made
invariant-loop-made g l = record {
  driven :
      IsDriven g.D.Disk.gives l.initial.host.learner.shape (record { core = l.initial.host; disks = l.initial.disks }) (record { core = l.host; disks = l.disks })
      (MOST_CALLS - l._made);
  as_many : length l.disks ≡ length l.initial.disks;
  large : (k : ℕ) (d : g.row.D.Denot) → slice_get l.disks k ≡ Some d → image_length cluster_version l.initial.host.learner.shape.slots ≤ (g.D.Disk.device d).size;
}
