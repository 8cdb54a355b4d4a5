use Rattle.std.specs.Prelude.{IfSome}
use Rattle.std.proofs.Common.{◌≡◌, ◌≤◌, ℕ, Option, Some, length, slice_get}
use Rattle.endless_image.specs.Sizes.{size_of}
use Rattle.in_place.specs.Replacing.{IsToldAmong}
use Rattle.in_place.specs.declared.replace_epoch.EpochsTold.{EpochsTold}
use Rattle.in_place.proofs.replace_epoch.epochs_told.Given as goal

abbrev pub invariant-loop-disk : goal.invariant-loop-disk
invariant-loop-disk g l = record {
  told : (k : ℕ) (one : Option EpochsTold) → slice_get l.told k ≡ Some one → IfSome one (IsToldAmong g.D.Disk.gives l.slots l.lost l.firsts l.fn.disks k);
  rest : (k : ℕ) → l.disk ≤ k → slice_get l.disks k ≡ slice_get l.fn.disks k;
  as_many : length l.disks ≡ length l.fn.disks;
  large : (k : ℕ) (d : g.row.D.Denot) → slice_get l.disks k ≡ Some d → size_of l.slots ≤ (g.D.Disk.device d).size;
}
