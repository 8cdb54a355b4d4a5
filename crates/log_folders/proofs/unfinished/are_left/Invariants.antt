use Rattle.std.proofs.Common.{◌≡◌, true, false}
use Rattle.attempt.specs.Looking.{OnlyReads}
use Rattle.folders.specs.Finishing.{HaveSize}
use Rattle.folders.specs.Formatting.{EachBecame, FirstBecame, MakesOnly}
use Rattle.folders.specs.declared.unfinished.Left.TheVariants.{Closed}
use Rattle.log_folders.specs.Finishing.{FindsOne, FirstAreOpen, IsLeft}
use Rattle.log_folders.specs.NewSets.{header_for, size_for}
use Rattle.log_folders.proofs.unfinished.are_left.Given as goal

abbrev pub invariant-loop-disk : goal.invariant-loop-disk
invariant-loop-disk g l = record {
  left : FirstBecame (λ disk old new. IsLeft g.D.Disk.gives (size_for l.fn.set) (header_for l.fn.set disk) old new) l.disk l.initial.devices l.devices;
  read : EachBecame (λ disk old new. MakesOnly g.D.Disk.gives OnlyReads old new) l.initial.devices l.devices;
  all_open : l.any ≡ false → FirstAreOpen g.D.Disk.gives l.fn.set l.disk l.initial.devices l.devices;
  closed : l.any ≡ true → FindsOne g.D.Disk.gives l.fn.set Closed l.disk l.initial.devices l.devices;
  sizes : HaveSize g.D.Disk.device (size_for l.fn.set) l.devices;
}
