use Rattle.std.proofs.Common.{◌≡◌, ◌≤◌, ◌+◌, ◌-◌, length}
use Rattle.folder_migration.specs.Filling.{IsOver, Submits}
use Rattle.folder_migration.proofs.fill.fill_with.Given as goal

abbrev pub invariant-loop-host : goal.invariant-loop-host
invariant-loop-host g l = record {
  submits : Submits g.D.Disk.gives l.command l.initial.host l.count l.host;
  over : IsOver l.fn.config l.host;
  same : l.command.host ≡ l.host.core.learner.host;
  grown : l.count + length l.initial.host.core.prefix ≤ length l.host.core.prefix;
}

abbrev pub decreases-loop-host : goal.decreases-loop-host
decreases-loop-host g l = l.slots - length l.host.core.prefix
