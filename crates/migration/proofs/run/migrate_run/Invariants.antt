use Rattle.std.proofs.Common.{take}
use Rattle.migration.specs.Kept.{setup_by}
use Rattle.migration.specs.Running.{LeadsTo, events_of}
use Rattle.migration.proofs.run.migrate_run.Given as goal

abbrev pub invariant-loop-event : goal.invariant-loop-event
invariant-loop-event l =
    LeadsTo (setup_by l.fn.config l.fn.cluster l.fn.log.items) (events_of (take l.event-index l.events)) l.running.migrator l.running.disks.items
