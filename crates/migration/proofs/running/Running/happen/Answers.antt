use Rattle.std.proofs.Common.{◌++◌, ◌∷◌, [], ℕ, List, sym, subst}
use Rattle.migration.specs.Events.{Tear, FailCall, DiskCrash}
use Rattle.migration.specs.Running.{LeadsTo, event_of}
use Rattle.migration.specs.declared.event.MigrationEvent as code
use Rattle.migration.proofs.running.Running.happen.Goals as goal

pub returns-in-Step : goal.returns-in-Step
returns-in-Step c s events leads =
    subst (λ (e : code.MigrationEvent). LeadsTo s (events ++ event_of e ∷ []) c.step.new.self.migrator c.step.new.self.disks.items) (sym c.in-Step.is) (c.step.ensures s events leads)

pub returns-in-DiskGone : goal.returns-in-DiskGone
returns-in-DiskGone c s events leads =
    subst (λ (e : code.MigrationEvent). LeadsTo s (events ++ event_of e ∷ []) c.lose.new.self.migrator c.lose.new.self.disks.items) (sym c.in-DiskGone.is) (c.lose.ensures s events leads)

pub returns-in-Tear : goal.returns-in-Tear
returns-in-Tear c s events leads =
    subst (λ (e : code.MigrationEvent). LeadsTo s (events ++ event_of e ∷ []) c.tear.new.self.migrator c.tear.new.self.disks.items) (sym c.in-Tear.is)
    (subst (λ (l : List ℕ). LeadsTo s (events ++ Tear l ∷ []) c.tear.new.self.migrator c.tear.new.self.disks.items) c.as_slice.ensures.value (c.tear.ensures s events leads))

pub returns-in-FailCall : goal.returns-in-FailCall
returns-in-FailCall c s events leads =
    subst (λ (e : code.MigrationEvent). LeadsTo s (events ++ event_of e ∷ []) c.fail.new.self.migrator c.fail.new.self.disks.items) (sym c.in-FailCall.is)
    (subst (λ (l : List ℕ). LeadsTo s (events ++ FailCall l ∷ []) c.fail.new.self.migrator c.fail.new.self.disks.items) c.as_slice-in-FailCall.ensures.value (c.fail.ensures s events leads))

pub returns-in-DiskCrash : goal.returns-in-DiskCrash
returns-in-DiskCrash c s events leads =
    subst (λ (e : code.MigrationEvent). LeadsTo s (events ++ event_of e ∷ []) c.crash.new.self.migrator c.crash.new.self.disks.items) (sym c.in-DiskCrash.is)
    (subst (λ (l : List ℕ). LeadsTo s (events ++ DiskCrash c.in-DiskCrash.disk l ∷ []) c.crash.new.self.migrator c.crash.new.self.disks.items) c.as_slice-in-DiskCrash.ensures.value (c.crash.ensures s events leads))
