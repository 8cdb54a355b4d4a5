use Rattle.std.proofs.Common.{◌≡◌, List, drop, length, ap, subst}
use Rattle.lock_command.specs.declared.record.LockRecord.{LockRecord}
use Rattle.c_host.specs.Views.{ShowBelow, ShowsLock}
use Rattle.c_epochs.proofs.open_epochs.OpenEpochs.locks.Goals as goal

pub returns-clause-shown : goal.returns-clause-shown
returns-clause-shown c = λ k h deeds leads.
    let known = c.in_ok-picture.ensures.shown k h deeds leads in (
      known.0,
      known.1,
      known.2,
      record {
        picture = c.in_ok-picture.picture;
        of_table = known.3;
        counted = ap length c.locks.ensures.locks;
        shown = subst (λ (them : List LockRecord). ShowBelow ShowsLock c.show_locks.new.into them (length c.show_locks.new.into)) c.locks-2.ensures.locks c.show_locks.ensures.shown;
        rest = subst (λ (them : List LockRecord). drop (length them) c.show_locks.new.into ≡ drop (length them) c.args.into.now) c.locks-2.ensures.locks c.show_locks.ensures.rest;
      },
    )
