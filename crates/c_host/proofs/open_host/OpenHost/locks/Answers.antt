use Rattle.std.proofs.Common.{◌≡◌, List, drop, length, ap, subst}
use Rattle.lock_command.specs.declared.record.LockRecord.{LockRecord}
use Rattle.c_host.specs.Views.{ShowBelow, ShowsLock}
use Rattle.c_host.proofs.open_host.OpenHost.locks.Goals as goal

pub returns-clause-shown : goal.returns-clause-shown
returns-clause-shown c = record {
  picture = c.in_ok-picture.picture;
  of_table = c.in_ok-picture.ensures.shown;
  counted = ap length c.locks.ensures.locks;
  shown = subst (λ (locks : List LockRecord). ShowBelow ShowsLock c.show_locks.new.into locks (length c.show_locks.new.into))
      c.locks-2.ensures.locks c.show_locks.ensures.shown;
  rest = subst (λ (known : List LockRecord). drop (length known) c.show_locks.new.into ≡ drop (length known) c.args.into.now)
      c.locks-2.ensures.locks c.show_locks.ensures.rest;
}
