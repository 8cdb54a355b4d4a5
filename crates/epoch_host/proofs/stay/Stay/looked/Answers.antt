use Rattle.std.proofs.Common.{sym, subst}
use Rattle.epoch_host.specs.declared.stay.Stay.{Stay}
use Rattle.epoch_host.specs.Leading.{GoesOnIn}
use Rattle.epoch_host.proofs.Leading.{stays_as}
use Rattle.epoch_host.proofs.stay.Stay.looked.Goals as goal
use Rattle.epoch_host.proofs.stay.Stay.looked.Goals.{in-Look, in_default}

pub returns-then-is_whole-clause-leads : goal.returns-then-is_whole-clause-leads
returns-then-is_whole-clause-leads c = elim c.match-self.branch [
  | in-Look w ↦ subst (λ (s : Stay). GoesOnIn c.args.self.now s) (sym w.self-is) (stays_as c.args.self.now)
  | in_default w ↦ subst (λ (s : Stay). GoesOnIn c.args.self.now s) (sym w.self-is) w.go_on.ensures.leads
]
