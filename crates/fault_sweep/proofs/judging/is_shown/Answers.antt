use Rattle.std.specs.Prelude.{IfOk, IsTrue, ◌↔◌, Option}
use Rattle.std.proofs.Common.{sym, subst}
use Rattle.lock_table.specs.Picture.{Shown}
use Rattle.fault_sweep.specs.Judging.{is_shown_after}
use Rattle.fault_sweep.proofs.judging.is_shown.Goals as goal

pub returns-in-Some : goal.returns-in-Some
returns-in-Some c =
    subst (λ (o : Option Shown). IfOk c.shows.result (λ right. IsTrue right ↔ is_shown_after c.args.log.now c.args.count o)) (sym c.in-Some.is) c.shows.ensures
