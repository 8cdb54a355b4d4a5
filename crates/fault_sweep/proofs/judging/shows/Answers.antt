use Rattle.std.proofs.Common.{take, sym, subst}
use Rattle.lock_table.specs.Apply.{table_after}
use Rattle.lock_table.specs.Picture.{IsPictureOf, Shown}
use Rattle.lock_table.proofs.Unique.{one_shown}
use Rattle.fault_sweep.proofs.judging.shows.Goals as goal

pub returns-in-Ok : goal.returns-in-Ok
returns-in-Ok c =
    let plain = table_after (take c.args.count c.args.log.now) in
    let other : IsPictureOf c.in-Ok.other plain = subst (λ (p : Shown). IsPictureOf p plain) (sym c.in-Ok.ensures.shown) c.in_ok-table.ensures in (
      (λ t. record { within = c.if-count-log.false; table = subst (λ (p : Shown). IsPictureOf p plain) (sym (c.is_same_picture.ensures.0 t)) other }),
      (λ s. c.is_same_picture.ensures.1 (one_shown plain c.args.picture.now c.in-Ok.other s.table other)),
    )
