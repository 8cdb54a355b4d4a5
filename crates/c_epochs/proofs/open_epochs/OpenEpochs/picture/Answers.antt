use Rattle.std.proofs.Common.{sym, subst}
use Rattle.lock_table.specs.Apply.{table_after}
use Rattle.lock_table.specs.Picture.{IsPictureOf, Shown}
use Rattle.c_epochs.proofs.Knowing.{memory_refused}
use Rattle.c_epochs.proofs.open_epochs.OpenEpochs.picture.Goals as goal

pub returns-in_ok-picture-in-Some-clause-shown : goal.returns-in_ok-picture-in-Some-clause-shown
returns-in_ok-picture-in-Some-clause-shown c = λ k h deeds leads.
    let known = c.in-Some.ensures.known k h deeds leads in
    (known.0, known.1.0, known.1.1, subst (λ (s : Shown). IsPictureOf s (table_after known.1.0)) (sym c.in_ok-picture-in-Some.ensures.shown) known.1.2)

pub returns-in_err-picture-in-Some-clause-fault : goal.returns-in_err-picture-in-Some-clause-fault
returns-in_err-picture-in-Some-clause-fault c = memory_refused c.args.self.now.host
    (λ k h deeds leads. let known = c.in-Some.ensures.known k h deeds leads in (known.0, known.1.0, known.1.1, tt))
    c.from_residual.result c.from_residual.ensures.1
