use Rattle.std.proofs.Common.{rules}
use Rattle.lock_table.specs.Apply.{table_after}
use Rattle.lock_table.specs.Picture.{IsPictureOf}
use Rattle.c_epochs.proofs.Knowing.{is_known}
use Rattle.c_epochs.proofs.open_epochs.OpenEpochs.text.Goals as goal

pub returns-clause-shown : goal.returns-clause-shown
returns-clause-shown c = λ k h deeds leads.
    let known = c.in_ok-picture.ensures.shown k h deeds leads in
    (known.0, known.1, known.2, record { picture = c.in_ok-picture.picture; of_table = known.3; sized = Prim.search rules; shown = Prim.search rules })

pub returns-then-is_err-clause-fault : goal.returns-then-is_err-clause-fault
returns-then-is_err-clause-fault c = is_known c.args.self.now.host (λ learned. IsPictureOf c.in_ok-picture.picture (table_after learned)) c.in_ok-picture.ensures.shown
