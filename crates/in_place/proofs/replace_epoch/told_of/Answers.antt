use Rattle.std.proofs.Common.{sym, subst}
use Rattle.std.proofs.lemmas.Option.{IfSome_then}
use Rattle.in_place.specs.Replacing.{IsNewestOfRows, TellsRows}
use Rattle.in_place.specs.declared.replace_rows.Rows.{Rows}
use Rattle.in_place.proofs.replace_epoch.told_of.Goals as goal

pub returns-in-Ok-clause-told : goal.returns-in-Ok-clause-told
returns-in-Ok-clause-told g c =
    IfSome_then c.epochs_in.result c.epochs_in.ensures
    (λ told is. (
      is.0,
      (
        subst (λ (rows : Rows). TellsRows g.D.Disk.gives c.args.slots rows c.args.device.now c.read.new.device) (sym is.1) c.in-Ok.ensures.told,
        subst (λ (rows : Rows). IsNewestOfRows rows told.newest) (sym is.1) is.2,
      ),
    ))
