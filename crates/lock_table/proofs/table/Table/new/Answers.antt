use Rattle.std.proofs.Common.{subst, sym, ap}
use Rattle.lock_table.specs.Apply.{no_locks}
use Rattle.lock_table.specs.Picture.{Shown, IsPictureOf}
use Rattle.lock_table.specs.Stored.{shown_of}
use Rattle.lock_table.proofs.Pictures.{picture_of_none}
use Rattle.lock_table.proofs.table.Table.new.Goals as goal

pub returns-clause-shown : goal.returns-clause-shown
returns-clause-shown c = subst (λ (t : Shown). IsPictureOf t no_locks) (sym (ap shown_of c.in_ok-new.ensures)) picture_of_none
