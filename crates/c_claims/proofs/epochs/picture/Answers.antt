use Rattle.std.proofs.Common.{refl, sym, subst}
use Rattle.lock_table.specs.Apply.{table_after}
use Rattle.lock_table.specs.Picture.{IsPictureOf, Shown}
use Rattle.epoch_host.specs.Knowing.{prefix_of}
use Rattle.c_claims.proofs.epochs.picture.Goals as goal

pub returns-in_ok-picture-in-Some-clause-shown : goal.returns-in_ok-picture-in-Some-clause-shown
returns-in_ok-picture-in-Some-clause-shown c = (
  c.in-Some.ensures.only refl,
  subst (λ (s : Shown). IsPictureOf s (table_after (prefix_of c.args.host.now.host))) (sym c.in_ok-picture-in-Some.ensures.shown) c.in-Some.ensures.is,
)
