use Rattle.std.proofs.Common.{Some, None, refl}
use Rattle.in_place.proofs.replace_epoch.newest_rows.Goals as goal

pub returns-in-Some : goal.returns-in-Some
returns-in-Some c = record { best = Some c.in-Some.newest; newest = c.in-Some.ensures; are = refl }

pub returns-in-None : goal.returns-in-None
returns-in-None c = record { best = None; newest = c.in-None.ensures; are = c.blank.ensures }
