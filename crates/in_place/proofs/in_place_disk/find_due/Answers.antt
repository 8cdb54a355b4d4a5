use Rattle.std.proofs.Common.{◌∙◌}
use Rattle.in_place.proofs.InPlaceDisks.{found_from, not_found_from}
use Rattle.in_place.proofs.in_place_disk.find_due.Goals as goal

pub returns-in-Ok-clause-found : goal.returns-in-Ok-clause-found
returns-in-Ok-clause-found g c =
    found_from g.D.Disk.gives c.args.set.now c.args.disk c.size-long.result c.args.device.now c.sure_bytes.new.device c.in-Ok.boot c.sure_bytes.new.bytes (c.size-long.ensures ∙ c.requires) c.in-Ok.ensures.told c.due_by.result c.due_by.ensures.due

pub returns-in-Ok-clause-refused : goal.returns-in-Ok-clause-refused
returns-in-Ok-clause-refused g c =
    not_found_from g.D.Disk.gives c.args.set.now c.args.disk c.size-long.result c.args.device.now c.sure_bytes.new.device c.in-Ok.boot c.sure_bytes.new.bytes (c.size-long.ensures ∙ c.requires) c.in-Ok.ensures.told c.due_by.result c.due_by.ensures.none
