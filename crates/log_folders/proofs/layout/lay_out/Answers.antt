use Rattle.log_folders.proofs.Laying.{all_laid_out, stops_after}
use Rattle.log_folders.proofs.NewSets.{room_for_gate}
use Rattle.log_folders.proofs.layout.lay_out.Goals as goal

pub open_gates-requires-clause-large : goal.open_gates-requires-clause-large
open_gates-requires-clause-large g c = room_for_gate g.D.Disk.device c.args.set.now c.write_images.new.devices c.in_ok-boots.ensures.large

pub returns-clause-laid_out : goal.returns-clause-laid_out
returns-clause-laid_out g c =
    all_laid_out g.D.Disk.gives c.args.set.now c.in_ok-boots.boots c.args.devices.now c.write_images.new.devices c.requires.as_many c.in_ok-boots.ensures.whole c.open_gates.new.devices c.open_gates.result c.open_gates.ensures.opened

pub returns-clause-stopped : goal.returns-clause-stopped
returns-clause-stopped g c =
    stops_after g.D.Disk.gives c.args.set.now c.in_ok-boots.boots c.args.devices.now c.write_images.new.devices c.requires.as_many c.in_ok-boots.ensures.whole c.open_gates.new.devices c.open_gates.result c.open_gates.ensures.stopped
