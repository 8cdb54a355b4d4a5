use Rattle.folders.proofs.Laying.{all_laid_out, stops_after}
use Rattle.folders.proofs.layout.lay_out.Goals as goal

pub returns-clause-laid_out : goal.returns-clause-laid_out
returns-clause-laid_out g c =
    all_laid_out g.D.Disk.gives c.args.config c.args.cluster c.in_ok-boots.boots c.args.devices.now c.write_images.new.devices c.open_gates.new.devices c.requires.as_many c.in_ok-boots.ensures.whole c.open_gates.result c.open_gates.ensures.opened

pub returns-clause-stopped : goal.returns-clause-stopped
returns-clause-stopped g c =
    stops_after g.D.Disk.gives c.args.config c.args.cluster c.in_ok-boots.boots c.args.devices.now c.write_images.new.devices c.open_gates.new.devices c.requires.as_many c.in_ok-boots.ensures.whole c.open_gates.result c.open_gates.ensures.stopped
