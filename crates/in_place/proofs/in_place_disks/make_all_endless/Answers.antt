use Rattle.std.proofs.Common.{arith}
use Rattle.in_place.specs.InPlaceImages.{AreChanged, AreMadeEndless, StopsChanging, StopsMaking}
use Rattle.in_place.proofs.InPlaceDisks.{all_made, changing_stops, err_is, if_err_so, looking_stops, on_ok_so, readying_stops, room_for_header}
use Rattle.in_place.proofs.in_place_disks.make_all_endless.Goals as goal

pub make_all_ready-requires-clause-few : goal.make_all_ready-requires-clause-few
make_all_ready-requires-clause-few g c = omega (arith, c.requires.few, c.in_ok-due.ensures.as_many)

pub change_all-requires-clause-few : goal.change_all-requires-clause-few
change_all-requires-clause-few g c = omega (arith, c.requires.few, c.in_ok-due.ensures.as_many, c.in_ok-make_all_ready.ensures.as_many)

pub change_all-requires-clause-large : goal.change_all-requires-clause-large
change_all-requires-clause-large g c = room_for_header g.D.Disk.device c.args.set.now.slots c.make_all_ready.new.devices c.in_ok-make_all_ready.ensures.sizes

pub returns-in_err-due-clause-stopped : goal.returns-in_err-due-clause-stopped
returns-in_err-due-clause-stopped g c =
    err_is (StopsMaking g.D.Disk.gives c.args.set.now c.args.devices.now c.look_at_all.new.devices) c.in_err-due.field-0.0
    (looking_stops g.D.Disk.gives c.args.set.now c.args.devices.now c.look_at_all.new.devices c.in_err-due.field-0.0 c.in_err-due.ensures.stopped)
    c.from_residual.result c.from_residual.ensures.1

pub returns-in_err-make_all_ready-clause-stopped : goal.returns-in_err-make_all_ready-clause-stopped
returns-in_err-make_all_ready-clause-stopped g c =
    err_is (StopsMaking g.D.Disk.gives c.args.set.now c.args.devices.now c.make_all_ready.new.devices) c.in_err-make_all_ready.field-0.0
    (readying_stops g.D.Disk.gives c.args.set.now c.args.devices.now c.in_ok-due.due c.look_at_all.new.devices c.in_ok-due.ensures.found c.make_all_ready.new.devices c.in_err-make_all_ready.field-0.0 c.in_err-make_all_ready.ensures.stopped)
    c.from_residual-in_err-make_all_ready.result c.from_residual-in_err-make_all_ready.ensures.1

pub returns-clause-made : goal.returns-clause-made
returns-clause-made g c =
    on_ok_so (AreChanged g.D.Disk.gives c.in_ok-due.due c.make_all_ready.new.devices c.change_all.new.devices) (AreMadeEndless g.D.Disk.gives c.args.set.now c.args.devices.now c.change_all.new.devices)
    (all_made g.D.Disk.gives c.args.set.now c.args.devices.now c.in_ok-due.due c.look_at_all.new.devices c.in_ok-due.ensures.found c.make_all_ready.new.devices c.in_ok-make_all_ready.ensures.ready c.change_all.new.devices)
    c.change_all.result c.change_all.ensures.changed

pub returns-clause-stopped : goal.returns-clause-stopped
returns-clause-stopped g c =
    if_err_so (StopsChanging g.D.Disk.gives c.in_ok-due.due c.make_all_ready.new.devices c.change_all.new.devices) (StopsMaking g.D.Disk.gives c.args.set.now c.args.devices.now c.change_all.new.devices)
    (changing_stops g.D.Disk.gives c.args.set.now c.args.devices.now c.in_ok-due.due c.look_at_all.new.devices c.in_ok-due.ensures.found c.make_all_ready.new.devices c.in_ok-make_all_ready.ensures.ready c.change_all.new.devices)
    c.change_all.result c.change_all.ensures.stopped
