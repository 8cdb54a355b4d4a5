use Rattle.std.proofs.Common.{refl, inl, inr}
use Rattle.dlm_c.specs.Devices.{HasRoom}
use Rattle.dlm_c.proofs.devices.dlm_c_device_put.Goals as goal

pub returns-in-Err : goal.returns-in-Err
returns-in-Err c =
    let room : HasRoom c.args.offset c.args.from.now c.args.sector.now = record { stamped = c.if-sector-lt-STAMPED_LENGTH.false; within = c.if-not-has_room.ensures.0 refl } in
    inr (inl (refl, room, c.in-Err.ensures.spent.0 refl, c.in-Err.ensures.kept))
