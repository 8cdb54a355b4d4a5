use Rattle.std.proofs.Common.{refl}
use Rattle.in_place.proofs.InPlaceDisks.{becomes_own, becomes_right}
use Rattle.in_place.proofs.in_place.look_at_image.Goals as goal

pub returns-in-Some : goal.returns-in-Some
returns-in-Some g c =
    let at = (c.in-Some.ensures c.in-Some.progress).0 refl in
    (becomes_right c.args.disk c.used_length.result c.in-Ok.bytes c.in-Some.progress at, becomes_own c.args.disk c.used_length.result c.in-Ok.bytes c.in-Some.progress at)
