use Rattle.std.proofs.Common.{refl, inr, subst}
use Rattle.sectors.specs.declared.geometry.Geometry.{Geometry}
use Rattle.sectors.specs.Places.{HasNoRangeAt}
use Rattle.dlm_c.proofs.devices.dlm_c_device_block.Goals as goal

pub returns-in_default-block_at : goal.returns-in_default-block_at
returns-in_default-block_at c =
    let none = subst (λ (geometry : Geometry). HasNoRangeAt geometry c.args.at c.args.long) c.in-Some.ensures.some.0 c.in_default-block_at.ensures.none in
    inr (refl, inr none, refl)
