use Rattle.std.proofs.Common.{refl, inl, inr}
use Rattle.dlm_c.proofs.owner.dlm_c_device_put_name.Goals as goal

pub returns-in-Err : goal.returns-in-Err
returns-in-Err c =
    inr (inl (refl, c.if-sector-lt-NAMED_LENGTH.false, c.in-Err.ensures.spent.0 refl, c.in-Err.ensures.kept))
