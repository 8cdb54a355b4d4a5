-- What was kept, changed and put back.
use Rattle.std.proofs.Common.{◌≡◌, ℤ, Option, Some, subst, sym}
use Rattle.dlm_c.specs.Handles.{InHandle}

pub in_handle : {T : Type 0} → (Changes : T → T → Type 0) (kept left : Option T) (old new : T) (status : ℤ) →
    kept ≡ Some old → left ≡ Some new → Changes old new → InHandle Changes kept left status
in_handle {T} Changes kept left old new status was is changes =
    subst (λ (o : Option T). InHandle Changes o left status) (sym was) (subst (λ (o : Option T). InHandle Changes (Some old) o status) (sym is) changes)
