-- Where no table is given, the host has none.
use Rattle.std.specs.Prelude.{IsSome}
use Rattle.std.proofs.Common.{ℕ, ◌≡◌, Option, Some, None, sym, subst, inr}
use Rattle.std.proofs.lemmas.Bool.{false≢true}
use Rattle.lock_table.specs.Picture.{Shown}
use Rattle.epoch_host.specs.Ending.{IsTableOf}
use Rattle.epoch_simulator.specs.Doing.{OfDeeds}
use Rattle.epoch_sweep.proofs.ending.shown_by.Goals as goal

-- none is not some
none_some : {T : Type 0} (o : Option T) → o ≡ None → IsSome o → ⊥
none_some None is some = false≢true some
none_some (Some x) is some = let never : ⊥ = cc in never

pub returns-in_default : goal.returns-in_default
returns-in_default c = λ w is. inr (λ there. none_some c.table.result c.in_default.is (c.table.ensures.there w is there))

pub returns-in-Ok : goal.returns-in-Ok
returns-in-Ok c =
    let k = c.args.cluster.now in
    let h = c.args.host in (
      c.requires,
      subst (λ (shown : Shown). OfDeeds k h (λ deeds. (upto : ℕ) × IsTableOf k.shape h deeds upto shown)) (sym c.in-Ok.ensures.shown) c.in-Some.ensures.known,
    )
