use Rattle.std.proofs.Common.{◌≡◌, ℕ, Option, Some, None, ap, sym, subst}
use Rattle.paxos_block.specs.Shape.{Shape}
use Rattle.epoch_deeds.specs.Deeds.{Deeds}
use Rattle.epoch_host.specs.Ending.{IsWhereItIs}
use Rattle.epoch_host.specs.Knowing.{epoch_at, where_is}
use Rattle.epoch_host.specs.Leading.{LeadsTo}
use Rattle.epoch_host.specs.declared.walk.Walk.{Walk}
use Rattle.epoch_host.proofs.Knowing.{no_epoch, where_by}
use Rattle.epoch_host.proofs.walk.Walk.epoch.Goals as goal

-- what the code tells is where it is by its deeds
known : (w : Walk) (told : Option ℕ) → told ≡ where_is w → (k : Shape) (h : ℕ) (deeds : Deeds) → LeadsTo k h deeds w → IsWhereItIs k h deeds told
known w told is k h deeds led = subst (IsWhereItIs k h deeds) (sym is) (where_by w k h deeds led)

pub returns-in-In : goal.returns-in-In
returns-in-In c =
    let is : Some c.in-In.stay.epoch ≡ where_is c.args.self.now = ap epoch_at (sym c.in-In.is) in record { is = is; known = known c.args.self.now (Some c.in-In.stay.epoch) is }

pub returns-in_default : goal.returns-in_default
returns-in_default c =
    let is : None ≡ where_is c.args.self.now = sym (no_epoch c.args.self.now.is c.in_default.not-In) in record { is = is; known = known c.args.self.now None is }
