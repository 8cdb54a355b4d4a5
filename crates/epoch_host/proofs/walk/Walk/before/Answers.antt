use Rattle.std.proofs.Common.{◌≡◌, ℕ, List, [], ap, sym, subst, ◌∙◌}
use Rattle.paxos_block.specs.Shape.{Shape}
use Rattle.lock_command.specs.declared.command.Command.{Command}
use Rattle.epoch_deeds.specs.Deeds.{Deeds}
use Rattle.epoch_host.specs.Knowing.{KnowsBefore, before_at, before_of}
use Rattle.epoch_host.specs.Leading.{LeadsTo}
use Rattle.epoch_host.specs.declared.walk.Walk.{Walk}
use Rattle.epoch_host.proofs.Knowing.{before_by, no_before}
use Rattle.epoch_host.proofs.walk.Walk.before.Goals as goal

known : (w : Walk) (told : List Command) → told ≡ before_of w → (k : Shape) (h : ℕ) (deeds : Deeds) → LeadsTo k h deeds w → KnowsBefore k h deeds told
known w told is k h deeds led = subst (KnowsBefore k h deeds) (sym is) (before_by w k h deeds led)

pub returns-in-In : goal.returns-in-In
returns-in-In c =
    let is : c.epoch_before.result.now ≡ before_of c.args.self.now = c.epoch_before.ensures ∙ ap before_at (sym c.in-In.is) in record { is = is; known = known c.args.self.now c.epoch_before.result.now is }

pub returns-in_default : goal.returns-in_default
returns-in_default c =
    let is : [] ≡ before_of c.args.self.now = sym (no_before c.args.self.now.is c.in_default.not-In) in record { is = is; known = known c.args.self.now [] is }
