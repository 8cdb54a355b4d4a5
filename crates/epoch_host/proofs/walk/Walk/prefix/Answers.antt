use Rattle.std.proofs.Common.{◌≡◌, ℕ, List, [], ap, sym, ◌∙◌}
use Rattle.paxos_block.specs.Shape.{Shape}
use Rattle.lock_command.specs.declared.command.Command.{Command}
use Rattle.host.specs.Host.{Memory, Running}
use Rattle.epoch_deeds.specs.Deeds.{Deeds, core_in}
use Rattle.epoch_host.specs.Knowing.{prefix_at, prefix_of}
use Rattle.epoch_host.specs.Leading.{LeadsTo}
use Rattle.epoch_host.specs.declared.walk.Walk.{Walk}
use Rattle.epoch_host.proofs.Knowing.{no_prefix, prefix_by}
use Rattle.epoch_host.proofs.walk.Walk.prefix.Goals as goal

known : (w : Walk) (told : List Command) → told ≡ prefix_of w → (k : Shape) (h : ℕ) (deeds : Deeds) → LeadsTo k h deeds w → (e : ℕ) (memory : Memory) → core_in k h e deeds ≡ Running memory → told ≡ memory.learned
known w told is k h deeds led e memory runs = is ∙ prefix_by w k h deeds led e memory runs

pub returns-in-In : goal.returns-in-In
returns-in-In c =
    let is : c.prefix.result.now ≡ prefix_of c.args.self.now = c.prefix.ensures.prefix ∙ ap prefix_at (sym c.in-In.is) in record { is = is; known = known c.args.self.now c.prefix.result.now is }

pub returns-in_default : goal.returns-in_default
returns-in_default c =
    let is : [] ≡ prefix_of c.args.self.now = sym (no_prefix c.args.self.now.is c.in_default.not-In) in record { is = is; known = known c.args.self.now [] is }
