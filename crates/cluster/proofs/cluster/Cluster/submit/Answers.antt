use Rattle.std.specs.Prelude.{◌&&◌, ◌||◌}
use Rattle.std.proofs.Common.{◌≡◌, Bool, ℕ, true, false, refl, ◌∙◌, arith}
use Rattle.std.proofs.lemmas.Bool.{eq-eqb}
use Rattle.lock_command.specs.declared.command.Command.{Command}
use Rattle.lock_command.specs.Command.{is_carried, is_submittable}
use Rattle.world.specs.World.{may_submit}
use Rattle.world.proofs.Follow.{command_reads_back}
use Rattle.cluster.proofs.cluster.Cluster.submit.Goals as goal

-- a host may submit a command of its own
own_is : (h : ℕ) (command : Command) → command.host ≡ h → is_submittable command ≡ true → may_submit h command ≡ true
own_is h command mine asked = (λ i. is_carried command.action || (eq-eqb command.host h mine i && asked i)) ∙ either (is_carried command.action)
  where
    either : (b : Bool) → (b || true) ≡ true
    either true = refl
    either false = refl

pub carry_out-requires-clause-may : goal.carry_out-requires-clause-may
carry_out-requires-clause-may g c =
    (command_reads_back c.args.command c.encode-spelling.ensures.fits, omega (arith, c.requires.tries), own_is _ c.args.command c.requires.host c.requires.asked)
