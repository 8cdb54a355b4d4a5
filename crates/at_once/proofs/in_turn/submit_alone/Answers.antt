use Rattle.std.specs.Prelude.{◌&&◌, ◌||◌}
use Rattle.std.proofs.Common.{◌≡◌, ◌<◌, ◌==◌, Bool, true, false, List, refl, ◌∙◌, subst, arith}
use Rattle.std.proofs.lemmas.Bool.{eq-eqb}
use Rattle.lock_command.specs.declared.command.Command.{Command}
use Rattle.lock_command.specs.Command.{is_carried, is_submittable}
use Rattle.disk.specs.Simulated.{SimState}
use Rattle.torn_block.specs.declared.layout.TheConstants.{HOSTS}
use Rattle.host.specs.Host.{Submitting}
use Rattle.world.specs.World.{may_submit}
use Rattle.dlm_images.specs.Operations.{HasOperated}
use Rattle.at_once.specs.InTurn.{Gives}
use Rattle.at_once.proofs.in_turn.submit_alone.Goals as goal

-- a host may submit a command of its own
own_is : (command : Command) → is_submittable command ≡ true → may_submit command.host command ≡ true
own_is command asked =
    (λ i. is_carried command.action || (eq-eqb command.host command.host refl i && asked i)) ∙ either (is_carried command.action)
  where
    either : (b : Bool) → (b || true) ≡ true
    either true = refl
    either false = refl

pub returns-clause-submitted : goal.returns-clause-submitted
returns-clause-submitted c =
    let old = c.in_ok-host.host.core in
    let new = c.submit-done.new.self in
    let below : c.args.command.host < HOSTS = omega (arith, c.get-number.ensures.value, c.get-number.ensures.range) in
    record {
      new = new;
      turn = record {
        below = below;
        old = old;
        leads = c.in_ok-host.ensures.fresh;
        may = (c.submit-done.ensures.readable, c.requires.tries, own_is c.args.command c.requires.asked);
        did =
            subst (λ (ds : List SimState). HasOperated Gives (Submitting c.args.command) c.args.tries (record { core = old; disks = ds }) new) c.in_ok-host.ensures.disks
            c.submit-done.ensures.operated;
      };
      leaves = c.into_disks-disks.ensures.disks;
      acknowledged = c.submit-done.ensures.acknowledged;
    }
