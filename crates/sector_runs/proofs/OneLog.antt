-- One log of what is done over devices.
use Rattle.std.specs.Prelude.{◌≡◌, ℕ, List, slice_get, Some}
use Rattle.std.proofs.Common.{sym, ◌∙◌}
use Rattle.lock_command.specs.declared.command.Command.{Command}
use Rattle.at_once.specs.Power.{renumbered}
use Rattle.at_once.proofs.Filling.{at_once_makes_a_run}
use Rattle.at_once.proofs.Losses.{losses_are_crashes, losses_are_joined}
use Rattle.sector_runs.specs.OneLog.{DevicesHaveOneLog}
use Rattle.sector_runs.proofs.Over.{devices_serve}

one_at_a_slot : (commands : List Command) (slot : ℕ) (one another : Command) → slice_get commands slot ≡ Some one → slice_get commands slot ≡ Some another → one ≡ another
one_at_a_slot commands slot one another is other = let both : Some one ≡ Some another = sym is ∙ other in cc

pub devices_have_one_log : DevicesHaveOneLog
devices_have_one_log c geometry images devices log over =
    let serve = devices_serve c geometry images devices log over in
    let run = at_once_makes_a_run c images (renumbered log) (losses_are_crashes c images log serve) in
    let joined = losses_are_joined c images log serve run in
    record {
      run = run;
      joined = joined;
      apart =
          λ i j g h slot kept other one another reply answer come comes acknowledged also.
          one_at_a_slot run.one.commands slot one another (joined.acknowledged i g kept one slot reply come acknowledged).0 (joined.acknowledged j h other another slot answer comes also).0;
    }
