use Rattle.epochs.proofs.Steps.{own_calls_are_steps, own_tears_are_tears, others_leave_it, crashes_are_crashes, losses_are_losses, standings_change_nothing, fresh_disks_show_nothing, nobody_shows_nothing}
use Rattle.epochs.proofs.law.areas_show_images.Goals as goal

pub returns : goal.returns
returns c = record {
  calls = own_calls_are_steps;
  tears = own_tears_are_tears;
  others = others_leave_it;
  crashes = crashes_are_crashes;
  losses = losses_are_losses;
  standings = standings_change_nothing;
  fresh = fresh_disks_show_nothing;
  nobody = nobody_shows_nothing;
}
