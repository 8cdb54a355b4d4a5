use Rattle.epochs_at_once.proofs.Images.{images_are_at_once, images_are_over_losses, images_have_one_log, images_have_one_log_over_losses, laid_out_is_blank}
use Rattle.epochs_at_once.proofs.law.images_are_disks_behind_headers.Goals as goal

pub returns : goal.returns
returns c = record {
  at_once = images_are_at_once;
  power = images_are_over_losses;
  one_log = images_have_one_log;
  one_log_on = images_have_one_log_over_losses;
  blank = laid_out_is_blank;
}
