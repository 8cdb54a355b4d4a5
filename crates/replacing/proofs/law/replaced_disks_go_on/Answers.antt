use Rattle.replacing.proofs.Coming.{replaced_goes_on, replaced_goes_on_over_losses, replacements_have_one_log, replacements_have_one_log_over_losses}
use Rattle.replacing.proofs.Example.{may_be_replaced_at_first}
use Rattle.replacing.proofs.Files.{files_are_replaced}
use Rattle.replacing.proofs.law.replaced_disks_go_on.Goals as goal

pub returns : goal.returns
returns c = record {
  files = files_are_replaced;
  model = replaced_goes_on;
  power = replaced_goes_on_over_losses;
  one_log = replacements_have_one_log;
  one_log_on = replacements_have_one_log_over_losses;
  fresh = may_be_replaced_at_first;
}
