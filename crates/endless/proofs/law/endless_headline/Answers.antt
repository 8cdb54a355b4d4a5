use Rattle.endless.proofs.Headline.{endless_headline}
use Rattle.endless.proofs.Other.{endless_logs_are_one, long_epochs_have_room}
use Rattle.endless.proofs.Shared.{shared_have_one_log, shared_over_losses}
use Rattle.endless.proofs.law.endless_headline.Goals as goal

pub returns : goal.returns
returns c = record { headline = endless_headline; no_other = endless_logs_are_one; room = long_epochs_have_room; shared = shared_have_one_log; power = shared_over_losses }
