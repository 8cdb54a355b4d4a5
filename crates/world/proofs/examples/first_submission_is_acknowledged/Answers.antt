use Rattle.world.proofs.ShortRuns.{submitted, not_submitted, only_submitted, acknowledged, before, only_acknowledged}
use Rattle.world.proofs.examples.first_submission_is_acknowledged.Goals as goal

pub returns : goal.returns
returns c = record {
  submitted = submitted;
  not_before = not_submitted;
  only_that = only_submitted;
  acknowledged = acknowledged;
  before = before;
  only_then = only_acknowledged;
}
