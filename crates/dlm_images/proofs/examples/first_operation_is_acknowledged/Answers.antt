use Rattle.dlm_images.proofs.ShortRuns.{made, first, only_then, acknowledged, only_acknowledged}
use Rattle.dlm_images.proofs.examples.first_operation_is_acknowledged.Goals as goal

pub returns : goal.returns
returns c = record {
  made = made;
  first = first;
  only_then = only_then;
  acknowledged = acknowledged;
  only_acknowledged = only_acknowledged;
}
