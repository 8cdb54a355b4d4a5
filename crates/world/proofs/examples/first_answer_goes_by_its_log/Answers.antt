use Rattle.world.proofs.ShortLines.{submitted, not_submitted, only_submitted, acknowledged, only_acknowledged, not_idle, of_none}
use Rattle.world.proofs.examples.first_answer_goes_by_its_log.Goals as goal

pub returns : goal.returns
returns c = record {
  submitted = submitted;
  not_before = not_submitted;
  only_that = only_submitted;
  acknowledged = acknowledged;
  only_then = only_acknowledged;
  not_idle = not_idle;
  most = λ place n picture is. is.within;
  looked = λ place n picture is. is.within;
  pictured = λ place n is. is.table;
  of_none = of_none;
}
