use Rattle.attempt_safety.proofs.Leaving.{follows_same, by_others, by_settling, by_crashing, by_stopping, by_starting}
use Rattle.attempt_safety.proofs.law.others_leave_it.Goals as goal

pub returns : goal.returns
returns c = record {
  same = λ s heard old new same follows. follows_same s old new same heard follows;
  others = by_others;
  settling = by_settling;
  crashing = by_crashing;
  stopping = by_stopping;
  starting = by_starting;
}
