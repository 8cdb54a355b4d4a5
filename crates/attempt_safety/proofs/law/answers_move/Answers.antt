use Rattle.attempt_safety.proofs.Slotting.{moves_on, events_here, events_there, learned_same}
use Rattle.attempt_safety.proofs.law.answers_move.Goals as goal

pub returns : goal.returns
returns c = record {
  history = moves_on;
  here = events_here;
  elsewhere = events_there;
  learned = learned_same;
}
