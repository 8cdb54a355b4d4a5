use Rattle.world_served.proofs.Reaching.{second_left_alone, thirty_four, second_acknowledged}
use Rattle.world_served.proofs.law.thirty_four_calls_are_taken.Goals as goal

pub returns : goal.returns
returns c = record {
  alone = second_left_alone;
  thirty_four = thirty_four;
  acknowledged = second_acknowledged;
}
