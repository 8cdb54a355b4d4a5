use Rattle.world_served.proofs.Reaching.{left_alone, seventeen, acknowledged}
use Rattle.world_served.proofs.law.seventeen_calls_are_taken.Goals as goal

pub returns : goal.returns
returns c = record {
  alone = left_alone;
  seventeen = seventeen;
  acknowledged = acknowledged;
}
