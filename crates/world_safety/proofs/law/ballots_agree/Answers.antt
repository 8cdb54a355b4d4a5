use Rattle.world_safety.proofs.Claims.Ballots.{binds_greater, binds_all, one_proposal, proposes_in_order}
use Rattle.world_safety.proofs.law.ballots_agree.Goals as goal

pub returns : goal.returns
returns c = record {
  greater = binds_greater;
  migrated = binds_all;
  one = one_proposal;
  in_order = proposes_in_order;
}
