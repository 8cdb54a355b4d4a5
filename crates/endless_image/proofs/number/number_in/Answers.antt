use Rattle.paxos_block.specs.Saying.{number_at}
use Rattle.endless_image.proofs.number.number_in.Goals as goal

pub returns : goal.returns
unfolding number_at
returns c = c.read_u64.ensures
