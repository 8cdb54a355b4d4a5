use Rattle.paxos_block.specs.Saying.{zeros}
use Rattle.endless_image.proofs.number.put_zeros.Goals as goal

pub returns : goal.returns
unfolding zeros
returns c = c.fill.ensures.after (λ y e. e)
