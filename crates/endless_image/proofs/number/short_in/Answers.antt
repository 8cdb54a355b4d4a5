use Rattle.paxos_block.specs.Headers.{short_at}
use Rattle.endless_image.proofs.number.short_in.Goals as goal

pub returns : goal.returns
unfolding short_at
returns c = c.read_u32.ensures
