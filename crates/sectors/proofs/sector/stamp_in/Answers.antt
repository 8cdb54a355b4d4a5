use Rattle.std.proofs.Common.{◌∙◌, ap}
use Rattle.std.proofs.lemmas.List.{take_rest}
use Rattle.byteorder.specs.Endian.{big_number}
use Rattle.paxos_block.specs.Saying.{number_at}
use Rattle.sectors.proofs.sector.stamp_in.Goals as goal

pub returns : goal.returns
unfolding number_at
returns c = c.number_in.ensures ∙ ap (big_number 8) (take_rest c.args.sector.now 256)
