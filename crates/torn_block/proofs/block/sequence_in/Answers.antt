use Rattle.std.proofs.Common.{◌∙◌, ap}
use Rattle.std.proofs.lemmas.List.{take_rest}
use Rattle.byteorder.specs.Endian.{big_number}
use Rattle.torn_block.specs.Block.{sequence_of}
use Rattle.torn_block.proofs.block.sequence_in.Goals as goal

pub returns : goal.returns
unfolding sequence_of
returns c = c.read_u64.ensures ∙ ap (big_number 8) (take_rest c.args.copy.now 8)
