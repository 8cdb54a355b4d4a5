use Rattle.std.proofs.Common.{arith}
use Rattle.sectors.proofs.RowLaws.{reads_front}
use Rattle.sectors.proofs.row.block_of.Goals as goal

pub returns-clause-block : goal.returns-clause-block
returns-clause-block c = reads_front c.args.geometry.now c.requires.shape c.args.host 256 c.args.sectors.now (omega arith)
