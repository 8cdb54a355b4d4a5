use Rattle.std.proofs.Common.{arith}
use Rattle.sectors.proofs.RowLaws.{reads_front}
use Rattle.sectors.proofs.row.stamped_of.Goals as goal

pub returns : goal.returns
returns c = reads_front c.args.geometry.now c.requires.shape c.args.host 264 c.args.sectors.now (omega arith)
