use Rattle.std.proofs.Common.{◌*◌, ◌+◌, ◌-◌, arith}
use Rattle.standings.proofs.Masks.{put_zeros}
use Rattle.standings.proofs.reading.clear_block.Goals as goal

pub returns : goal.returns
returns c =
    put_zeros c.args.row.now c.fill.new.self (256 * c.args.host) (256 * c.args.host + 256 - 256 * c.args.host) (omega arith) (omega arith) (c.fill.ensures.after (λ y e. e))
