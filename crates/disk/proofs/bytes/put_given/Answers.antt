use Rattle.std.proofs.Common.{◌∙◌, ap, arith}
use Rattle.disk.specs.Disk.{put_at}
use Rattle.disk.proofs.FillingLemmas.{spread_part}
use Rattle.disk.proofs.bytes.put_given.Goals as goal

pub returns-then-first-len-clause-bytes : goal.returns-then-first-len-clause-bytes
returns-then-first-len-clause-bytes c =
    c.put.ensures.bytes ∙ ap (put_at c.args.bytes.now.items c.args.at) (spread_part c.args.given.now c.args.first c.args.len (omega arith))
