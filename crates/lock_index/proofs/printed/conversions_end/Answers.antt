use Rattle.std.proofs.Common.{arith}
use Rattle.lock_index.proofs.Below.{rank_point}
use Rattle.lock_index.proofs.Groups.{lower_in_front}
use Rattle.lock_index.proofs.printed.conversions_end.Goals as goal

pub end_behind-requires-clause-front : goal.end_behind-requires-clause-front
end_behind-requires-clause-front c =
    let group = c.requires.group in
    lower_in_front c.args.name.now c.args.printed.now c.len.ensures.fit c.key.ensures.name 1 c.args.group.end (omega arith) group.ends.bound group.ends.point c.key.result (omega (arith, c.key.ensures.key))

pub returns-clause-point : goal.returns-clause-point
returns-clause-point c =
    rank_point c.args.printed.now c.len.ensures.fit c.args.name.now 2 c.key.result c.end_behind.result c.key.ensures.name (omega arith) c.key.ensures.key c.end_behind.ensures.bound c.end_behind.ensures.point
