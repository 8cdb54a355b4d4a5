use Rattle.std.proofs.Common.{arith}
use Rattle.lock_index.proofs.Below.{rank_point}
use Rattle.lock_index.proofs.printed.granted_group.Goals as goal

pub returns : goal.returns
returns c =
    let xs = c.args.printed.now in
    let name = c.args.name.now in
    let both = c.both_below-begin.ensures in
    record {
      bound = both.bound;
      point = rank_point xs both.fit name 0 c.key.result c.both_below-begin.result.0 c.key.ensures.name (omega arith) c.key.ensures.key both.bound both.point;
      ends = record {
        bound = both.bound_too;
        point = rank_point xs both.fit name 1 c.key-2.result c.both_below-begin.result.1 c.key-2.ensures.name (omega arith) c.key-2.ensures.key both.bound_too both.point_too;
      };
    }
