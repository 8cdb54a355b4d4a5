use Rattle.std.proofs.Common.{nat_lt}
use Rattle.lock_index.specs.Keys.{lock_key}
use Rattle.lock_index.specs.Shelved.{no_lock}
use Rattle.lock_index.proofs.Below.{below_partitioned}
use Rattle.lock_index.proofs.Quarters.{narrowed_on}
use Rattle.lock_index.proofs.printed.narrowed.Goals as goal

pub returns : goal.returns
returns c =
    narrowed_on (λ r. nat_lt (lock_key r) c.args.key) c.args.printed.now (below_partitioned c.args.printed.now c.requires.fit c.args.key c.requires.sorted) no_lock c.args.from c.args.size c.requires.narrowed c.requires.more
    c.below-first.result c.below-second.result c.below-third.result c.passed_of_three.result
    (c.below-first.ensures.below no_lock) (c.below-second.ensures.below no_lock) (c.below-third.ensures.below no_lock) c.passed_of_three.ensures.passed
