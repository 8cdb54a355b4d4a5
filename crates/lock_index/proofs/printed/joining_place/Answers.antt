use Rattle.lock_index.proofs.Below.{joins_at}
use Rattle.lock_index.proofs.printed.joining_place.Goals as goal

pub returns-clause-place : goal.returns-clause-place
returns-clause-place c =
    joins_at c.args.printed.now c.locks_below.ensures.fit c.args.new.now c.lock_key.result c.locks_below.result c.lock_key.ensures.fits c.lock_key.ensures.key c.locks_below.ensures.bound c.locks_below.ensures.point
