use Rattle.lock_command.specs.Locks.{is_lock}
use Rattle.lock_index.specs.Printed.{printed_cmp}
use Rattle.lock_index.proofs.PrintedOrder.{printed_order}
use Rattle.lock_index.proofs.Cuts.{found_from}
use Rattle.lock_index.proofs.Below.{below_own}
use Rattle.lock_index.proofs.printed.place_of.Goals as goal

pub own_from-requires-clause-there : goal.own_from-requires-clause-there
own_from-requires-clause-there c =
    let own = c.args.own.now in
    let xs = c.args.printed.now in
    let i = c.locks_below-head.result in
    found_from printed_cmp printed_order (is_lock own.lock) own xs i
    (below_own xs c.locks_below-head.ensures.fit own c.lock_key.result i c.lock_key.ensures.fits c.lock_key.ensures.key c.locks_below-head.ensures.bound c.locks_below-head.ensures.point.0) c.requires.there
