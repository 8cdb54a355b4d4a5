use Rattle.std.proofs.Common.{◌<◌, length, arith}
use Rattle.std.proofs.lemmas.List.{get_or_default}
use Rattle.std.proofs.lemmas.Option.{slice_get_within}
use Rattle.epoch_host.proofs.Carrying.{locks_spelled, next_lock}
use Rattle.epoch_host.proofs.carried.locks_read_back.Goals as goal

pub loop-at-preserved : goal.loop-at-preserved
loop-at-preserved c =
    let less : c.loop-at.at < length c.args.values.now = omega (arith, c.loop-at-test.true, c.requires) in
    next_lock c.args.locks.now c.args.values.now c.loop-at.at c.index-locks-at.result _ c.index-locks-at.is (get_or_default c.args.values.now c.loop-at.at _ _ less) c.lock_reads_back.ensures c.loop-at.invariant

pub returns : goal.returns
returns c =
    locks_spelled c.args.locks.now c.args.values.now
    (λ k r v is also. c.loop-at.invariant k r v (let less : k < length c.args.locks.now = slice_get_within c.args.locks.now k r is in omega (arith, less)) is also)
