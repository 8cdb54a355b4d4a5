use Rattle.std.proofs.Common.{nat_lt, arith}
use Rattle.lock_index.specs.Shelved.{no_lock}
use Rattle.lock_index.proofs.Shown.{lock_of}
use Rattle.lock_index.proofs.Keyed.{key_partitioned}
use Rattle.lock_index.proofs.Quarters.{narrowed_on, counted_on}
use Rattle.lock_index.proofs.by_lock_number.lower_numbers.Goals as goal

pub loop-size-preserved : goal.loop-size-preserved
loop-size-preserved c =
    narrowed_on (λ r. nat_lt r.lock c.args.lock) c.args.numbers.now (key_partitioned lock_of c.args.lock c.args.numbers.now c.requires) no_lock c.loop-size.from c.loop-size.size c.loop-size.invariant (omega (arith, c.loop-size-test.true))
    c.number_below-first.result c.number_below-second.result c.number_below-third.result c.passed_of_three-from.result
    (c.number_below-first.ensures.below no_lock) (c.number_below-second.ensures.below no_lock) (c.number_below-third.ensures.below no_lock) c.passed_of_three-from.ensures.passed

pub loop-at-preserved : goal.loop-at-preserved
loop-at-preserved c =
    counted_on (λ r. nat_lt r.lock c.args.lock) c.args.numbers.now (key_partitioned lock_of c.args.lock c.args.numbers.now c.requires) no_lock c.loop-size.from c.loop-size.size c.loop-size.invariant c.loop-at.place c.loop-at.at c.loop-at.invariant c.loop-at-test.true
    c.number_below-place.result (c.number_below-place.ensures.below no_lock)
