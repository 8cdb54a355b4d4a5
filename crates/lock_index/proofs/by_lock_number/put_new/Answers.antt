use Rattle.std.proofs.Common.{List, sym, ap, subst, ◌∙◌}
use Rattle.std.specs.List.{filter}
use Rattle.std.specs.List.Sorted.{IsSorted}
use Rattle.lock_command.specs.declared.record.LockRecord.{LockRecord}
use Rattle.lock_index.specs.Indexed.{number_cmp}
use Rattle.lock_command.specs.Locks.{is_lock}
use Rattle.lock_index.proofs.Shown.{lock_of}
use Rattle.lock_index.proofs.Keyed.{insert_at_cut, rising_insert}
use Rattle.lock_index.proofs.by_lock_number.put_new.Goals as goal

pub returns-clause-rising : goal.returns-clause-rising
returns-clause-rising c =
    subst (λ (l : List LockRecord). IsSorted number_cmp l) (sym c.insert.ensures)
    (rising_insert lock_of c.args.new c.args.numbers.now c.lower_numbers_near-place.result c.requires.rising c.lower_numbers_near-place.ensures.point)

pub returns-clause-alike : goal.returns-clause-alike
returns-clause-alike c = λ lock.
    ap (filter (is_lock lock)) c.insert.ensures ∙ insert_at_cut lock_of c.args.new c.args.numbers.now c.lower_numbers_near-place.result c.requires.absent lock
