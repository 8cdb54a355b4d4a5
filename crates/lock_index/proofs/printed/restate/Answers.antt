use Rattle.std.proofs.Common.{set, List, not, subst, sym, ap, ◌∙◌}
use Rattle.std.specs.List.Sorted.{IsSorted}
use Rattle.std.specs.Ordering.{is_lt}
use Rattle.std.proofs.lemmas.Bool.{not-true}
use Rattle.std.proofs.lemmas.List.Kept.{IsSortedBy-filter}
use Rattle.lock_command.specs.declared.record.LockRecord.{LockRecord}
use Rattle.lock_command.specs.State.{is_queued}
use Rattle.lock_index.specs.Keys.{lock_key, HasKey}
use Rattle.lock_command.specs.Locks.{is_lock, without}
use Rattle.lock_index.specs.Printed.{printed_cmp}
use Rattle.lock_index.specs.Placed.{placed}
use Rattle.lock_index.specs.Indexed.{stands_before_rank, IsGrantedGroup}
use Rattle.lock_index.proofs.PrintedOrder.{printed_order}
use Rattle.lock_index.proofs.Groups.{group_set}
use Rattle.lock_index.proofs.Regranted.{same_key, same_rank, fits_still, set_is_placed}
use Rattle.lock_index.proofs.printed.restate.Goals as goal

pub set-requires-clause-fits : goal.set-requires-clause-fits
set-requires-clause-fits c = subst (λ (r : LockRecord). HasKey r) (sym c.requires.restated) (fits_still c.args.own.now c.args.new.now.state c.place_of-at.ensures.fits)

pub set-requires-clause-key : goal.set-requires-clause-key
set-requires-clause-key c = λ d.
    let granted = not-true (is_queued c.args.own.now.state) (sym c.if-is_granted.ensures) in
    let stays = not-true (is_queued c.args.new.now.state) (sym c.if-is_granted-2.ensures) in
    ap lock_key c.requires.restated ∙ same_key c.args.own.now granted c.args.new.now.state stays ∙ ap lock_key (sym (c.place_of-at.ensures.lock d))

pub returns-then-is_granted-2 : goal.returns-then-is_granted-2
returns-then-is_granted-2 c =
    let xs = c.args.printed.now in
    let own = c.args.own.now in
    let granted = not-true (is_queued c.args.own.now.state) (sym c.if-is_granted.ensures) in
    let stays = not-true (is_queued c.args.new.now.state) (sym c.if-is_granted-2.ensures) in
    record {
      items = c.set.ensures
          ∙ ap (set xs c.place_of-at.result) c.requires.restated
          ∙ set_is_placed own granted c.args.new.now.state stays xs c.place_of-at.result c.requires.sorted c.requires.distinct c.place_of-at.ensures.bound c.place_of-at.ensures.lock c.place_of-at.ensures.place
          ∙ ap (λ r. placed printed_cmp r (without xs own.lock)) (sym c.requires.restated);
      group = subst (λ (l : List LockRecord). IsGrantedGroup c.args.name.now l c.args.group.begin c.args.group.end) (sym c.set.ensures)
          (group_set c.args.name.now xs c.args.group.begin c.args.group.end c.requires.group c.args.new.now c.place_of-at.result c.place_of-at.ensures.bound
          (λ rank d. ap (stands_before_rank c.args.name.now rank) c.requires.restated ∙ same_rank own granted c.args.new.now.state stays c.args.name.now rank ∙ ap (stands_before_rank c.args.name.now rank) (sym (c.place_of-at.ensures.lock d))));
    }

pub put_in-requires-clause-sorted : goal.put_in-requires-clause-sorted
put_in-requires-clause-sorted c =
    subst (λ (l : List LockRecord). IsSorted printed_cmp l) (sym c.take_out-left.ensures.items)
    (IsSortedBy-filter (λ x y. is_lt (printed_cmp x y)) printed_order (λ o. not (is_lock c.args.own.now.lock o)) c.args.printed.now c.requires.sorted)
