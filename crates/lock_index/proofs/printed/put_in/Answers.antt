use Rattle.std.proofs.Common.{◌+◌, List, subst, sym}
use Rattle.std.proofs.lemmas.Bool.{not-true, not-false}
use Rattle.lock_command.specs.declared.record.LockRecord.{LockRecord}
use Rattle.lock_command.specs.State.{is_queued}
use Rattle.lock_index.specs.Indexed.{IsGrantedGroup}
use Rattle.lock_index.proofs.Groups.{group_with_granted, group_with_queued}
use Rattle.lock_index.proofs.printed.put_in.Goals as goal

pub returns-then-is_granted-clause-group : goal.returns-then-is_granted-clause-group
returns-then-is_granted-clause-group c =
    let name = c.args.name.now in
    let granted = not-true (is_queued c.args.new.now.state) (sym c.if-is_granted.ensures) in
    let joins = c.joining_place.ensures in
    subst (λ (l : List LockRecord). IsGrantedGroup name l c.args.group.begin (c.args.group.end + 1)) (sym c.insert.ensures)
    (group_with_granted name c.args.printed.now c.args.group.begin c.args.group.end c.requires.group c.args.new.now c.joining_place.result c.requires.named granted joins.after (joins.granted granted))

pub returns-else-is_granted-clause-group : goal.returns-else-is_granted-clause-group
returns-else-is_granted-clause-group c =
    let name = c.args.name.now in
    let queued = not-false (is_queued c.args.new.now.state) (sym c.if-is_granted.ensures) in
    let joins = c.joining_place.ensures in
    subst (λ (l : List LockRecord). IsGrantedGroup name l c.args.group.begin c.args.group.end) (sym c.insert.ensures)
    (group_with_queued name c.args.printed.now c.args.group.begin c.args.group.end c.requires.group c.args.new.now c.joining_place.result c.requires.named queued (joins.queued queued) joins.bound)
