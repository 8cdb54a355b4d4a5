use Rattle.std.proofs.Common.{◌-◌, List, subst, sym, refl, arith}
use Rattle.lock_command.specs.declared.record.LockRecord.{LockRecord}
use Rattle.lock_index.specs.Indexed.{IsGrantedGroup}
use Rattle.lock_index.proofs.Groups.{group_without}
use Rattle.lock_index.proofs.printed.take_out.Goals as goal

pub returns-then-place-group-clause-group : goal.returns-then-place-group-clause-group
returns-then-place-group-clause-group c =
    let xs = c.args.printed.now in
    let name = c.args.name.now in
    let end = c.args.group.end in
    let own = c.place_of-place.ensures in
    subst (λ (l : List LockRecord). IsGrantedGroup name l c.args.group.begin (end - 1)) (sym c.remove.ensures.locks)
    (group_without name xs c.args.group.begin end c.requires.group c.place_of-place.result (end - 1) c.args.own.now own.bound own.lock c.requires.named
    (λ less. omega (arith, less)) (λ more. absurd (omega (arith, more, c.if-place-group.true))))

pub returns-else-place-group-clause-group : goal.returns-else-place-group-clause-group
returns-else-place-group-clause-group c =
    let xs = c.args.printed.now in
    let name = c.args.name.now in
    let end = c.args.group.end in
    let own = c.place_of-place.ensures in
    subst (λ (l : List LockRecord). IsGrantedGroup name l c.args.group.begin end) (sym c.remove.ensures.locks)
    (group_without name xs c.args.group.begin end c.requires.group c.place_of-place.result end c.args.own.now own.bound own.lock c.requires.named
    (λ less. absurd (omega (arith, less, c.if-place-group.false))) (λ more. refl))
