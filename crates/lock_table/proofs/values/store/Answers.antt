use Rattle.std.proofs.Common.{◌<◌, List, length, ap, subst, ◌∙◌, arith}
use Rattle.lock_table.specs.declared.values.NamedValue.{NamedValue}
use Rattle.lock_table.specs.Stored.{StandsAt, WouldStandAt}
use Rattle.lock_table.proofs.Sought.{forgotten_absent, put_there, put_absent}
use Rattle.lock_table.proofs.values.store.Goals as goal

pub insert-requires-clause-room : goal.insert-requires-clause-room
insert-requires-clause-room c =
    let absent = subst (λ (l : List NamedValue). WouldStandAt c.args.new.name l c.in-Err.at) c.entries.ensures c.in-Err.ensures.place in
    omega (arith, c.requires.room, ap length (forgotten_absent c.args.new.name c.args.values.now c.in-Err.at absent))

pub returns-in-Ok : goal.returns-in-Ok
returns-in-Ok c =
    let inside : c.in-Ok.at < length c.args.values.now = subst (λ (l : List NamedValue). c.in-Ok.at < length l) c.entries.ensures c.in-Ok.ensures.bound in
    let here = subst (λ (l : List NamedValue). StandsAt c.args.new.name l c.in-Ok.at) c.entries.ensures c.in-Ok.ensures.place in
    c.set.ensures ∙ put_there c.args.values.now c.in-Ok.at c.args.new c.requires.named inside here

pub returns-in-Err : goal.returns-in-Err
returns-in-Err c =
    let absent = subst (λ (l : List NamedValue). WouldStandAt c.args.new.name l c.in-Err.at) c.entries.ensures c.in-Err.ensures.place in
    c.insert.ensures ∙ put_absent c.args.values.now c.in-Err.at c.args.new absent
