use Rattle.std.proofs.Common.{◌≡◌, ◌∙◌, sym, ap, Some, None, true, false, arith, length}
use Rattle.lock_command.specs.declared.state.LockState.TheVariants.{Granted}
use Rattle.lock_command.specs.State.{goal_of}
use Rattle.lock_command.specs.Locks.{head_of, admits, settled, put, granted, in_state, queue}
use Rattle.lock_index.proofs.Turns.{settled-blocked, settled-idle}
use Rattle.lock_index.proofs.Shown.{shown, granted_next, granted_fewer}
use Rattle.lock_index.proofs.index.Index.settle_behind.Goals as goal

pub returns-then-not-admits : goal.returns-then-not-admits
returns-then-not-admits c =
    let r = c.in-Some.first in
    let now = c.loop-first.self in
    let turn : head_of now c.args.name.now ≡ Some r = sym c.in-Some.ensures.head in
    let may : admits now r.lock r.name (goal_of r.state) ≡ false = (λ i. admits now r.lock (c.in-Some.ensures.named i) (sym c.goal-wanted.ensures i)) ∙ sym c.if-not-admits.ensures in
    sym c.in-Some.ensures.printed ∙ ap shown (sym (settled-blocked now c.args.name.now r turn may)) ∙ c.loop-first.invariant.same

pub loop-first-smaller : goal.loop-first-smaller
loop-first-smaller c =
    let r = c.in-Some.first in
    let now = c.loop-first.self in
    let turn : head_of now c.args.name.now ≡ Some r = sym c.in-Some.ensures.head in
    let next : c.restate-group.new.self ≡ shown (put now (granted r)) = c.restate-group.ensures.put ∙ ap (λ m. shown (put now (in_state r (Granted m)))) c.goal-wanted.ensures in
    let fewer = granted_fewer now c.args.name.now r c.in-Some.ensures.distinct turn in
    omega (arith, ap (λ l. length (queue l c.args.name.now)) next)

pub loop-first-preserved : goal.loop-first-preserved
loop-first-preserved c =
    let r = c.in-Some.first in
    let now = c.loop-first.self in
    let turn : head_of now c.args.name.now ≡ Some r = sym c.in-Some.ensures.head in
    let may : admits now r.lock r.name (goal_of r.state) ≡ true = (λ i. admits now r.lock (c.in-Some.ensures.named i) (sym c.goal-wanted.ensures i)) ∙ sym c.if-not-admits.ensures in
    let next : c.restate-group.new.self ≡ shown (put now (granted r)) = c.restate-group.ensures.put ∙ ap (λ m. shown (put now (in_state r (Granted m)))) c.goal-wanted.ensures in
    record {
      same = ap (λ l. shown (settled l c.args.name.now)) next ∙ granted_next now c.args.name.now r c.in-Some.ensures.distinct turn may ∙ c.loop-first.invariant.same;
      group = c.restate-group.ensures.group;
    }

pub returns : goal.returns
returns c =
    let now = c.loop-first.self in
    let turn : head_of now c.args.name.now ≡ None = sym c.in_default.ensures.head in
    sym c.in_default.ensures.printed ∙ ap shown (sym (settled-idle now c.args.name.now turn)) ∙ c.loop-first.invariant.same

pub restate-group-requires-clause-named : goal.restate-group-requires-clause-named
restate-group-requires-clause-named c = sym c.in-Some.ensures.named
