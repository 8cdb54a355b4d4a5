use Rattle.std.proofs.Common.{◌≡◌, List, [], filter, sym, ap, subst, ◌∙◌}
use Rattle.lock_command.specs.declared.record.TheConstants.{LOCKS}
use Rattle.lock_table.specs.declared.values.NamedValue.{NamedValue}
use Rattle.lock_table.specs.Apply.{done}
use Rattle.lock_index.specs.Printed.{printed_cmp}
use Rattle.lock_index.specs.Placed.{in_order}
use Rattle.lock_command.specs.declared.record.LockRecord.{LockRecord}
use Rattle.lock_command.specs.Locks.{IsDistinct}
use Rattle.lock_table.specs.Stored.{Valued, value_in, is_locked, put_if, IsValued, entry_by, asked_lock, asked_value_by, may_lose}
use Rattle.lock_table.specs.Values.{of_locked, changed, values_after, asked_value, returned, zeros}
use Rattle.lock_table.proofs.Behave.{same-of_locked, distinct-done, told_asked}
use Rattle.lock_table.proofs.Keeping.{still_locked}
use Rattle.lock_index.proofs.PrintedOrder.{same_in_order}
use Rattle.lock_table.proofs.Stored.{room_for, valued_none, nothing_after, entry_has, valued_stored, valued_again, locked_values, stores_changed, asked_same, of_locked_zeros, asked_zeros}
use Rattle.lock_table.proofs.valued.ValuedLocks.serve.Goals as goal

-- WHERE NOTHING IS STORED, AND NOTHING IS GIVEN

pub invariant_of-self : goal.invariant_of-self
invariant_of-self c =
    let empty : c.self.inside.values ≡ [] = ap (λ (v : Valued). v.entries) c.self.view_is ∙ c.leaves_zeros.ensures.empty c.if-leaves_zeros.true in
    subst (λ (l : List NamedValue). IsValued c.act-answer.new.self l) (sym empty) (valued_none c.act-answer.new.self)

pub returns-then-leaves_zeros-clause-values : goal.returns-then-leaves_zeros-clause-values
returns-then-leaves_zeros-clause-values c =
    let old = c.args.self.now in
    let action = c.args.action.now in
    let outcome = done old.locks c.args.host c.args.client action in
    let before : old.entries ≡ [] = c.leaves_zeros.ensures.empty c.if-leaves_zeros.true in
    let empty : c.self.inside.values ≡ [] = ap (λ (v : Valued). v.entries) c.self.view_is ∙ before in
    ap value_in empty
    ∙ nothing_after old.locks outcome.locks action outcome.answer (c.leaves_zeros.ensures.nothing c.if-leaves_zeros.true)
    ∙ ap (λ e. values_after (value_in e) old.locks outcome.locks action outcome.answer) (sym before)

pub returns-then-leaves_zeros-clause-reply : goal.returns-then-leaves_zeros-clause-reply
returns-then-leaves_zeros-clause-reply c =
    let old = c.args.self.now in
    let action = c.args.action.now in
    let empty : c.self.inside.values ≡ [] = ap (λ (v : Valued). v.entries) c.self.view_is ∙ c.leaves_zeros.ensures.empty c.if-leaves_zeros.true in
    let answered : c.act-answer.result ≡ (done old.locks c.args.host c.args.client action).answer =
    c.act-answer.ensures.answer ∙ ap (λ (t : Valued). (done t.locks c.args.host c.args.client action).answer) c.self.view_is in
    let asked : zeros ≡ asked_value (value_in c.self.inside.values) old.locks action = asked_zeros old.locks action ∙ ap (λ e. asked_value (value_in e) old.locks action) (sym empty) in
    ap (λ w. record { answer = c.act-answer.result; value = w }) c.returned.ensures ∙ (λ i. record { answer = answered i; value = returned (answered i) (asked i) })
    ∙ sym (told_asked action _ c.requires.asked)

-- ELSE

pub store_by-requires : goal.store_by-requires
store_by-requires c = record {
  named = c.spoil_by.ensures.valued.named;
  room = λ e h.
      let xs = c.printed.result.now in
      let action = c.args.action.now in
      let found : c.asked_lock-found.result ≡ asked_lock xs action = c.asked_lock-found.ensures.found ∙ ap (λ (v : Valued). asked_lock v.locks action) (sym c.self.view_is) ∙ ap (λ l. asked_lock l action) (sym c.printed.ensures.locks) in
      room_for xs c.spoil_by.new.values e LOCKS c.spoil_by.ensures.few c.spoil_by.ensures.valued
      (entry_has xs action c.act-answer-2.result e (ap (λ f. entry_by f action c.act-answer-2.result) (sym found) ∙ h));
}

pub keep_locked-requires-clause-named : goal.keep_locked-requires-clause-named
keep_locked-requires-clause-named c =
    let xs = c.printed.result.now in
    let action = c.args.action.now in
    let found : c.asked_lock-found.result ≡ asked_lock xs action = c.asked_lock-found.ensures.found ∙ ap (λ (v : Valued). asked_lock v.locks action) (sym c.self.view_is) ∙ ap (λ l. asked_lock l action) (sym c.printed.ensures.locks) in
    (valued_stored xs c.spoil_by.new.values c.store_by.new.values c.asked_lock-found.result action c.act-answer-2.result c.spoil_by.ensures.valued found c.store_by.ensures).named

pub keep_locked-requires-clause-others : goal.keep_locked-requires-clause-others
keep_locked-requires-clause-others c = λ name there still.
    let xs = c.printed.result.now in
    let action = c.args.action.now in
    let a = c.act-answer-2.result in
    let found : c.asked_lock-found.result ≡ asked_lock xs action = c.asked_lock-found.ensures.found ∙ ap (λ (v : Valued). asked_lock v.locks action) (sym c.self.view_is) ∙ ap (λ l. asked_lock l action) (sym c.printed.ensures.locks) in
    let valued = valued_stored xs c.spoil_by.new.values c.store_by.new.values c.asked_lock-found.result action a c.spoil_by.ensures.valued found c.store_by.ensures in
    let distinct : IsDistinct xs = subst (λ (l : List LockRecord). IsDistinct l) (sym c.printed.ensures.locks) c.printed.ensures.distinct in
    let now : c.printed-2.result.now ≡ in_order printed_cmp (done xs c.args.host c.args.client action).locks =
    c.printed-2.ensures.locks ∙ c.act-answer-2.ensures.locks ∙ ap (λ l. in_order printed_cmp (done l c.args.host c.args.client action).locks) (sym c.printed.ensures.locks) in
    still_locked c.store_by.new.values xs c.printed-2.result.now c.args.host c.args.client action distinct valued now name there (ap (λ f. may_lose f action name) (sym found) ∙ still)

pub invariant_of-self-2 : goal.invariant_of-self-2
invariant_of-self-2 c =
    let xs = c.printed.result.now in
    let action = c.args.action.now in
    let a = c.act-answer-2.result in
    let now = c.act-answer-2.new.self in
    let found : c.asked_lock-found.result ≡ asked_lock xs action = c.asked_lock-found.ensures.found ∙ ap (λ (v : Valued). asked_lock v.locks action) (sym c.self.view_is) ∙ ap (λ l. asked_lock l action) (sym c.printed.ensures.locks) in
    let valued = valued_stored xs c.spoil_by.new.values c.store_by.new.values c.asked_lock-found.result action a c.spoil_by.ensures.valued found c.store_by.ensures in
    let kept : c.keep_locked.new.values ≡ filter (is_locked now) c.store_by.new.values = c.keep_locked.ensures ∙ ap (λ l. filter (is_locked l) c.store_by.new.values) c.printed-2.ensures.locks in
    subst (λ (l : List NamedValue). IsValued now l) (sym kept) (valued_again now c.store_by.new.values valued.named)

pub returns-clause-values : goal.returns-clause-values
returns-clause-values c =
    let xs = c.printed.result.now in
    let own = c.self.inside.locks in
    let before = c.self.inside.values in
    let action = c.args.action.now in
    let host = c.args.host in
    let client = c.args.client in
    let a = c.act-answer-2.result in
    let now = c.act-answer-2.new.self in
    let after = (done own host client action).locks in
    let found : c.asked_lock-found.result ≡ asked_lock xs action = c.asked_lock-found.ensures.found ∙ ap (λ (v : Valued). asked_lock v.locks action) (sym c.self.view_is) ∙ ap (λ l. asked_lock l action) (sym c.printed.ensures.locks) in
    let put : c.store_by.new.values ≡ put_if c.spoil_by.new.values (entry_by (asked_lock xs action) action a) = c.store_by.ensures ∙ ap (λ f. put_if c.spoil_by.new.values (entry_by f action a)) found in
    let stored : value_in c.store_by.new.values ≡ changed (value_in before) own action a =
    ap value_in put ∙ stores_changed before c.spoil_by.new.values xs action a c.requires.asked c.spoil_by.ensures.values ∙ ap (λ l. changed (value_in before) l action a) c.printed.ensures.locks in
    let kept : c.keep_locked.new.values ≡ filter (is_locked now) c.store_by.new.values = c.keep_locked.ensures ∙ ap (λ l. filter (is_locked l) c.store_by.new.values) c.printed-2.ensures.locks in
    ap value_in kept ∙ locked_values now c.store_by.new.values ∙ ap (of_locked now) stored
    ∙ ap (λ l. of_locked l (changed (value_in before) own action a)) c.act-answer-2.ensures.locks
    ∙ same-of_locked (in_order printed_cmp after) after (changed (value_in before) own action a) (same_in_order after (distinct-done own host client action c.printed.ensures.distinct))
    ∙ ap (λ t. of_locked after (changed (value_in before) own action t)) c.act-answer-2.ensures.answer
    ∙ ap (λ (t : Valued). values_after (value_in t.entries) t.locks (done t.locks host client action).locks action (done t.locks host client action).answer) c.self.view_is

pub returns-clause-zeros : goal.returns-clause-zeros
returns-clause-zeros c = λ name none.
    let now = c.act-answer-2.new.self in
    let kept : c.keep_locked.new.values ≡ filter (is_locked now) c.store_by.new.values = c.keep_locked.ensures ∙ ap (λ l. filter (is_locked l) c.store_by.new.values) c.printed-2.ensures.locks in
    ap (λ l. value_in l name) kept ∙ (λ i. locked_values now c.store_by.new.values i name) ∙ of_locked_zeros now (value_in c.store_by.new.values) name none

pub returns-clause-reply : goal.returns-clause-reply
returns-clause-reply c =
    let old = c.args.self.now in
    let action = c.args.action.now in
    let v = value_in c.keep_locked.new.values in
    let answered : c.act-answer-2.result ≡ (done old.locks c.args.host c.args.client action).answer =
    c.act-answer-2.ensures.answer ∙ ap (λ (t : Valued). (done t.locks c.args.host c.args.client action).answer) c.self.view_is in
    let told : c.told_value-value.result ≡ returned c.act-answer-2.result (asked_value v old.locks action) =
    c.told_value-value.ensures ∙ ap (λ f. returned c.act-answer-2.result (asked_value_by v f action)) c.asked_lock-found.ensures.found
    ∙ ap (returned c.act-answer-2.result) (asked_same v old.locks action) in
    ap (λ w. record { answer = c.act-answer-2.result; value = w }) told
    ∙ (λ i. record { answer = answered i; value = returned (answered i) (asked_value v old.locks action) })
    ∙ sym (told_asked action _ c.requires.asked)
