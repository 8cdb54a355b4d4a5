use Rattle.std.proofs.Common.{◌≡◌, true, false, if◌then◌else◌, sym, ap, ◌∙◌}
use Rattle.lock_table.specs.Apply.{carried}
use Rattle.lock_table.specs.Stored.{Valued, value_in, IsValued}
use Rattle.lock_table.specs.Values.{Values, stored, is_state, of_locked, returned}
use Rattle.lock_table.proofs.Entries.{valued_still, values_still, valued_zeros, room_own, valued_own, values_own, told_own}
use Rattle.lock_table.proofs.valued.ValuedLocks.carry.Goals as goal

-- WHERE THE LOCK IS REFUSED

pub invariant_of-self : goal.invariant_of-self
invariant_of-self c =
    valued_still c.self.inside.locks c.carry-answer.new.self c.self.inside.values c.args.new c.args.value c.carry-answer.ensures.distinct c.self.invariant c.carry-answer.ensures.locks

pub returns-then-not-is_state-clause-values : goal.returns-then-not-is_state-clause-values
returns-then-not-is_state-clause-values c =
    let own = c.self.inside.locks in
    let new = c.args.new in
    let refused : is_state (carried own new).answer ≡ false = ap is_state (sym c.carry-answer.ensures.answer) ∙ sym c.is_state.ensures ∙ c.if-not-is_state.true in
    values_still own c.carry-answer.new.self c.self.inside.values new c.args.value c.carry-answer.ensures.distinct c.self.invariant c.carry-answer.ensures.locks refused
    ∙ ap (λ (t : Valued). of_locked (carried t.locks new).locks (if is_state (carried t.locks new).answer then stored (value_in t.entries) new.name c.args.value else value_in t.entries)) c.self.view_is

pub returns-then-not-is_state-clause-zeros : goal.returns-then-not-is_state-clause-zeros
returns-then-not-is_state-clause-zeros c =
    valued_zeros c.carry-answer.new.self c.self.inside.values
    (valued_still c.self.inside.locks c.carry-answer.new.self c.self.inside.values c.args.new c.args.value c.carry-answer.ensures.distinct c.self.invariant c.carry-answer.ensures.locks)

-- WHERE IT IS PUT IN

pub store_carried-requires-clause-room : goal.store_carried-requires-clause-room
store_carried-requires-clause-room c =
    let own = c.self.inside.locks in
    let put : is_state (carried own c.args.new).answer ≡ true = ap is_state (sym c.carry-answer.ensures.answer) ∙ sym c.is_state.ensures ∙ c.if-not-is_state.false in
    room_own own c.carry-answer.new.self c.self.inside.values c.args.new c.args.value c.carry-answer.ensures.distinct c.self.invariant c.carry-answer.ensures.locks put

stored_valued : (c : goal.After-returned) → IsValued c.carry-answer.new.self c.store_carried.new.values
stored_valued c =
    let own = c.self.inside.locks in
    let put : is_state (carried own c.args.new).answer ≡ true = ap is_state (sym c.carry-answer.ensures.answer) ∙ sym c.is_state.ensures ∙ c.if-not-is_state.false in
    c.store_carried.ensures.valued c.carry-answer.new.self
    (valued_own own c.carry-answer.new.self c.self.inside.values c.args.new c.args.value c.carry-answer.ensures.distinct c.self.invariant c.carry-answer.ensures.locks put)

pub invariant_of-self-2 : goal.invariant_of-self-2
invariant_of-self-2 c = stored_valued c

pub returns-clause-values : goal.returns-clause-values
returns-clause-values c =
    let own = c.self.inside.locks in
    let new = c.args.new in
    let put : is_state (carried own new).answer ≡ true = ap is_state (sym c.carry-answer.ensures.answer) ∙ sym c.is_state.ensures ∙ c.if-not-is_state.false in
    c.store_carried.ensures.values
    ∙ values_own own c.carry-answer.new.self c.self.inside.values new c.args.value c.carry-answer.ensures.distinct c.self.invariant c.carry-answer.ensures.locks put
    ∙ ap (λ (t : Valued). of_locked (carried t.locks new).locks (if is_state (carried t.locks new).answer then stored (value_in t.entries) new.name c.args.value else value_in t.entries)) c.self.view_is

pub returns-clause-zeros : goal.returns-clause-zeros
returns-clause-zeros c = valued_zeros c.carry-answer.new.self c.store_carried.new.values (stored_valued c)

pub returns-clause-reply : goal.returns-clause-reply
returns-clause-reply c =
    let own = c.self.inside.locks in
    let new = c.args.new in
    let put : is_state (carried own new).answer ≡ true = ap is_state (sym c.carry-answer.ensures.answer) ∙ sym c.is_state.ensures ∙ c.if-not-is_state.false in
    let told : value_in c.store_carried.new.values new.name ≡ c.args.value =
    ap (λ (v : Values). v new.name) c.store_carried.ensures.values
    ∙ told_own own c.carry-answer.new.self c.self.inside.values new c.args.value c.carry-answer.ensures.distinct c.self.invariant c.carry-answer.ensures.locks put in
    let answered : c.carry-answer.result ≡ (carried c.args.self.now.locks new).answer = c.carry-answer.ensures.answer ∙ ap (λ (t : Valued). (carried t.locks new).answer) c.self.view_is in
    ap (λ w. record { answer = c.carry-answer.result; value = w }) (c.returned.ensures ∙ ap (returned c.carry-answer.result) (sym told))
    ∙ ap (λ a. record { answer = a; value = returned a (value_in c.store_carried.new.values new.name) }) answered
