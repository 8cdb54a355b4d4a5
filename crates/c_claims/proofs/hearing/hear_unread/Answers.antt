-- The claim makes the move that belongs to the event, without a table.
use Rattle.std.proofs.Common.{◌≡◌, ◌⊎◌, inl, inr, subst, sym}
use Rattle.lock_command.specs.declared.reply.Reply.{Reply}
use Rattle.session.specs.declared.claim.Claim.{Claim}
use Rattle.session.specs.declared.outcome.Failure.{Failure}
use Rattle.session.specs.declared.outcome.Failure.TheVariants.{Broken}
use Rattle.c_claims.specs.declared.event.Event.{Event}
use Rattle.c_claims.specs.declared.event.Event.TheVariants.{Learned, Replied, SignHeld, Signed}
use Rattle.c_claims.specs.Hearing.{Closes, DropsUnread, IsRefusedUnread, MovesUnread, OpensUnread}
use Rattle.c_claims.proofs.hearing.hear_unread.Goals as goal

refused_so : (event : Event) (unread : Failure) (old new : Claim) →
    (event ≡ Learned) ⊎ ((reply : Reply) × (event ≡ Replied reply)) → IsRefusedUnread unread old new → MovesUnread event unread old new
refused_so event unread old new (inl is) refused = subst (λ (e : Event). MovesUnread e unread old new) (sym is) refused
refused_so event unread old new (inr is) refused = subst (λ (e : Event). MovesUnread e unread old new) (sym is.1) refused

closes_so : (event : Event) (unread : Failure) (old new : Claim) →
    (event ≡ Signed) ⊎ (event ≡ SignHeld) → Closes unread old new → MovesUnread event unread old new
closes_so event unread old new (inl is) closes = subst (λ (e : Event). MovesUnread e unread old new) (sym is) closes
closes_so event unread old new (inr is) closes = subst (λ (e : Event). MovesUnread e unread old new) (sym is) closes

pub returns-in-Opened : goal.returns-in-Opened
returns-in-Opened c =
    let moved : OpensUnread c.args.claim.now c.opened_unread.new.self = record {
      unheard = c.opened_unread.ensures.unheard;
      reads = c.opened_unread.ensures.reads;
      leaves = c.opened_unread.ensures.leaves;
      told = c.opened_unread.ensures.told;
      out_of_turn = c.opened_unread.ensures.out_of_turn;
      nearer = c.opened_unread.ensures.nearer;
      moves = c.opened_unread.ensures.moves;
      goal = c.opened_unread.ensures.goal;
      value = c.opened_unread.ensures.value;
      keeps = c.opened_unread.ensures.keeps;
      release = c.opened_unread.ensures.release;
    } in
    rw c.in-Opened.is moved

pub returns-in-Learned : goal.returns-in-Learned
returns-in-Learned c =
    let moved : IsRefusedUnread c.args.unread c.args.claim.now c.refused_unread.new.self = record {
      unheard = c.refused_unread.ensures.unheard;
      nearer = c.refused_unread.ensures.nearer;
      moves = c.refused_unread.ensures.moves;
      goal = c.refused_unread.ensures.goal;
      value = c.refused_unread.ensures.value;
      keeps = c.refused_unread.ensures.keeps;
      release = c.refused_unread.ensures.release;
      told = c.refused_unread.ensures.told;
      told_submitting = c.refused_unread.ensures.told_submitting;
      yields = c.refused_unread.ensures.yields;
      out_of_turn = c.refused_unread.ensures.out_of_turn;
    } in
    refused_so c.args.event c.args.unread c.args.claim.now c.refused_unread.new.self c.in-Learned.is moved

pub returns-in-Refused : goal.returns-in-Refused
returns-in-Refused c =
    let moved : IsRefusedUnread c.in-Refused.failure c.args.claim.now c.refused_unread-in-Refused.new.self = record {
      unheard = c.refused_unread-in-Refused.ensures.unheard;
      nearer = c.refused_unread-in-Refused.ensures.nearer;
      moves = c.refused_unread-in-Refused.ensures.moves;
      goal = c.refused_unread-in-Refused.ensures.goal;
      value = c.refused_unread-in-Refused.ensures.value;
      keeps = c.refused_unread-in-Refused.ensures.keeps;
      release = c.refused_unread-in-Refused.ensures.release;
      told = c.refused_unread-in-Refused.ensures.told;
      told_submitting = c.refused_unread-in-Refused.ensures.told_submitting;
      yields = c.refused_unread-in-Refused.ensures.yields;
      out_of_turn = c.refused_unread-in-Refused.ensures.out_of_turn;
    } in
    rw c.in-Refused.is moved

pub returns-in-Signed : goal.returns-in-Signed
returns-in-Signed c =
    let moved : Closes c.args.unread c.args.claim.now c.closed.new.self = record {
      unheard = c.closed.ensures.unheard;
      nearer = c.closed.ensures.nearer;
      moves = c.closed.ensures.moves;
      goal = c.closed.ensures.goal;
      value = c.closed.ensures.value;
      keeps = c.closed.ensures.keeps;
      release = c.closed.ensures.release;
      told = c.closed.ensures.told;
      out_of_turn = c.closed.ensures.out_of_turn;
    } in
    closes_so c.args.event c.args.unread c.args.claim.now c.closed.new.self c.in-Signed.is moved

pub returns-in-SignDropped : goal.returns-in-SignDropped
returns-in-SignDropped c =
    let moved : DropsUnread c.args.unread c.args.claim.now c.dropped_unread.new.self = record {
      ends = c.dropped_unread.ensures.ends;
      again = c.dropped_unread.ensures.again;
      told = c.dropped_unread.ensures.told;
      out_of_turn = c.dropped_unread.ensures.out_of_turn;
      goal = c.dropped_unread.ensures.goal;
      value = c.dropped_unread.ensures.value;
      other = c.dropped_unread.ensures.other;
      nearer = c.dropped_unread.ensures.nearer;
      same = c.dropped_unread.ensures.same;
    } in
    rw c.in-SignDropped.is moved

pub returns-in-Unknown : goal.returns-in-Unknown
returns-in-Unknown c =
    let moved : Closes Broken c.args.claim.now c.closed-in-Unknown.new.self = record {
      unheard = c.closed-in-Unknown.ensures.unheard;
      nearer = c.closed-in-Unknown.ensures.nearer;
      moves = c.closed-in-Unknown.ensures.moves;
      goal = c.closed-in-Unknown.ensures.goal;
      value = c.closed-in-Unknown.ensures.value;
      keeps = c.closed-in-Unknown.ensures.keeps;
      release = c.closed-in-Unknown.ensures.release;
      told = c.closed-in-Unknown.ensures.told;
      out_of_turn = c.closed-in-Unknown.ensures.out_of_turn;
    } in
    rw c.in-Unknown.is moved
