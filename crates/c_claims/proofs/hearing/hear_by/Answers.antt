-- The claim makes the move that belongs to the event.
use Rattle.session.specs.declared.outcome.Failure.TheVariants.{Broken}
use Rattle.c_claims.specs.Hearing.{Closes, DropsSign, IsRefused, IsReplied, Learns, MeetsSign, Opens, Signs}
use Rattle.c_claims.proofs.hearing.hear_by.Goals as goal

pub returns-in-Opened : goal.returns-in-Opened
returns-in-Opened c =
    let moved : Opens c.args.learned.now c.args.claim.now c.opened.new.self = record {
      borne_out = c.opened.ensures.borne_out;
      nearer = c.opened.ensures.nearer;
      out_of_turn = c.opened.ensures.out_of_turn;
      moves = c.opened.ensures.moves;
      goal = c.opened.ensures.goal;
      value = c.opened.ensures.value;
      keeps = c.opened.ensures.keeps;
      release = c.opened.ensures.release;
    } in
    rw c.in-Opened.is moved

pub returns-in-Learned : goal.returns-in-Learned
returns-in-Learned c =
    let moved : Learns c.args.learned.now c.args.claim.now c.learned.new.self = record {
      borne_out = c.learned.ensures.borne_out;
      nearer = c.learned.ensures.nearer;
      pauses = c.learned.ensures.pauses;
      out_of_turn = c.learned.ensures.out_of_turn;
      moves = c.learned.ensures.moves;
      goal = c.learned.ensures.goal;
      value = c.learned.ensures.value;
      keeps = c.learned.ensures.keeps;
      release = c.learned.ensures.release;
    } in
    rw c.in-Learned.is moved

pub returns-in-Replied : goal.returns-in-Replied
returns-in-Replied c =
    let moved : IsReplied c.in-Replied.reply c.args.learned.now c.args.claim.now c.replied.new.self = record {
      borne_out = c.replied.ensures.borne_out;
      nearer = c.replied.ensures.nearer;
      slot = c.replied.ensures.slot;
      pauses = c.replied.ensures.pauses;
      refused = c.replied.ensures.refused;
      given_up = c.replied.ensures.given_up;
      out_of_turn = c.replied.ensures.out_of_turn;
      moves = c.replied.ensures.moves;
      goal = c.replied.ensures.goal;
      value = c.replied.ensures.value;
      keeps = c.replied.ensures.keeps;
      release = c.replied.ensures.release;
    } in
    rw c.in-Replied.is moved

pub returns-in-Refused : goal.returns-in-Refused
returns-in-Refused c =
    let moved : IsRefused c.in-Refused.failure c.args.learned.now c.args.claim.now c.refused.new.self = record {
      borne_out = c.refused.ensures.borne_out;
      nearer = c.refused.ensures.nearer;
      moves = c.refused.ensures.moves;
      goal = c.refused.ensures.goal;
      value = c.refused.ensures.value;
      keeps = c.refused.ensures.keeps;
      release = c.refused.ensures.release;
      told = c.refused.ensures.told;
      told_submitting = c.refused.ensures.told_submitting;
      out_of_turn = c.refused.ensures.out_of_turn;
    } in
    rw c.in-Refused.is moved

pub returns-in-Signed : goal.returns-in-Signed
returns-in-Signed c =
    let moved : Signs c.args.learned.now c.args.claim.now c.signed.new.self = record {
      borne_out = c.signed.ensures.borne_out;
      nearer = c.signed.ensures.nearer;
      asks = c.signed.ensures.asks;
      submits = c.signed.ensures.submits;
      ends = c.signed.ensures.ends;
      out_of_turn = c.signed.ensures.out_of_turn;
      same = c.signed.ensures.same;
    } in
    rw c.in-Signed.is moved

pub returns-in-SignHeld : goal.returns-in-SignHeld
returns-in-SignHeld c =
    let moved : MeetsSign c.args.learned.now c.args.claim.now c.sign_is_held.new.self = record {
      unheard = c.sign_is_held.ensures.unheard;
      nearer = c.sign_is_held.ensures.nearer;
      again = c.sign_is_held.ensures.again;
      out_of_turn = c.sign_is_held.ensures.out_of_turn;
      goal = c.sign_is_held.ensures.goal;
      value = c.sign_is_held.ensures.value;
      same = c.sign_is_held.ensures.same;
    } in
    rw c.in-SignHeld.is moved

pub returns-in-SignDropped : goal.returns-in-SignDropped
returns-in-SignDropped c =
    let moved : DropsSign c.args.learned.now c.args.claim.now c.dropped.new.self = record {
      ends = c.dropped.ensures.ends;
      again = c.dropped.ensures.again;
      out_of_turn = c.dropped.ensures.out_of_turn;
      goal = c.dropped.ensures.goal;
      value = c.dropped.ensures.value;
      nearer = c.dropped.ensures.nearer;
      other = c.dropped.ensures.other;
      same = c.dropped.ensures.same;
    } in
    rw c.in-SignDropped.is moved

pub returns-in-Unknown : goal.returns-in-Unknown
returns-in-Unknown c =
    let moved : Closes Broken c.args.claim.now c.closed.new.self = record {
      unheard = c.closed.ensures.unheard;
      nearer = c.closed.ensures.nearer;
      moves = c.closed.ensures.moves;
      goal = c.closed.ensures.goal;
      value = c.closed.ensures.value;
      keeps = c.closed.ensures.keeps;
      release = c.closed.ensures.release;
      told = c.closed.ensures.told;
      out_of_turn = c.closed.ensures.out_of_turn;
    } in
    rw c.in-Unknown.is moved
