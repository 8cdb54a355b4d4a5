-- No sign of life can be had, or no folder be opened.
use Rattle.std.proofs.Common.{inl, inr, rules}
use Rattle.c_claims.specs.Hearing.{Closes}
use Rattle.c_claims.proofs.hearing.hear_alone.Goals as goal

pub returns-in-3 : goal.returns-in-3
returns-in-3 c = inr (inl (
  search rules,
  record {
    unheard = c.sign_failed.ensures.unheard;
    nearer = c.sign_failed.ensures.nearer;
    moves = c.sign_failed.ensures.moves;
    goal = c.sign_failed.ensures.goal;
    value = c.sign_failed.ensures.value;
    keeps = c.sign_failed.ensures.keeps;
    release = c.sign_failed.ensures.release;
    told = c.sign_failed.ensures.told;
    out_of_turn = c.sign_failed.ensures.out_of_turn;
  },
))

pub returns-in_default : goal.returns-in_default
returns-in_default c =
    let closes : Closes c.failure_of.result c.args.claim.now c.closed.new.self = record {
      unheard = c.closed.ensures.unheard;
      nearer = c.closed.ensures.nearer;
      moves = c.closed.ensures.moves;
      goal = c.closed.ensures.goal;
      value = c.closed.ensures.value;
      keeps = c.closed.ensures.keeps;
      release = c.closed.ensures.release;
      told = c.closed.ensures.told;
      out_of_turn = c.closed.ensures.out_of_turn;
    } in
    inr (inr (search rules, search rules, (c.failure_of.result, search rules, closes)))
