-- The table cannot be read.
use Rattle.std.proofs.Common.{inr, rules, subst}
use Rattle.session.specs.declared.outcome.Failure.{Failure}
use Rattle.c_claims.specs.Hearing.{MovesUnread}
use Rattle.c_claims.proofs.epochs.hear.Goals as goal

pub returns-in-Err : goal.returns-in-Err
returns-in-Err c = record {
  said = c.said.result;
  says = search rules;
  event = c.of-event.result;
  is = search rules;
  moves = inr (
    c.in-Err.fault,
    c.in-Err.ensures.lacks,
    subst (λ (failed : Failure). MovesUnread c.of-event.result failed c.args.claim.now c.hear_unread.new.claim) c.unread.ensures c.hear_unread.ensures,
  );
}
