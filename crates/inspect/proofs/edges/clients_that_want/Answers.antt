use Rattle.std.proofs.Common.{◌≡◌, ◌+◌, ◌∙◌, true, length, slice_set, arith, ap, sym, subst}
use Rattle.std.proofs.lemmas.List.{length-set}
use Rattle.inspect.specs.Marks.{HasWanting}
use Rattle.inspect.proofs.MarkLemmas.{has_with, has_without, has_blocked}
use Rattle.inspect.proofs.edges.clients_that_want.Goals as goal
use Rattle.inspect.proofs.edges.clients_that_want.Goals.{then-wants, else-wants}

pub locks-preserved : goal.locks-preserved
locks-preserved c =
    let locks = c.args.locks.now in
    let at = c.locks.lock-index in
    let own = c.lock-item.result in
    elim c.if-wants.branch [
      | then-wants w ↦
          let client : w.from.result ≡ own.client = w.from.ensures ∙ w.get.ensures.value in
          let set : HasWanting locks (at + 1) (slice_set c.locks.clients w.from.result true) =
          subst (λ n. HasWanting locks (at + 1) (slice_set c.locks.clients n true)) (sym client) (has_with locks c.locks.clients at own c.lock-item.is (omega (arith, client, w.get.ensures.range, w.from.ensures, c.locks.invariant.long)) c.locks.invariant.has) in record {
            long = ap length w.clients-is ∙ length-set c.locks.clients w.from.result true ∙ c.locks.invariant.long;
            has = subst (HasWanting locks (at + 1)) (sym w.clients-is) set;
          }
      | else-wants w ↦ record {
        long = ap length w.clients-is ∙ c.locks.invariant.long;
        has = subst (HasWanting locks (at + 1)) (sym w.clients-is) (has_without locks c.locks.clients at own c.lock-item.is (sym c.wants.ensures.wants ∙ w.if-wants.false) c.locks.invariant.has);
      }
    ]

pub returns : goal.returns
returns c = has_blocked c.args.locks.now c.locks.clients (λ i x lt. c.locks.invariant.has i x (let le = c.locks-test.false in omega (arith, le, lt)))
