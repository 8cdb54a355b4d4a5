use Rattle.std.proofs.Common.{◌<◌, ◌+◌, ◌∙◌, arith, inl, sym, subst}
use Rattle.inspect.specs.Marks.{ArePlaces, ListsWanting}
use Rattle.inspect.proofs.MarkLemmas.{places_with, listed_with, listed_without}
use Rattle.inspect.proofs.edges.list_wanting.Goals as goal
use Rattle.inspect.proofs.edges.list_wanting.Goals.{then-wants, else-wants}

pub loop-to-preserved : goal.loop-to-preserved
loop-to-preserved c =
    let from = c.loop-to.invariant.from in
    let lt : c.loop-to.to < _ = c.loop-to-test.true in
    let own = c.index-locks-to.result in record {
      first = inl (omega (arith, from));
      from = omega (arith, from);
      fits = omega (arith, lt);
      places = elim c.if-wants.branch [
        | then-wants w ↦ subst (ArePlaces c.args.locks.now) (sym ((λ i. (w.wanting-is i).items) ∙ w.push.ensures.items)) (places_with c.args.locks.now c.loop-to.wanting.items c.loop-to.to (omega (arith, lt)) c.loop-to.invariant.places)
        | else-wants w ↦ subst (ArePlaces c.args.locks.now) (sym (λ i. (w.wanting-is i).items)) c.loop-to.invariant.places
      ];
      listed = elim c.if-wants.branch [
        | then-wants w ↦ subst (ListsWanting c.args.locks.now c.args.from (c.loop-to.to + 1)) (sym ((λ i. (w.wanting-is i).items) ∙ w.push.ensures.items)) (listed_with c.args.locks.now c.loop-to.wanting.items c.args.from c.loop-to.to c.loop-to.invariant.listed)
        | else-wants w ↦ subst (ListsWanting c.args.locks.now c.args.from (c.loop-to.to + 1)) (sym (λ i. (w.wanting-is i).items)) (listed_without c.args.locks.now c.loop-to.wanting.items c.args.from c.loop-to.to own c.index-locks-to.is (sym c.wants.ensures.wants ∙ w.if-wants.false) c.loop-to.invariant.listed)
      ];
    }
