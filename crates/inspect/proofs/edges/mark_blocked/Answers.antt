use Rattle.std.proofs.Common.{inl, inr}
use Rattle.inspect.proofs.MarkLemmas.{runs_more}
use Rattle.inspect.proofs.edges.mark_blocked.Goals as goal

pub listed-preserved : goal.listed-preserved
listed-preserved c = record {
  kept = λ a b m. c.mark_blockers.ensures.kept a b (c.listed.invariant.kept a b m);
  complete = runs_more c.args.locks.now c.args.wanting.now c.listed.place-index c.args.start c.args.end c.listed.edges c.mark_blockers.new.edges c.mark_blockers.ensures.kept c.listed.invariant.complete c.mark_blockers.ensures.complete;
  sound = λ a b m. elim (c.mark_blockers.ensures.sound a b m) [ inl before ↦ c.listed.invariant.sound a b before | inr is ↦ inr is ];
  seen = c.mark_blockers.ensures.seen;
}
