use Rattle.std.proofs.Common.{inl, inr, arith}
use Rattle.inspect.proofs.MarkLemmas.{places_more, zero_seen}
use Rattle.inspect.proofs.edges.mark_runs.Goals as goal

pub loop-start-init : goal.loop-start-init
loop-start-init c = record {
  fits = omega arith;
  kept = λ a b m. m;
  sound = λ a b m. inl m;
  complete = λ k lt j none. absurd (omega (arith, none));
  seen = λ a. zero_seen 256 a;
}

pub loop-start-preserved : goal.loop-start-preserved
loop-start-preserved c = record {
  fits = c.end_of_run-end.ensures.fits;
  kept = λ a b m. c.mark_blocked.ensures.kept a b (c.loop-start.invariant.kept a b m);
  sound = λ a b m. elim (c.mark_blocked.ensures.sound a b m) [ inl before ↦ c.loop-start.invariant.sound a b before | inr is ↦ inr is ];
  complete = λ k lt. places_more c.args.locks.now _ c.loop-start.start _ c.loop-start.edges c.mark_blocked.new.edges c.mark_blocked.ensures.kept (c.loop-start.invariant.complete k lt) (c.mark_blocked.ensures.complete k lt);
  seen = c.mark_blocked.ensures.seen;
}
