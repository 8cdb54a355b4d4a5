use Rattle.std.proofs.Common.{◌<◌, ℕ, List, length, slice_index_or, subst, inl, inr, arith}
use Rattle.inspect.specs.Marks.{MarksPlace}
use Rattle.inspect.proofs.MarkLemmas.{all_marked, none_marked, all_listed}
use Rattle.inspect.proofs.edges.edges_of.Goals as goal

pub loop-from-init : goal.loop-from-init
loop-from-init c = record {
  fits = omega arith;
  sound = λ a b m. absurd (none_marked 65536 a b m);
  complete = λ k none. absurd (omega (arith, none));
}

pub loop-from-preserved : goal.loop-from-preserved
loop-from-preserved c = record {
  fits = c.list_wanting-from.ensures.fits;
  sound = λ a b m. elim (c.mark_runs.ensures.sound a b m) [ inl before ↦ c.loop-from.invariant.sound a b before | inr is ↦ is ];
  complete =
      all_listed c.args.locks.now c.list_wanting-from.new.wanting.items c.loop-from.from c.list_wanting-from.result (length c.args.locks.now) c.loop-from.edges c.mark_runs.new.edges c.list_wanting-from.ensures.listed c.mark_runs.ensures.kept c.loop-from.invariant.complete
      (subst (λ (w : List ℕ). (k : ℕ) → k < length w → MarksPlace c.args.locks.now (slice_index_or w k 0) (length c.args.locks.now) c.mark_runs.new.edges) c.deref.ensures.0 c.mark_runs.ensures.complete);
}

pub returns-clause-complete : goal.returns-clause-complete
returns-clause-complete c = all_marked c.args.locks.now c.loop-from.edges (λ k lt. c.loop-from.invariant.complete k (let le = c.loop-from-test.false in omega (arith, le, lt)))
