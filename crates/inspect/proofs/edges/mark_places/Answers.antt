use Rattle.std.proofs.Common.{inl, inr}
use Rattle.inspect.proofs.MarkLemmas.{marks_more}
use Rattle.inspect.proofs.edges.mark_places.Goals as goal

pub loop-j-preserved : goal.loop-j-preserved
loop-j-preserved c = record {
  kept = λ a b m. c.mark_pair.ensures.kept a b (c.loop-j.invariant.kept a b m);
  complete = marks_more c.args.locks.now c.args.i c.args.from c.loop-j.j c.loop-j.edges c.mark_pair.new.edges c.mark_pair.ensures.kept c.loop-j.invariant.complete c.mark_pair.ensures.complete;
  sound = λ a b m. elim (c.mark_pair.ensures.sound a b m) [ inl before ↦ c.loop-j.invariant.sound a b before | inr is ↦ inr is ];
}
