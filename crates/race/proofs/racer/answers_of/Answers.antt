use Rattle.std.proofs.Common.{◌+◌, ◌<◌, ℕ, List, slice_index_or, sym, subst, arith}
use Rattle.race.specs.Answers.{IsTold}
use Rattle.race.specs.declared.answer.Answer.{Answer}
use Rattle.race.proofs.Racing.{told_more}
use Rattle.race.proofs.racer.answers_of.Goals as goal

pub loop-racer-preserved : goal.loop-racer-preserved
loop-racer-preserved g c = record {
  len = omega arith;
  room = omega arith;
  told =
      subst (λ (l : List Answer). (i : ℕ) (d : _) (e : Answer) → i < c.loop-racer.racer-index + 1 → IsTold g.N.ClusterName.shape (slice_index_or c.args.racers.now i d).seat (slice_index_or l i e)) (sym c.push_reserved.ensures.items)
      (told_more g.N.ClusterName.shape (λ x. x.seat) (λ x. x.answer) c.args.racers.now c.loop-racer.answers.items c.loop-racer.racer-index c.racer-item.result c.answer_of.result c.requires (omega arith) (omega arith) c.racer-item.is c.answer_of.ensures.given c.loop-racer.invariant.told);
}
