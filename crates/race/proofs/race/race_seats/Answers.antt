use Rattle.std.proofs.Common.{◌≡◌, ◌<◌, ℕ, List, length, get_or, sym, subst, ◌∙◌, arith}
use Rattle.cluster_tie.specs.Parts.{Own}
use Rattle.race.specs.Answers.{IsTold}
use Rattle.race.specs.Race.{AreByHost, AreTold}
use Rattle.race.specs.declared.answer.Answer.{Answer}
use Rattle.race.proofs.Lists.{each_mapped}
use Rattle.race.proofs.race.race_seats.Goals as goal

pub returns-clause-hosts : goal.returns-clause-hosts
returns-clause-hosts g c =
    let len = c.in_ok-racers.ensures.len in
    subst AreByHost (sym c.in_ok-seats.ensures)
    (each_mapped (λ x. x.seat) (λ (i : ℕ) (own : Own). own.number ≡ i) c.in_ok-racers.racers.items
    (λ i d few. c.in_ok-racers.ensures.hosts i d d.seat (omega (arith, len)) ∙ c.requires.hosts i d.seat (omega (arith, len))))

pub returns-clause-told : goal.returns-clause-told
returns-clause-told g c =
    let answers = c.in_ok-answers.answers.items in
    subst (λ (l : List Own). AreTold g.N.ClusterName.shape l answers) (sym c.in_ok-seats.ensures)
    (λ i own e few.
    each_mapped (λ x. x.seat) (λ (n : ℕ) (o : Own). (a : Answer) → IsTold g.N.ClusterName.shape o (get_or answers n a)) c.in_ok-racers.racers.items
    (λ n d less a.
    subst (λ (l : List _). (k : ℕ) (x : _) (b : Answer) → k < length l → IsTold g.N.ClusterName.shape (get_or l k x).seat (get_or answers k b)) c.as_slice.ensures.value c.in_ok-answers.ensures.told n d a less)
    i own few e)
