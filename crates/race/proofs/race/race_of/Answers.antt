use Rattle.std.proofs.Common.{List, sym, subst}
use Rattle.cluster_tie.specs.Parts.{Own}
use Rattle.race.specs.Race.{AreTold}
use Rattle.race.proofs.race.race_of.Goals as goal

pub race_left-requires-clause-told : goal.race_left-requires-clause-told
race_left-requires-clause-told g c =
    subst (λ (l : List Own). AreTold g.N.ClusterName.shape l c.in-Ok-race_seats.raced.answers.items) (sym c.in_ok-left.ensures.same) c.in-Ok-race_seats.ensures.told
