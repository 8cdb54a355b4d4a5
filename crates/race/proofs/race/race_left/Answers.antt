use Rattle.std.specs.Prelude.{◌↔◌, IsTrue}
use Rattle.std.proofs.Common.{List, subst}
use Rattle.cluster_tie.specs.Parts.{Own}
use Rattle.race.specs.Agreement.{AllAgree}
use Rattle.race.proofs.Races.{race_is}
use Rattle.race.proofs.race.race_left.Goals as goal

pub returns-clause-race : goal.returns-clause-race
returns-clause-race g c =
    race_is g.N.ClusterName.shape c.requires.shape c.args.left.entries.items c.args.left.seats.items c.args.answers.items c.all_agree-agree.result c.requires.left c.requires.hosts c.requires.told
    (subst (λ (l : List Own). IsTrue c.all_agree-agree.result ↔ AllAgree g.N.ClusterName.shape l) c.as_slice.ensures.value c.all_agree-agree.ensures)
