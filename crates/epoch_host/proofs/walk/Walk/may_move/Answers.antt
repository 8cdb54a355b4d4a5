use Rattle.std.proofs.Common.{refl}
use Rattle.epoch_host.proofs.Moving.{same_place}
use Rattle.epoch_host.proofs.walk.Walk.may_move.Goals as goal

pub returns-then-self-lt-MOVES-clause-leads : goal.returns-then-self-lt-MOVES-clause-leads
returns-then-self-lt-MOVES-clause-leads c = same_place c.args.self.now _ refl refl refl

pub returns-else-self-lt-MOVES-clause-leads : goal.returns-else-self-lt-MOVES-clause-leads
returns-else-self-lt-MOVES-clause-leads c = c.refuse.ensures.leads

pub refuse-requires : goal.refuse-requires
refuse-requires c = record { cause = λ task is k h deeds led. tt }
