use Rattle.std.proofs.Common.{refl, subst}
use Rattle.epoch_host.specs.declared.stay.Arrival.{Arrival}
use Rattle.epoch_host.specs.declared.walk.Whereabouts.TheVariants.{Nowhere}
use Rattle.epoch_host.specs.Walking.{HasEnded}
use Rattle.epoch_host.proofs.Moving.{goes_found, goes_nowhere, walks_then}
use Rattle.epoch_host.proofs.walk.Walk.take_found.Goals as goal

pub returns-in_default-clause-leads : goal.returns-in_default-clause-leads
returns-in_default-clause-leads c =
    let between = record c.args.self.now { is = Nowhere } in
    walks_then c.args.self.now between c.refuse.new.self (goes_nowhere c.args.self.now between refl refl refl) c.refuse.ensures.leads

pub returns-clause-leads : goal.returns-clause-leads
returns-clause-leads c =
    let arrival : Arrival = record { epoch = c.in-Newest.order; errand = c.if-self.errand; over = c.over_at_first.result } in
    goes_found c.args.self.now (record c.args.self.now { is = Nowhere }) c.enter.new.self c.requires.finds.0 c.in-Newest.order _ arrival c.requires.finds.1
    (subst (HasEnded c.requires.finds.0) c.in-Newest.is c.requires.finds.2) refl refl refl refl c.over_at_first.ensures c.enter.ensures.enters

pub refuse-requires : goal.refuse-requires
refuse-requires c = record { cause = λ task is k h deeds led. tt }
