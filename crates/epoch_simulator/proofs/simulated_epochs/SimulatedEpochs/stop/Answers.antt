use Rattle.std.proofs.Common.{subst, ◌≡◌}
use Rattle.epoch_runs.specs.World.{Ends}
use Rattle.epoch_simulator.specs.Doing.{Stops}
use Rattle.epoch_simulator.specs.Kept.{Kept}
use Rattle.epoch_simulator.proofs.Owed as owed
use Rattle.epoch_simulator.proofs.Owed.{kept_in}
use Rattle.epoch_simulator.proofs.simulated_epochs.SimulatedEpochs.stop.Goals as goal

pub invariant_of-self : goal.invariant_of-self
invariant_of-self c =
    let old = kept_in c.self.inside in
    let seat = owed.seat_of c.args.host c.get.result c.from.result c.get.ensures.value c.get.ensures.range c.from.ensures in
    let done = owed.stops old c.self.invariant c.args.host seat c.new.result (c.new.ensures.leads, c.new.ensures.idle) in
    owed.reached_by old _ (λ entry. entry ≡ Ends c.args.host) c.self.invariant done.leads

pub returns : goal.returns
returns c =
    let old = kept_in c.self.inside in
    let seat = owed.seat_of c.args.host c.get.result c.from.result c.get.ensures.value c.get.ensures.range c.from.ensures in
    subst (λ (k : Kept). Stops c.args.host k (owed.seated old old.disks c.from.result c.new.result)) c.self.view_is
    (owed.stops old c.self.invariant c.args.host seat c.new.result (c.new.ensures.leads, c.new.ensures.idle))
