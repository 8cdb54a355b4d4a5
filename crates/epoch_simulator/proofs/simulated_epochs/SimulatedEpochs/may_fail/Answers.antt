use Rattle.std.proofs.Common.{is_none, sym, ap, ◌∙◌}
use Rattle.epoch_simulator.specs.Doing.{may_fail}
use Rattle.epoch_simulator.specs.Kept.{Kept}
use Rattle.epoch_simulator.proofs.Owed as owed
use Rattle.epoch_simulator.proofs.Owed.{Due, kept_in}
use Rattle.epoch_simulator.proofs.simulated_epochs.SimulatedEpochs.may_fail.Goals as goal

pub returns : goal.returns
returns c =
    let old = kept_in c.self.inside in
    let own = owed.own_of old c.self.invariant c.args.host (owed.seat_of c.args.host c.get.result c.from.result c.get.ensures.value c.get.ensures.range c.from.ensures) c.index.result.now c.index.ensures in
    let due = owed.due_by old c.self.invariant c.args.host own c.call-need.result c.call-need.ensures.due c.call-need.ensures.disk c.from-2.result c.from-2.ensures c.index-2.result.now c.index-2.ensures in
    c.takes.ensures ∙ sym (ap is_none (owed.due_refusal old c.self.invariant c.args.host due)) ∙ ap (λ (k : Kept). may_fail k c.args.host) c.self.view_is
