use Rattle.std.proofs.Common.{subst}
use Rattle.epoch_simulator.specs.Doing.{StopsWithin}
use Rattle.epoch_simulator.specs.Kept.{Kept}
use Rattle.epoch_simulator.proofs.Owed as owed
use Rattle.epoch_simulator.proofs.Owed.{kept_in}
use Rattle.epoch_simulator.proofs.simulated_epochs.SimulatedEpochs.tear.Goals as goal

pub spoil-requires-clause-range : goal.spoil-requires-clause-range
spoil-requires-clause-range c =
    let old = kept_in c.self.inside in
    let own = owed.own_of old c.self.invariant c.args.host (owed.seat_of c.args.host c.get.result c.from.result c.get.ensures.value c.get.ensures.range c.from.ensures) c.index_mut-own.result.now c.index_mut-own.ensures.value in
    let call =
    owed.due_by old c.self.invariant c.args.host own c.call-need.result c.call-need.ensures.due c.call-need.ensures.disk c.from-2.result c.from-2.ensures c.index_mut.result.now c.index_mut.ensures.value in
    owed.due_range old c.self.invariant c.args.host call c.call-need.result.call c.call-need.ensures.range

pub invariant_of-self : goal.invariant_of-self
invariant_of-self c =
    let old = kept_in c.self.inside in
    let own = owed.own_of old c.self.invariant c.args.host (owed.seat_of c.args.host c.get.result c.from.result c.get.ensures.value c.get.ensures.range c.from.ensures) c.index_mut-own.result.now c.index_mut-own.ensures.value in
    let call =
    owed.due_by old c.self.invariant c.args.host own c.call-need.result c.call-need.ensures.due c.call-need.ensures.disk c.from-2.result c.from-2.ensures c.index_mut.result.now c.index_mut.ensures.value in
    let may = owed.torn_by old c.args.self.now c.args.host c.self.view_is c.requires.may in
    let torn =
    owed.torn old c.self.invariant c.args.host call c.spoil.new.disk c.new.result c.spoil.ensures.size c.args.given.now c.hear.new.self
    (owed.writes_now old c.self.invariant c.args.host call may.0) c.spoil.ensures.disk c.spoil.ensures.leaves (owed.not_refused old c.self.invariant c.args.host call may.1) c.hear.ensures.makes
    (c.new.ensures.leads, c.new.ensures.idle) in
    owed.reached_by old (owed.left_kept old c.self.invariant c.args.host call c.spoil.new.disk c.new.result) _ c.self.invariant torn.leads

pub returns : goal.returns
returns c =
    let old = kept_in c.self.inside in
    let own = owed.own_of old c.self.invariant c.args.host (owed.seat_of c.args.host c.get.result c.from.result c.get.ensures.value c.get.ensures.range c.from.ensures) c.index_mut-own.result.now c.index_mut-own.ensures.value in
    let call =
    owed.due_by old c.self.invariant c.args.host own c.call-need.result c.call-need.ensures.due c.call-need.ensures.disk c.from-2.result c.from-2.ensures c.index_mut.result.now c.index_mut.ensures.value in
    let may = owed.torn_by old c.args.self.now c.args.host c.self.view_is c.requires.may in
    let torn =
    owed.torn old c.self.invariant c.args.host call c.spoil.new.disk c.new.result c.spoil.ensures.size c.args.given.now c.hear.new.self
    (owed.writes_now old c.self.invariant c.args.host call may.0) c.spoil.ensures.disk c.spoil.ensures.leaves (owed.not_refused old c.self.invariant c.args.host call may.1) c.hear.ensures.makes
    (c.new.ensures.leads, c.new.ensures.idle) in
    subst (λ (k : Kept). StopsWithin c.args.host c.args.given.now k (owed.left_kept old c.self.invariant c.args.host call c.spoil.new.disk c.new.result)) c.self.view_is torn
