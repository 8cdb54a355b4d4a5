use Rattle.std.proofs.Common.{subst}
use Rattle.attempt.specs.DeviceCalls.{device_answer}
use Rattle.epoch_host.specs.declared.walk.Walk.{Walk}
use Rattle.epoch_simulator.specs.Doing.{Hears, KeepsTask, GivesUp, outcome_due}
use Rattle.epoch_simulator.specs.Kept.{Kept}
use Rattle.epoch_simulator.proofs.Owed as owed
use Rattle.epoch_simulator.proofs.Owed.{Due, kept_in}
use Rattle.epoch_simulator.proofs.simulated_epochs.SimulatedEpochs.step.Goals as goal

module _ (c : goal.After-self-3-1) where
  abbrev old : Kept
  old = kept_in c.self.inside

  abbrev call : Due old c.args.host
  call =
      owed.due_by old c.self.invariant c.args.host
      (owed.own_of old c.self.invariant c.args.host (owed.seat_of c.args.host c.get.result c.from.result c.get.ensures.value c.get.ensures.range c.from.ensures) c.index_mut-own.result.now c.index_mut-own.ensures.value)
      c.call-need.result c.call-need.ensures.due c.call-need.ensures.disk c.from-2.result c.from-2.ensures c.index_mut-disk.result.now c.index_mut-disk.ensures.value

  abbrev new : Kept
  new = owed.left_kept old c.self.invariant c.args.host call c.make-heard.new.disk c.hear.new.self

  stepped : (IsSo : (first last : Walk) → Type 0) → IsSo c.index_mut-own.result.now c.hear.new.self → Hears c.args.host (outcome_due old c.args.host).0 (outcome_due old c.args.host).1 old new IsSo
  stepped IsSo so = owed.stepped old c.self.invariant c.args.host call c.make-heard.new.disk c.hear.new.self c.make-heard.ensures.size (device_answer c.make-heard.result) IsSo c.make-heard.ensures.gave c.hear.ensures.makes so

  seen : (IsSo : (first last : Walk) → Type 0) → IsSo c.index_mut-own.result.now c.hear.new.self
      → Hears c.args.host (outcome_due c.args.self.now c.args.host).0 (outcome_due c.args.self.now c.args.host).1 c.args.self.now new IsSo
  seen IsSo so = subst (λ (k : Kept). Hears c.args.host (outcome_due k c.args.host).0 (outcome_due k c.args.host).1 k new IsSo) c.self.view_is (stepped IsSo so)

pub invariant_of-self : goal.invariant_of-self
invariant_of-self c = owed.reached_on (old c) (new c) _ c.self.invariant (stepped c (λ first last. Unit {0}) tt).leads

pub returns-clause-heard : goal.returns-clause-heard
returns-clause-heard c =
    owed.on_ok c.hear.result c.hear.ensures.told
    (λ told. seen c KeepsTask (record { keeps = c.hear.ensures.keeps; told = told; ends = c.hear.ensures.ends; there = c.hear.ensures.there; done = c.hear.ensures.fresh }))

pub returns-clause-given_up : goal.returns-clause-given_up
returns-clause-given_up c = owed.on_err c.hear.result c.hear.ensures.given_up (λ given_up. seen c GivesUp given_up)
