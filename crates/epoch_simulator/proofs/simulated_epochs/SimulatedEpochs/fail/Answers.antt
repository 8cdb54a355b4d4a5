use Rattle.std.proofs.Common.{◌≡◌, true, sym, subst}
use Rattle.disk.specs.Disk.{Fault}
use Rattle.disk.specs.declared.fault.DiskFault.TheVariants.{Failed}
use Rattle.epoch_host.specs.declared.walk.Walk.{Walk}
use Rattle.epoch_simulator.specs.Doing.{GivesUp, Hears, KeepsTask, cut_due, may_fail}
use Rattle.epoch_simulator.specs.Kept.{Kept}
use Rattle.epoch_simulator.proofs.Owed as owed
use Rattle.epoch_simulator.proofs.Owed.{Due, kept_in}
use Rattle.epoch_simulator.proofs.simulated_epochs.SimulatedEpochs.fail.Goals as goal

pub spoil-requires-clause-range : goal.spoil-requires-clause-range
spoil-requires-clause-range c =
    let own = owed.own_of (kept_in c.self.inside) c.self.invariant c.args.host (owed.seat_of c.args.host c.get.result c.from.result c.get.ensures.value c.get.ensures.range c.from.ensures) c.index_mut-own.result.now c.index_mut-own.ensures.value in
    let due =
    owed.due_by (kept_in c.self.inside) c.self.invariant c.args.host own c.call-need.result c.call-need.ensures.due c.call-need.ensures.disk c.from-2.result c.from-2.ensures c.index_mut.result.now c.index_mut.ensures.value in
    owed.due_range (kept_in c.self.inside) c.self.invariant c.args.host due c.call-need.result.call c.call-need.ensures.range

module _ (c : goal.After-self-2-1) where
  abbrev old : Kept
  old = kept_in c.self.inside

  abbrev call : Due old c.args.host
  call =
      owed.due_by old c.self.invariant c.args.host (owed.own_of old c.self.invariant c.args.host (owed.seat_of c.args.host c.get.result c.from.result c.get.ensures.value c.get.ensures.range c.from.ensures) c.index_mut-own.result.now c.index_mut-own.ensures.value)
      c.call-need.result c.call-need.ensures.due c.call-need.ensures.disk c.from-2.result c.from-2.ensures c.index_mut.result.now c.index_mut.ensures.value

  may : may_fail old c.args.host ≡ true
  may = subst (λ (k : Kept). may_fail k c.args.host ≡ true) (sym c.self.view_is) c.requires.may

  abbrev new : Kept
  new = owed.left_kept old c.self.invariant c.args.host call c.spoil.new.disk c.hear.new.self

  failed : (IsSo : (first last : Walk) → Type 0) → IsSo c.index_mut-own.result.now c.hear.new.self → Hears c.args.host (cut_due old c.args.host c.args.given.now) (Fault Failed) old new IsSo
  failed IsSo so =
      owed.failed old c.self.invariant c.args.host call c.spoil.new.disk c.hear.new.self c.spoil.ensures.size c.args.given.now IsSo c.spoil.ensures.disk c.spoil.ensures.leaves
      (owed.not_refused old c.self.invariant c.args.host call may) c.hear.ensures.makes so

  seen : (IsSo : (first last : Walk) → Type 0) → IsSo c.index_mut-own.result.now c.hear.new.self → Hears c.args.host (cut_due c.args.self.now c.args.host c.args.given.now) (Fault Failed) c.args.self.now new IsSo
  seen IsSo so = subst (λ (k : Kept). Hears c.args.host (cut_due k c.args.host c.args.given.now) (Fault Failed) k new IsSo) c.self.view_is (failed IsSo so)

pub invariant_of-self : goal.invariant_of-self
invariant_of-self c = owed.reached_on (old c) (new c) _ c.self.invariant (failed c (λ first last. Unit {0}) tt).leads

pub returns-clause-heard : goal.returns-clause-heard
returns-clause-heard c =
    owed.on_ok c.hear.result c.hear.ensures.told
    (λ told. seen c KeepsTask (record { keeps = c.hear.ensures.keeps; told = told; ends = c.hear.ensures.ends; there = c.hear.ensures.there; done = c.hear.ensures.fresh }))

pub returns-clause-given_up : goal.returns-clause-given_up
returns-clause-given_up c = owed.on_err c.hear.result c.hear.ensures.given_up (λ given_up. seen c GivesUp given_up)
