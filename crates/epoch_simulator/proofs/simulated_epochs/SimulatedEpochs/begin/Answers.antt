use Rattle.std.proofs.Common.{ℕ, subst, sym}
use Rattle.epoch_host.specs.declared.walk.Walk.{Walk}
use Rattle.epoch_host.specs.Walking.{MayBegin}
use Rattle.epoch_host.specs.Ending.{IsGivenUp}
use Rattle.epoch_simulator.specs.declared.begin_fault.BeginFault.TheVariants.{NoMemory}
use Rattle.epoch_simulator.specs.Doing.{Begins, HasBegun, IsIdle}
use Rattle.epoch_simulator.specs.Kept.{Kept}
use Rattle.epoch_simulator.proofs.Owed as owed
use Rattle.epoch_simulator.proofs.Owed.{Own, kept_in}
use Rattle.epoch_simulator.proofs.simulated_epochs.SimulatedEpochs.begin.Goals as goal
use Rattle.epoch_simulator.proofs.simulated_epochs.SimulatedEpochs.begin.Goals.{in-Ok, in-Err}

pub begin-requires-clause-may : goal.begin-requires-clause-may
begin-requires-clause-may c =
    let seat = owed.seat_of c.args.host c.get.result c.from.result c.get.ensures.value c.get.ensures.range c.from.ensures in
    let own = owed.own_of (kept_in c.self.inside) c.self.invariant c.args.host seat c.index_mut.result.now c.index_mut.ensures.value in
    subst (λ (h : ℕ). MayBegin h c.args.task) (sym (owed.own_number (kept_in c.self.inside) c.self.invariant c.args.host seat.inside c.index_mut.result.now own.is)) (c.may_begin.ensures.0 c.if-not-may_begin.false)

module _ (c : goal.Joined-begin) where
  abbrev old : Kept
  old = kept_in c.self.inside

  abbrev own : Own old c.args.host
  own = owed.own_of old c.self.invariant c.args.host (owed.seat_of c.args.host c.get.result c.from.result c.get.ensures.value c.get.ensures.range c.from.ensures) c.index_mut.result.now c.index_mut.ensures.value

  abbrev new : Kept
  new = owed.seated old old.disks c.from.result c.begin.new.self

  idle : IsIdle old c.args.host
  idle = subst (λ (k : Kept). IsIdle k c.args.host) (sym c.self.view_is) (c.is_idle.ensures.idle c.if-not-is_idle.false)

  begun : (IsSo : Walk → Type 0) → IsSo c.begin.new.self → Begins c.args.host c.args.task old new IsSo
  begun IsSo so = owed.begins old c.self.invariant c.args.host own c.args.task c.begin.new.self IsSo idle (c.may_begin.ensures.0 c.if-not-may_begin.false) c.begin.ensures.leads so

  seen : (IsSo : Walk → Type 0) → IsSo c.begin.new.self → Begins c.args.host c.args.task c.args.self.now new IsSo
  seen IsSo so = subst (λ (k : Kept). Begins c.args.host c.args.task k new IsSo) c.self.view_is (begun IsSo so)

pub invariant_of-self : goal.invariant_of-self
invariant_of-self c = owed.reached_on (old c) (new c) _ c.self.invariant (begun c (λ w. Unit {0}) tt).leads

pub returns-clause-begun : goal.returns-clause-begun
returns-clause-begun c =
    elim c.match-begin.branch [
      | in-Ok w ↦
          owed.ok_as c.match-begin.result
          (seen c (HasBegun c.args.task)
          (record { keeps = c.begin.ensures.keeps; told = w.in-Ok.ensures.told; ends = c.begin.ensures.ends; there = c.begin.ensures.there; done = c.begin.ensures.silent }))
      | in-Err w ↦ owed.not_ok _ c.match-begin.result NoMemory w.result-is
    ]

pub returns-clause-refused : goal.returns-clause-refused
returns-clause-refused c =
    elim c.match-begin.branch [
      | in-Ok w ↦ owed.not_err _ c.match-begin.result tt w.result-is
      | in-Err w ↦ owed.err_as _ c.match-begin.result NoMemory w.result-is (seen c IsGivenUp w.in-Err.ensures.given_up)
    ]
