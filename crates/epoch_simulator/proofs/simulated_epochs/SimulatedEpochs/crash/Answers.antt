use Rattle.std.proofs.Common.{ℕ, ◌<◌, ◌^◌, ◌≡◌, false, subst, arith}
use Rattle.disk.specs.Simulated.{SimState, crashed}
use Rattle.epoch_runs.specs.World.{Crashes}
use Rattle.epoch_simulator.specs.Doing.{ChangesDisk, disk_of}
use Rattle.epoch_simulator.specs.Kept.{Kept}
use Rattle.epoch_simulator.proofs.Owed as owed
use Rattle.epoch_simulator.proofs.Owed.{kept_in}
use Rattle.epoch_simulator.proofs.simulated_epochs.SimulatedEpochs.crash.Goals as goal

pub index_mut-requires : goal.index_mut-requires
index_mut-requires c =
    let inside = (owed.crash_at (kept_in c.self.inside) c.args.self.now c.args.disk c.from.result c.self.view_is c.from.ensures c.requires.may).lost.inside in
    omega (arith, inside, c.self.invariant.leads.shows.disk_count)

module _ (c : goal.After-self-1) where
  abbrev old : Kept
  old = kept_in c.self.inside

  abbrev new : Kept
  new = owed.with_disk_at old c.from.result c.crash.new.self

  done : ChangesDisk c.from.result (record (disk_of old c.from.result) { disk = crashed (disk_of old c.from.result).disk c.args.given.now }) (Crashes c.from.result) old new
  done =
      let may = owed.crash_at old c.args.self.now c.args.disk c.from.result c.self.view_is c.from.ensures c.requires.may in
      let same = owed.disk_there old c.self.invariant c.from.result may.lost.inside c.index_mut.result.now c.crash.new.self c.index_mut.ensures.value in
      owed.crashes old c.self.invariant c.from.result may.lost.inside c.index_mut.result.now c.crash.new.self c.index_mut.ensures.value c.args.given.now
      (subst (λ (s : SimState). s.disk.gone ≡ false) same may.lost.there) (subst (λ (s : SimState). s.disk.boot < 2 ^ 62) same may.boot) c.crash.ensures.crashes c.crash.ensures.exact c.crash.ensures.size

pub invariant_of-self : goal.invariant_of-self
invariant_of-self c = owed.reached_by (old c) (new c) (λ entry. entry ≡ Crashes c.from.result) c.self.invariant (done c).leads

pub returns : goal.returns
returns c =
    subst (λ (k : Kept). ChangesDisk c.args.disk (record (disk_of k c.args.disk) { disk = crashed (disk_of k c.args.disk).disk c.args.given.now }) (Crashes c.args.disk) k (new c)) c.self.view_is
    (subst (λ (d : ℕ). ChangesDisk d (record (disk_of (old c) d) { disk = crashed (disk_of (old c) d).disk c.args.given.now }) (Crashes d) (old c) (new c)) c.from.ensures (done c))
