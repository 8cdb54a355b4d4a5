use Rattle.std.proofs.Common.{ℕ, ◌≡◌, false, subst, arith}
use Rattle.disk.specs.Disk.{lost}
use Rattle.disk.specs.Simulated.{SimState}
use Rattle.epoch_runs.specs.World.{Loses}
use Rattle.epoch_simulator.specs.Doing.{ChangesDisk, disk_of}
use Rattle.epoch_simulator.specs.Kept.{Kept}
use Rattle.epoch_simulator.proofs.Owed as owed
use Rattle.epoch_simulator.proofs.Owed.{kept_in}
use Rattle.epoch_simulator.proofs.simulated_epochs.SimulatedEpochs.lose.Goals as goal

pub index_mut-requires : goal.index_mut-requires
index_mut-requires c =
    let inside = (owed.lost_at (kept_in c.self.inside) c.args.self.now c.args.disk c.from.result c.self.view_is c.from.ensures c.requires).inside in
    omega (arith, inside, c.self.invariant.leads.shows.disk_count)

module _ (c : goal.After-self-1) where
  abbrev old : Kept
  old = kept_in c.self.inside

  abbrev new : Kept
  new = owed.with_disk_at old c.from.result c.lose.new.self

  done : ChangesDisk c.from.result (record (disk_of old c.from.result) { disk = lost (disk_of old c.from.result).disk }) (Loses c.from.result) old new
  done =
      let may = owed.lost_at old c.args.self.now c.args.disk c.from.result c.self.view_is c.from.ensures c.requires in
      let same = owed.disk_there old c.self.invariant c.from.result may.inside c.index_mut.result.now c.lose.new.self c.index_mut.ensures.value in
      owed.loses old c.self.invariant c.from.result may.inside c.index_mut.result.now c.lose.new.self c.index_mut.ensures.value (subst (λ (s : SimState). s.disk.gone ≡ false) same may.there) c.lose.ensures

pub invariant_of-self : goal.invariant_of-self
invariant_of-self c = owed.reached_by (old c) (new c) (λ entry. entry ≡ Loses c.from.result) c.self.invariant (done c).leads

pub returns : goal.returns
returns c =
    subst (λ (k : Kept). ChangesDisk c.args.disk (record (disk_of k c.args.disk) { disk = lost (disk_of k c.args.disk).disk }) (Loses c.args.disk) k (new c)) c.self.view_is
    (subst (λ (d : ℕ). ChangesDisk d (record (disk_of (old c) d) { disk = lost (disk_of (old c) d).disk }) (Loses d) (old c) (new c)) c.from.ensures (done c))
