-- Hosts of all epochs over the same disks: of each epoch what is done is a run of the world.
use Rattle.std.specs.Prelude.{◌≡◌, ◌+◌, ◌≤◌, ◌<◌, ◌^◌, ℕ, List, length, take, slice_get, Some}
use Rattle.disk.specs.Simulated.{fresh_disk}
use Rattle.torn_block.specs.Layout.{cluster_version}
use Rattle.torn_block.specs.declared.layout.TheConstants.{ROW_LENGTH}
use Rattle.paxos_block.specs.Places.{image_length}
use Rattle.paxos_block.specs.Shape.{Shape}
use Rattle.host.specs.Host.{Stopped}
use Rattle.world.specs.Entry.{Filled, Crashed, on_disk, of_host, host_after}
use Rattle.world.specs.World.{opening_disk}
use Rattle.at_once.specs.AtOnce.{Does, AreDeeds, IsAtOnce, IsRunOf}
use Rattle.at_once.specs.Power.{LosesPower, IsOverLosses, renumbered}
use Rattle.epochs.specs.Acts.{Act, part, epoch_of, fresh_shared, IsModelCrash, ServesAll, TakesPartLater}
use Rattle.epochs.specs.Pasts.{Deed, done_in, no_pasts, ServesPasts, IsForLater}

-- Each disk, by itself, has served what was done to it, in whatever epoch. Of each epoch there is one order of what was done in it, in which each host did by itself what it may,
-- and that is, on each disk, what was done there.
pub record IsShared (c : Shape) (size : ℕ) (acts : ℕ → List Act) (logs : ℕ → List Filled) : Type 0 where
  pub room : ROW_LENGTH + image_length cluster_version c.slots + image_length cluster_version c.slots ≤ size
  pub disks : (k : ℕ) → ServesAll IsModelCrash c k (image_length cluster_version c.slots) (fresh_shared size) (acts k)
  pub later : (k : ℕ) → TakesPartLater (acts k)
  pub hosts : (e h : ℕ) → Does c h Stopped (of_host h (logs e))
  pub deeds : (e : ℕ) → AreDeeds (logs e)
  pub parts : (e k : ℕ) → on_disk k (logs e) ≡ part (epoch_of e) (acts k)

-- So each epoch's is done at once over images of zeros,
abbrev pub EpochsAreAtOnce : Type 0
EpochsAreAtOnce = (c : Shape) (size : ℕ) (acts : ℕ → List Act) (logs : ℕ → List Filled) → IsShared c size acts logs → (e : ℕ) → IsAtOnce c (λ k. opening_disk c) (logs e)

-- and is a run, which has one log.
abbrev pub EpochsAreRuns : Type 0
EpochsAreRuns = (c : Shape) (size : ℕ) (acts : ℕ → List Act) (logs : ℕ → List Filled) → IsShared c size acts logs → (e : ℕ) → IsRunOf c (logs e)

-- where a disk lost power every host has stopped
abbrev pub AreDark : Shape → (ℕ → List Filled) → Type 0
AreDark c logs = (e i k h : ℕ) (left : List ℕ) → slice_get (logs e) i ≡ Some (Crashed k left) → host_after c h Stopped (of_host h (take i (logs e))) ≡ Stopped

-- The same over losses of power.
pub record IsSharedOverLosses (c : Shape) (size : ℕ) (acts : ℕ → List Act) (logs : ℕ → List Filled) : Type 0 where
  pub room : ROW_LENGTH + image_length cluster_version c.slots + image_length cluster_version c.slots ≤ size
  pub disks : (k : ℕ) → ServesAll LosesPower c k (image_length cluster_version c.slots) (fresh_shared size) (acts k)
  pub later : (k : ℕ) → TakesPartLater (acts k)
  pub hosts : (e h : ℕ) → Does c h Stopped (of_host h (logs e))
  pub deeds : (e : ℕ) → AreDeeds (logs e)
  pub parts : (e k : ℕ) → on_disk k (logs e) ≡ part (epoch_of e) (acts k)
  pub dark : AreDark c logs
  pub few : (e : ℕ) → length (logs e) < 2 ^ 62

-- Each epoch's is over losses of power what it would be over images of its own; so it is a run, with a crash for each.
abbrev pub EpochsAreOverLosses : Type 0
EpochsAreOverLosses =
    (c : Shape) (size : ℕ) (acts : ℕ → List Act) (logs : ℕ → List Filled) → IsSharedOverLosses c size acts logs → (e : ℕ) → IsOverLosses c (λ k. opening_disk c) (logs e) × IsRunOf c (renumbered (logs e))

-- BY PASTS

-- The same of hosts each of which goes by its past on each disk.
pub record IsSharedByPasts (c : Shape) (size : ℕ) (deeds : ℕ → List Deed) (logs : ℕ → List Filled) : Type 0 where
  pub room : ROW_LENGTH + image_length cluster_version c.slots + image_length cluster_version c.slots ≤ size
  pub disks : (k : ℕ) → ServesPasts IsModelCrash c k (image_length cluster_version c.slots) (fresh_disk size) no_pasts (deeds k)
  pub later : (k : ℕ) → IsForLater (deeds k)
  pub hosts : (e h : ℕ) → Does c h Stopped (of_host h (logs e))
  pub entries : (e : ℕ) → AreDeeds (logs e)
  pub parts : (e k : ℕ) → on_disk k (logs e) ≡ done_in k (epoch_of e) (deeds k)

-- And over losses of power.
pub record IsSharedByPastsOverLosses (c : Shape) (size : ℕ) (deeds : ℕ → List Deed) (logs : ℕ → List Filled) : Type 0 where
  pub room : ROW_LENGTH + image_length cluster_version c.slots + image_length cluster_version c.slots ≤ size
  pub disks : (k : ℕ) → ServesPasts LosesPower c k (image_length cluster_version c.slots) (fresh_disk size) no_pasts (deeds k)
  pub later : (k : ℕ) → IsForLater (deeds k)
  pub hosts : (e h : ℕ) → Does c h Stopped (of_host h (logs e))
  pub entries : (e : ℕ) → AreDeeds (logs e)
  pub parts : (e k : ℕ) → on_disk k (logs e) ≡ done_in k (epoch_of e) (deeds k)
  pub dark : AreDark c logs
  pub few : (e : ℕ) → length (logs e) < 2 ^ 62

-- So all of it is shared, by acts.
abbrev pub PastsAreShared : Type 0
PastsAreShared = (c : Shape) (size : ℕ) (deeds : ℕ → List Deed) (logs : ℕ → List Filled) → IsSharedByPasts c size deeds logs → (acts : ℕ → List Act) × IsShared c size acts logs

abbrev pub PastsAreSharedOverLosses : Type 0
PastsAreSharedOverLosses =
    (c : Shape) (size : ℕ) (deeds : ℕ → List Deed) (logs : ℕ → List Filled) → IsSharedByPastsOverLosses c size deeds logs → (acts : ℕ → List Act) × IsSharedOverLosses c size acts logs
