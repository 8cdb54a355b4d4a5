-- Hosts over the same images, and losses of power: each stops all hosts, and an image tells the same boot number after it. And the same
-- list with the boot numbers that the disks of the model tell.
use Rattle.std.specs.Prelude.{if◌then◌else◌, ◌≡◌, ◌+◌, ◌<◌, ◌^◌, ◌==◌, ℕ, zero, suc, false, List, [], ◌∷◌, length, replicate, take, slice_get, Some}
use Rattle.disk.specs.Disk.{DiskState, Call, Attach, Read, Write, Sync, Answer, Booted, KeepsSynced}
use Rattle.lock_command.specs.declared.command.Command.{Command}
use Rattle.paxos_block.specs.Shape.{Shape}
use Rattle.host.specs.Host.{Stopped}
use Rattle.world.specs.Entry.{Filled, Called, Torn, Crashed, Migrated, on_disk, of_host, host_after}
use Rattle.world.specs.World.{world}
use Rattle.at_once.specs.AtOnce.{Does, Goes, AreDeeds, IsAtOnce, IsAtOnceAfter, IsRunOf}
use Rattle.at_once.specs.Images.{used}
use Rattle.at_once.specs.Joined.{IsJoined}

-- LOSSES OF POWER

-- What was synced stays, other positions take any bytes, and the boot number that is told is 1 as before.
pub record LosesPower (old new : DiskState) : Type 0 where
  pub bytes : KeepsSynced old.unsynced old.bytes new.bytes
  pub unsynced : new.unsynced ≡ replicate (length old.bytes) false
  pub before : old.boot ≡ 1
  pub after : new.boot ≡ 1
  pub gone : new.gone ≡ old.gone

-- disk k may go from old to new by this, where a crash is what a loss of power does to it
abbrev pub GoesOn : Shape → ℕ → DiskState → Filled → DiskState → Type 0
GoesOn c k old (Crashed d left) new = (k < c.disks) × (old.gone ≡ false) × LosesPower old new
GoesOn c k old other new = Goes c k old other new

-- one after the other, with some disk behind each
abbrev pub ServesOn : Shape → ℕ → DiskState → List Filled → Type 0
ServesOn c k old [] = Unit {0}
ServesOn c k old (e ∷ es) = (new : DiskState) × GoesOn c k old e new × ServesOn c k new es

-- In this order, each host did by itself what it may, and each image by itself served what was done to it. At first the used part of each image was
-- what such a beginning leaves. Where an image lost power every host has stopped.
pub record IsOverLossesFrom (c : Shape) (begun : List Filled) (images : ℕ → DiskState) (log : List Filled) : Type 0 where
  pub hosts : (h : ℕ) → Does c h Stopped (of_host h log)
  pub deeds : AreDeeds log
  pub held : (k : ℕ) → used c.slots (images k) ≡ (world c begun).disk k
  pub disks : (k : ℕ) → ServesOn c k (images k) (on_disk k log)
  pub dark : (i k h : ℕ) (left : List ℕ) → slice_get log i ≡ Some (Crashed k left) → host_after c h Stopped (of_host h (take i log)) ≡ Stopped
  pub few : length log < 2 ^ 62

-- At first no image held a block,
abbrev pub IsOverLosses : Shape → (ℕ → DiskState) → List Filled → Type 0
IsOverLosses c images log = IsOverLossesFrom c [] images log

-- or all held what a migration of this log left.
abbrev pub IsOverLossesAfter : Shape → List Command → (ℕ → DiskState) → List Filled → Type 0
IsOverLossesAfter c commands images log = IsOverLossesFrom c (Migrated c.disks commands ∷ []) images log

-- BOOT NUMBERS

-- a boot number, raised by the losses of power before; 0 is no disk's
abbrev pub later : ℕ → ℕ → ℕ
later losses zero = zero
later losses (suc boot) = suc (boot + losses)

-- the call under the number that is raised so
abbrev pub call_later : ℕ → Call → Call
call_later losses Attach = Attach
call_later losses (Read boot at len) = Read (later losses boot) at len
call_later losses (Write boot at from) = Write (later losses boot) at from
call_later losses (Sync boot) = Sync (later losses boot)

-- the answer that tells it
abbrev pub answer_later : ℕ → Answer → Answer
answer_later losses (Booted boot) = Booted (later losses boot)
answer_later losses other = other

-- the entry, by the losses of power of each disk before it
abbrev pub entry_later : (ℕ → ℕ) → Filled → Filled
entry_later losses (Called h k call answer left) = Called h k (call_later (losses k) call) (answer_later (losses k) answer) left
entry_later losses (Torn h k call left) = Torn h k (call_later (losses k) call) left
entry_later losses other = other

-- these losses, with that of this entry
abbrev pub losses_with : (ℕ → ℕ) → Filled → ℕ → ℕ
losses_with losses (Crashed d left) k = if d == k then suc (losses k) else losses k
losses_with losses other k = losses k

abbrev pub renumbered_from : (ℕ → ℕ) → List Filled → List Filled
renumbered_from losses [] = []
renumbered_from losses (e ∷ es) = entry_later losses e ∷ renumbered_from (losses_with losses e) es

-- the list with the boot numbers of disks that tell a higher one after each loss of power
abbrev pub renumbered : List Filled → List Filled
renumbered log = renumbered_from (λ k. 0) log

-- ONE LOG

-- Under those numbers all of it is done at once, where each loss of power is a crash, so that it is a run of the world;
abbrev pub LossesAreCrashes : Type 0
LossesAreCrashes = (c : Shape) (images : ℕ → DiskState) (log : List Filled) → IsOverLosses c images log → IsAtOnce c images (renumbered log)

-- and by that run's one log all goes that hosts keep, under the numbers that they were told.
abbrev pub LossesAreJoined : Type 0
LossesAreJoined =
    (c : Shape) (images : ℕ → DiskState) (log : List Filled) → IsOverLosses c images log → (of : IsRunOf c (renumbered log)) → IsJoined c log of.one.commands

-- So it is over images that a migration left: with a crash for each loss of power all of it is done at once, and is a run behind the migration;
abbrev pub LossesAfterMigrationAreCrashes : Type 0
LossesAfterMigrationAreCrashes =
    (c : Shape) (commands : List Command) (images : ℕ → DiskState) (log : List Filled) → IsOverLossesAfter c commands images log → IsAtOnceAfter c commands images (renumbered log)

-- and by the one log of that run all goes that hosts keep.
abbrev pub LossesAfterMigrationAreJoined : Type 0
LossesAfterMigrationAreJoined =
    (c : Shape) (commands : List Command) (images : ℕ → DiskState) (log : List Filled) → IsOverLossesAfter c commands images log →
    (of : IsRunOf c (Migrated c.disks commands ∷ renumbered log)) → IsJoined c (Migrated c.disks commands ∷ log) of.one.commands
