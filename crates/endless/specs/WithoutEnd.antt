-- What hosts of all epochs do over shared disks is one log without an end.
use Rattle.std.specs.Prelude.{◌≡◌, ◌==◌, ◌<◌, ◌≤◌, ℕ, suc, List, [], ◌∷◌, ◌++◌, length, map, take, slice_get, Some, if◌then◌else◌}
use Rattle.lock_command.specs.declared.command.Command.{Command}
use Rattle.lock_table.specs.Apply.{table_after}
use Rattle.lock_table.specs.Carrying.{carried_over}
use Rattle.lock_table.specs.Picture.{Shown, IsPictureOf}
use Rattle.paxos_block.specs.Shape.{Shape}
use Rattle.host.specs.Host.{Submitting, Attempt, Attempts, Memory, Host, Stopped, Running, learned_of}
use Rattle.world.specs.Entry.{Filled, Crashed, of_host, host_after}
use Rattle.world.specs.World.{IsRun}
use Rattle.world.specs.Chosen.{at}
use Rattle.at_once.specs.AtOnce.{bare}
use Rattle.at_once.specs.Power.{entry_later, losses_with}
use Rattle.epochs.specs.Acts.{Act}
use Rattle.epochs.specs.OneLog.{IsShared, IsSharedOverLosses}
use Rattle.endless.specs.Epochs.{IsCallAt, carried_by, HasGoneOn}
use Rattle.endless.specs.Headline.{learned_in, KeepsToEpochs, HasOneLogWithoutEnd}
use Rattle.endless.specs.Lived.{Lived, In, Crash, Loss, part, now}

-- what a host is by place i of what is done in an epoch, by its own deeds
abbrev pub host_by : Shape → List Filled → ℕ → ℕ → Host
host_by c log i h = host_after c h Stopped (of_host h (take i log))

-- and what it has learned of the epoch by then
abbrev pub learned_by : Shape → List Filled → ℕ → ℕ → List Command
learned_by c log i h = learned_of (host_by c log i h)

-- Hosts share disks. Up to this epoch each but the last was learned whole, by some host at some place; and in the next one nobody submits anything in its first slots but
-- what carries that table over.
pub record IsWithoutEnd (c : Shape) (size : ℕ) (acts : ℕ → List Act) (logs : ℕ → List Filled) (last : ℕ) (shown : ℕ → Shown) : Type 0 where
  pub shared : IsShared c size acts logs
  pub place : ℕ → ℕ
  pub host : ℕ → ℕ
  pub full : (e : ℕ) → e < last → length (learned_by c (logs e) (place e) (host e)) ≡ c.slots
  pub pictured : (e : ℕ) → e < last → IsPictureOf (shown e) (table_after (learned_by c (logs e) (place e) (host e)))
  pub fits : (e : ℕ) → e < last → length (carried_over (shown e)) ≤ c.slots
  pub carries : (e : ℕ) → e < last → (i h : ℕ) (memory : Memory) (doing : Attempt) (command wanted : Command) → IsCallAt (logs (suc e)) i h → host_by c (logs (suc e)) i h ≡ Running memory → memory.doing ≡ Some (Attempts doing) → doing.operation ≡ Submitting command →
      slice_get (carried_over (shown e)) (length memory.learned) ≡ Some wanted → command ≡ wanted

-- Then what was submitted in all epochs is one log: whatever a host has learned of an epoch, once it has learned what carries the table over, shows what all that was submitted in
-- earlier epochs and then in this one leaves, and its replies are those after all of that.
abbrev pub OneLogWithoutEnd : Type 0
OneLogWithoutEnd =
    (c : Shape) (size : ℕ) (acts : ℕ → List Act) (logs : ℕ → List Filled) (last : ℕ) (shown : ℕ → Shown) → (is : IsWithoutEnd c size acts logs last shown) →
    (later : ℕ → List Command)
    × ((e : ℕ) → e < last → learned_by c (logs e) (is.place e) (is.host e) ≡ carried_by shown e ++ later e)
    × ((e i h : ℕ) → e ≤ last → length (carried_by shown e) ≤ length (learned_by c (logs e) i h) → HasGoneOn later shown e (learned_by c (logs e) i h))

-- With some bytes in the place of those that faults left, what is done in each epoch is a run of the world, at each place of which each host is what its own deeds before that
-- make of it; and all of it has one log.
pub record IsRunWithoutEnd (c : Shape) (lived : List Lived) : Type 0 where
  pub run : List Lived
  pub same : (e : ℕ) → map bare (part e run) ≡ map bare (part e lived)
  pub places : (e i : ℕ) → now e i run ≡ now e i lived
  pub is : (e : ℕ) → IsRun c (part e run)
  pub hosts : (e i h : ℕ) → (at c (part e run) i).host h ≡ host_by c (part e lived) i h
  pub one : HasOneLogWithoutEnd c run

-- So it is over shared disks, where hosts keep to the epochs. What they keep to is said of their own deeds.
abbrev pub SharedHaveOneLog : Type 0
SharedHaveOneLog =
    (c : Shape) (size : ℕ) (acts : ℕ → List Act) (lived : List Lived) → IsShared c size acts (λ e. part e lived) → KeepsToEpochs c lived → IsRunWithoutEnd c lived

-- LOSSES OF POWER

-- the same deeds, with the boot numbers that disks tell in each epoch whose losses of power before are these
abbrev pub raised_from : (ℕ → ℕ → ℕ) → List Lived → List Lived
raised_from losses [] = []
raised_from losses (In epoch entry ∷ lived) = In epoch (entry_later (losses epoch) entry) ∷ raised_from (λ e. if epoch == e then losses_with (losses e) entry else losses e) lived
raised_from losses (Crash disk left ∷ lived) = Crash disk left ∷ raised_from (λ e. losses_with (losses e) (Crashed disk (left e))) lived
raised_from losses (Loss disk ∷ lived) = Loss disk ∷ raised_from losses lived

-- with those of disks that tell a higher one after each loss of power
abbrev pub raised : List Lived → List Lived
raised lived = raised_from (λ e k. 0) lived

-- With the boot numbers raised it is a run without end, in which hosts have learned what they have learned.
pub record IsOverLossesWithoutEnd (c : Shape) (lived : List Lived) : Type 0 where
  pub run : IsRunWithoutEnd c (raised lived)
  pub places : (e i : ℕ) → now e i (raised lived) ≡ now e i lived
  pub learned : (i e h : ℕ) → learned_in c (raised lived) i e h ≡ learned_in c lived i e h

-- So it is over losses of power, each of which stops all hosts.
abbrev pub SharedOverLossesHaveOneLog : Type 0
SharedOverLossesHaveOneLog =
    (c : Shape) (size : ℕ) (acts : ℕ → List Act) (lived : List Lived) → IsSharedOverLosses c size acts (λ e. part e lived) → KeepsToEpochs c lived → IsOverLossesWithoutEnd c lived
