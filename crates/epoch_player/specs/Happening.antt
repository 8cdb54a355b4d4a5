-- What an event of a script does to hosts of all epochs and their disks, and what its host says with it.
use Rattle.std.specs.Prelude.{◌≡◌, ◌⊎◌, ◌^◌, ℕ, true, false, nat_lt, List, Option, None, MatchOption, MatchBool}
use Rattle.std.specs.Option.{option_map}
use Rattle.disk.specs.Disk.{Fault, lost}
use Rattle.disk.specs.Simulated.{crashed}
use Rattle.disk.specs.declared.fault.DiskFault.TheVariants.{Failed}
use Rattle.paxos_block.specs.Shape.{Shape}
use Rattle.lock_command.specs.Reading.{◌>>=◌, passed}
use Rattle.lock_script.specs.declared.event.Event.{Event}
use Rattle.lock_script.specs.declared.event.Event.TheVariants as script
use Rattle.epoch_host.specs.declared.task.EpochTask.{EpochTask}
use Rattle.epoch_host.specs.declared.task.EpochTask.TheVariants.{Submit, Recover, Look, Beat, Mark}
use Rattle.epoch_host.specs.Ending.{IsWhereItIs, place_in}
use Rattle.epoch_host.specs.Walking.{MayBegin}
use Rattle.epoch_runs.specs.World as entries
use Rattle.epoch_simulator.specs.Kept.{Kept}
use Rattle.epoch_simulator.specs.Doing as simulated
use Rattle.epoch_player.specs.declared.happening.Said.{Said}

-- HOSTS

-- a host is in this epoch, or in none
abbrev pub IsAt : Kept → (h : ℕ) → Option ℕ → Type 0
IsAt k h at = simulated.OfDeeds k h (λ deeds. IsWhereItIs k.shape h deeds at)

-- this is what a host said last
abbrev pub Says : Kept → (h : ℕ) → Option Said → Type 0
Says k h said = simulated.OfHost k h (λ w. said ≡ option_map (λ answer. record { host = h; answer = answer }) w.said)

-- nothing is done, and nothing said
abbrev pub Stays : (old new : Kept) → Option Said → Type 0
Stays old new said = (new ≡ old) × (said ≡ None)

-- EVENTS

-- A host stops.
abbrev pub Stops : (h : ℕ) → (old new : Kept) → Option Said → Type 0
Stops h old new said = simulated.Stops h old new × (said ≡ None)

-- A host begins a task. If it has another one under way, or may not be given this one, nothing is done.
abbrev pub Undertakes : (h : ℕ) → EpochTask → (old new : Kept) → Option Said → Type 0
Undertakes h task old new said =
    (simulated.Begins h task old new (simulated.HasBegun task) × Says new h said)
    ⊎ ((simulated.IsBusy old h ⊎ (simulated.IsIdle old h × (MayBegin h task → ⊥))) × Stays old new said)

-- the place of a slot of the epoch where a host is, if 64 bits hold it
unfoldable pub place_of : Shape → Option ℕ → (slot : ℕ) → Option ℕ
place_of c at slot = do
  e ← at
  passed (nat_lt (place_in c e slot) (2 ^ 64)) (place_in c e slot)

-- It begins to mark a slot of the epoch where it is. If it is in none, nothing is done.
abbrev pub Marks : Shape → (h slot : ℕ) → (old new : Kept) → Option Said → Type 0
Marks c h slot old new said =
    (at : Option ℕ) × IsAt old h at
    × MatchOption (place_of c at slot) (Stays old new said) (λ place. Undertakes h (Mark place) old new said)

-- A host makes the call that it has due. An idle one has none.
abbrev pub Takes : (h : ℕ) → (old new : Kept) → Option Said → Type 0
Takes h old new said =
    (simulated.IsIdle old h × Stays old new said)
    ⊎ (simulated.IsBusy old h × simulated.Hears h (simulated.outcome_due old h).0 (simulated.outcome_due old h).1 old new simulated.KeepsTask × Says new h said)

-- That call fails, and the range of a write takes these bytes. If the disk would refuse it, nothing is done.
abbrev pub Fails : (h : ℕ) → (given : List ℕ) → (old new : Kept) → Option Said → Type 0
Fails h given old new said =
    ((simulated.IsIdle old h ⊎ (simulated.IsBusy old h × (simulated.may_fail old h ≡ false))) × Stays old new said)
    ⊎ (simulated.IsBusy old h × (simulated.may_fail old h ≡ true)
    × simulated.Hears h (simulated.cut_due old h given) (Fault Failed) old new simulated.KeepsTask × Says new h said)

-- It stops within that call, a write whose range takes these bytes. If the call is none, or the disk would refuse it, nothing is done.
abbrev pub Tears : (h : ℕ) → (given : List ℕ) → (old new : Kept) → Option Said → Type 0
Tears h given old new said =
    ((simulated.IsIdle old h ⊎ (simulated.IsBusy old h × (simulated.may_tear old h ≡ false))) × Stays old new said)
    ⊎ (simulated.IsBusy old h × (simulated.may_tear old h ≡ true) × simulated.StopsWithin h given old new × (said ≡ None))

-- A disk crashes, if it may, and its unsynced positions take these bytes.
abbrev pub Crashes : (d : ℕ) → (given : List ℕ) → (old new : Kept) → Option Said → Type 0
Crashes d given old new said =
    MatchBool (simulated.may_crash old d)
    (simulated.ChangesDisk d (record (simulated.disk_of old d) { disk = crashed (simulated.disk_of old d).disk given }) (entries.Crashes d) old new)
    (new ≡ old)
    × (said ≡ None)

-- A disk that is there is lost.
abbrev pub Loses : (d : ℕ) → (old new : Kept) → Option Said → Type 0
Loses d old new said =
    MatchBool (simulated.may_lose old d)
    (simulated.ChangesDisk d (record (simulated.disk_of old d) { disk = lost (simulated.disk_of old d).disk }) (entries.Loses d) old new)
    (new ≡ old)
    × (said ≡ None)

-- An event happens, in a cluster of this shape, and this is said. All hosts are always up, so none has to start.
abbrev pub Happens : Shape → Event → (old new : Kept) → Option Said → Type 0
Happens c (script.Start host) old new said = Stays old new said
Happens c (script.Stop host) old new said = Stops host old new said
Happens c (script.Submit command tries) old new said = Undertakes command.host (Submit command tries) old new said
Happens c (script.Recover host tries) old new said = Undertakes host (Recover tries) old new said
Happens c (script.Look host) old new said = Undertakes host Look old new said
Happens c (script.Beat host) old new said = Undertakes host Beat old new said
Happens c (script.Mark host slot) old new said = Marks c host slot old new said
Happens c (script.Step host) old new said = Takes host old new said
Happens c (script.Tear host given) old new said = Tears host given old new said
Happens c (script.FailCall host given) old new said = Fails host given old new said
Happens c (script.DiskCrash disk given) old new said = Crashes disk given old new said
Happens c (script.DiskGone disk) old new said = Loses disk old new said
