-- Whatever entries led to a cluster, some lead to what events make of it.
use Rattle.std.specs.Prelude.{MatchOption, MatchBool}
use Rattle.std.proofs.Common.{ℕ, ◌+◌, ◌≡◌, inl, inr, Bool, true, false, List, [], ◌∷◌, ◌++◌, Option, Some, None, sym, subst}
use Rattle.disk.specs.Simulated.{SimState}
use Rattle.paxos_block.specs.Shape.{Shape}
use Rattle.lock_script.specs.declared.event.Event.{Event}
use Rattle.lock_script.specs.declared.event.Event.TheVariants.{Start, Stop, Submit, Recover, Look, Beat, Mark, Step, Tear, FailCall, DiskCrash, DiskGone}
use Rattle.lock_script.specs.declared.show.Show.{Show}
use Rattle.epoch_host.specs.declared.task.EpochTask.{EpochTask}
use Rattle.epoch_host.specs.declared.task.EpochTask.TheVariants as task
use Rattle.epoch_runs.specs.World.{Entry}
use Rattle.epoch_simulator.specs.Kept.{Kept, LeadsTo}
use Rattle.epoch_simulator.specs.Doing.{LeadsOn, LeadsOnBy, ChangesDisk, may_crash, may_lose}
use Rattle.epoch_player.specs.declared.happening.Said.{Said}
use Rattle.epoch_player.specs.Happening.{Happens, Undertakes, Stays, Takes, Fails, Tears, place_of}
use Rattle.epoch_player.specs.Playing.{IsPlayed}

-- some entries lead to this
abbrev pub IsLedTo : Kept → Type 0
IsLedTo k = (entries : List Entry) × LeadsTo entries k

same : (old new : Kept) → new ≡ old → IsLedTo old → IsLedTo new
same old new is led = subst IsLedTo (sym is) led

on : (AreSo : List Entry → Type 0) (old new : Kept) → LeadsOn AreSo old new → IsLedTo old → IsLedTo new
on AreSo old new leads (entries, led) = let more = leads entries led in (entries ++ more.0, more.2)

on_by : (IsSo : Entry → Type 0) (old new : Kept) → LeadsOnBy IsSo old new → IsLedTo old → IsLedTo new
on_by IsSo old new leads (entries, led) = let more = leads entries led in (entries ++ more.0 ∷ [], more.2)

begun : (h : ℕ) (given : EpochTask) (old new : Kept) (said : Option Said) → Undertakes h given old new said → IsLedTo old → IsLedTo new
begun h given old new said (inl begins) led = on _ old new begins.0.leads led
begun h given old new said (inr stays) led = same old new stays.1.0 led

taken : (h : ℕ) (old new : Kept) (said : Option Said) → Takes h old new said → IsLedTo old → IsLedTo new
taken h old new said (inl stays) led = same old new stays.1.0 led
taken h old new said (inr hears) led = on _ old new hears.1.leads led

failed : (h : ℕ) (given : List ℕ) (old new : Kept) (said : Option Said) → Fails h given old new said → IsLedTo old → IsLedTo new
failed h given old new said (inl stays) led = same old new stays.1.0 led
failed h given old new said (inr hears) led = on _ old new hears.2.leads led

torn : (h : ℕ) (given : List ℕ) (old new : Kept) (said : Option Said) → Tears h given old new said → IsLedTo old → IsLedTo new
torn h given old new said (inl stays) led = same old new stays.1.0 led
torn h given old new said (inr stops) led = on_by _ old new stops.2.leads led

marked : (h : ℕ) (place : Option ℕ) (old new : Kept) (said : Option Said) → MatchOption place (Stays old new said) (λ p. Undertakes h (task.Mark p) old new said) → IsLedTo old → IsLedTo new
marked h None old new said stays led = same old new stays.0 led
marked h (Some place) old new said begins led = begun h (task.Mark place) old new said begins led

-- a disk changes
disk_changed : (d : ℕ) (left : SimState) (by : Entry) (old new : Kept) → ChangesDisk d left by old new → IsLedTo old → IsLedTo new
disk_changed d left by old new changes led = on_by (λ (entry : Entry). entry ≡ by) old new changes.leads led

-- or nothing does
changed : (b : Bool) (Changes : Type 0) (old new : Kept) → (Changes → IsLedTo old → IsLedTo new) → MatchBool b Changes (new ≡ old) → IsLedTo old → IsLedTo new
changed true Changes old new goes is led = goes is led
changed false Changes old new goes is led = same old new is led

-- some entries lead to what an event makes of it
pub happened : (c : Shape) (event : Event) (old new : Kept) (said : Option Said) → Happens c event old new said → IsLedTo old → IsLedTo new
happened c (Start host) old new said is led = same old new is.0 led
happened c (Stop host) old new said is led = on_by _ old new is.0.leads led
happened c (Submit command tries) old new said is led = begun command.host (task.Submit command tries) old new said is led
happened c (Recover host tries) old new said is led = begun host (task.Recover tries) old new said is led
happened c (Look host) old new said is led = begun host task.Look old new said is led
happened c (Beat host) old new said is led = begun host task.Beat old new said is led
happened c (Mark host slot) old new said is led = marked host (place_of c is.0 slot) old new said is.2 led
happened c (Step host) old new said is led = taken host old new said is led
happened c (Tear host given) old new said is led = torn host given old new said is led
happened c (FailCall host given) old new said is led = failed host given old new said is led
happened c (DiskCrash disk given) old new said is led = changed (may_crash old disk) _ old new (disk_changed disk _ _ old new) is.0 led
happened c (DiskGone disk) old new said is led = changed (may_lose old disk) _ old new (disk_changed disk _ _ old new) is.0 led

-- and to what all of them do
pub played : (c : Shape) (place : ℕ) (events : List Event) (shows : List Show) (old new : Kept) (text : List ℕ) → IsPlayed c place events shows old new text → IsLedTo old → IsLedTo new
played c place [] shows old new text is led = same old new is.0 led
played c place (event ∷ events) shows old new text (due, later, is_due, (shown, are, (then, said, happens, (rest, more, whole)))) led =
    played c (place + 1) events later then new rest more (happened c event old then said happens led)
