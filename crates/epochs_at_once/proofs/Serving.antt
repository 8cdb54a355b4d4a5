-- A disk that makes a step of the model with each answer has served what a host's deeds called on it.
use Rattle.std.proofs.Common.{ℕ, ◌==◌, Bool, true, false, cond, List, [], ◌∷◌, ◌++◌, subst}
use Rattle.disk.specs.Disk.{DiskState, Call, Answer, Step}
use Rattle.paxos_block.specs.Shape.{Shape}
use Rattle.standings.specs.Past.{Made}
use Rattle.at_once.specs.Disks.{on_one, GaveAlone}
use Rattle.epoch_deeds.specs.Deeds.{Deed, Deeds, Calls, CallsIn, Starts, Begins, Stops}
use Rattle.epoch_images.specs.Working.{made_on, calls_of}
use Rattle.epoch_runs.specs.World.{Entry, Does}
use Rattle.epochs_at_once.specs.AtOnce.{GoesTo, Serves, on_disk}
use Rattle.epochs_at_once.specs.Disks.{GivingServes}
use Rattle.epochs_at_once.specs.Tasks.{done_by}

module _ {D : Type 0} (IsCrash : DiskState → DiskState → Type 0) (gives : D → Call → Answer → D → Type 0) (state : D → DiskState)
    (steps : (old new : D) (call : Call) (answer : Answer) → gives old call answer new → Step (state old) call answer (state new)) (c : Shape) (h k : ℕ) (after : D) (more : List Entry) (then : Serves IsCrash c k (state after) more) where
  -- what the rest makes of any disk
  abbrev RestServes : Deeds → Type 0
  RestServes deeds = (d : D) → GaveAlone gives d (on_one k (calls_of deeds)) after → Serves IsCrash c k (state d) (on_disk k (done_by h deeds) ++ more)

  -- a call on this disk, or on another
  by_call : (b : Bool) (deed : Deed) (deeds : Deeds) (disk : ℕ) (now : Made) (before : D)
      → ((new : D) → gives before now.call now.answer new → GoesTo IsCrash c k (state before) (Does h deed) (state new)) → RestServes deeds
      → GaveAlone gives before (cond b (made_on disk now ∷ on_one k (calls_of deeds)) (on_one k (calls_of deeds))) after
      → Serves IsCrash c k (state before) (cond b (Does h deed ∷ on_disk k (done_by h deeds)) (on_disk k (done_by h deeds)) ++ more)
  by_call true deed deeds disk now before goes rest gave = (state gave.0, goes gave.0 gave.1, rest gave.0 gave.2)
  by_call false deed deeds disk now before goes rest gave = rest before gave

  serves : (deeds : Deeds) → RestServes deeds
  serves [] before gave = subst (λ (d : D). Serves IsCrash c k (state d) more) gave then
  serves (Calls d now ∷ deeds) before gave = by_call (d == k) (Calls d now) deeds d now before (λ new gave_it. steps before new now.call now.answer gave_it) (serves deeds) gave
  serves (CallsIn e d now call heard ∷ deeds) before gave = by_call (d == k) (CallsIn e d now call heard) deeds d now before (λ new gave_it. steps before new now.call now.answer gave_it) (serves deeds) gave
  serves (Starts epoch ∷ deeds) before gave = serves deeds before gave
  serves (Begins epoch task ∷ deeds) before gave = serves deeds before gave
  serves (Stops epoch ∷ deeds) before gave = serves deeds before gave

pub giving_serves : {D : Type 0} (IsCrash : DiskState → DiskState → Type 0) (gives : D → Call → Answer → D → Type 0) (state : D → DiskState) → GivingServes IsCrash gives state
giving_serves IsCrash gives state steps c h k before after deeds more gave then = serves IsCrash gives state steps c h k after more then deeds before gave
