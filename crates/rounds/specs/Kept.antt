-- What a round keeps, how each answer changes it, and when that is what follows from the answers.
use Rattle.std.specs.Prelude.{◌≡◌, ◌<◌, ◌≤◌, ◌+◌, ◌*◌, ◌==◌, ℕ, Bool, true, false, cond, nat_le, List, [], ◌∷◌, replicate, Option, Some, None, if◌then◌else◌}
use Rattle.disk.specs.Disk as device
use Rattle.torn_block.specs.Layout.{cluster_version}
use Rattle.torn_block.specs.declared.layout.TheConstants.{DISKS, COPY_LENGTH, ROW_LENGTH, LAST_SEQUENCE}
use Rattle.torn_block.specs.declared.block.Block128.{Block128}
use Rattle.torn_block.specs.declared.write_steps.WriteCall.{WriteCall}
use Rattle.torn_block.specs.Block.{next_number}
use Rattle.torn_block.specs.Plan.{IsReading, told_number, plan_by, next_after}
use Rattle.paxos_block.specs.Row.{number_or_zero}
use Rattle.attempt.specs.Heard.{Heard, Booted, Done, Told, Answers}
use Rattle.attempt.specs.Numbers.{count}
use Rattle.attempt.specs.declared.heard.Heard as code_heard
use Rattle.attempt.specs.declared.heard.Heard.TheVariants as answer
use Rattle.attempt.specs.WriteCalls.{made, write_due}
use Rattle.rounds.specs.Status.{Duty, Status, Due, Ended, is_left, is_held, waits, are_enough, visited}
use Rattle.rounds.specs.declared.end.End as code_end
use Rattle.rounds.specs.declared.end.End.TheVariants as end
use Rattle.rounds.specs.declared.round.Round.{Round}
use Rattle.rounds.specs.declared.round.Stage.{Stage}
use Rattle.rounds.specs.declared.round.Stage.TheVariants as stage

-- THE CALL THAT IS DUE

abbrev pub call_at : Stage → (reads place : ℕ) → Round → device.Call
call_at stage.Attaching reads place n = device.Attach
call_at stage.Syncing reads place n = device.Sync n.boot.number
call_at stage.Reading reads place n = device.Read n.boot.number reads ROW_LENGTH
call_at stage.Writing reads place n = write_due place n.boot.number n.steps n.steps.due

-- on the disk that is visited
abbrev pub call_due : (reads place : ℕ) → Round → ℕ × device.Call
call_due reads place n = (n.disk, call_at n.stage reads place n)

-- HOW IT CHANGES

-- before the first answer
abbrev pub at_start : ℕ → Round → Round
at_start disks n = record n { disks = disks; disk = 0; lost = 0; held = 0; stage = stage.Attaching; end = None }

-- the disk that was visited is done with; so many up to it were dropped, and on so many the own block is as it is to be
abbrev pub goes_on : Round → (lost held : ℕ) → Round
goes_on n lost held =
    if nat_le n.disks (2 * lost) then record n { end = Some end.NoMajority }
    else if n.disk + 1 == n.disks then record n { end = Some (end.Over held) }
    else record n { disk = n.disk + 1; lost = lost; held = held; stage = stage.Attaching }

abbrev pub drops : Round → Round
drops n = goes_on n (n.lost + 1) n.held

abbrev pub passes : Round → Bool → Round
passes n held = goes_on n n.lost (n.held + cond held 1 0)

-- a write begins, if there is a sequence number left
abbrev pub begins : Round → Block128 → (body : List ℕ) → Round
begins n block body =
    if nat_le (next_number (told_number block)) LAST_SEQUENCE then record n { steps = plan_by cluster_version block body; stage = stage.Writing } else drops n

-- a call of the write succeeded, and this one comes next
abbrev pub writes_on : Round → Option WriteCall → Round
writes_on n None = goes_on (record n { steps = record n.steps { due = None } }) n.lost (n.held + 1)
writes_on n (Some call) = record n { steps = record n.steps { due = Some call } }

abbrev pub succeeds : Stage → Round → Round
succeeds stage.Writing n = writes_on n (next_after n.steps.due)
succeeds other n = record n { stage = stage.Reading }

-- by its answer
abbrev pub hears : Round → code_heard.Heard (List ℕ) → Round
hears n (answer.Booted boot) = record n { boot = boot; stage = stage.Syncing }
hears n answer.Done = succeeds n.stage n
hears n (answer.Told bytes) = n
hears n (answer.Fault fault) = drops n

-- WHAT IS KEPT AT ANY TIME

pub record IsSound (n : Round) : Type 0 where
  pub visits_one : n.disk < n.disks
  pub few : n.disks ≤ DISKS
  pub lost : n.lost ≤ n.disk
  pub held : n.held ≤ n.disk
  pub size : n.steps.size ≡ COPY_LENGTH

-- WHAT FOLLOWS FROM THE ANSWERS

-- this was read, by which the own block is to be written, and a writer goes by these
pub record IsToWrite {A : Type 0} (w : Duty A) (said : A) (block : Block128) (body : List ℕ) : Type 0 where
  pub due : w.is_due (Some said) ≡ true
  pub read : IsReading cluster_version (w.block (Some said)) block
  pub sequence : number_or_zero (told_number block) ≡ w.sequence (Some said)
  pub writes : body ≡ w.body (Some said)

-- a write is under way
pub record IsWriting {A : Type 0} (w : Duty A) (n : Round) (a : List (Heard A)) : Type 0 where
  pub said : A
  pub block : Block128
  pub call : WriteCall
  pub heard : a ≡ Booted n.boot.number ∷ Done ∷ Told (Some said) ∷ replicate (made (Some call)) Done
  pub begun : IsToWrite w said block (w.body (Some said))
  pub unspent : nat_le LAST_SEQUENCE (w.sequence (Some said)) ≡ false
  pub plan : n.steps ≡ record (plan_by cluster_version block (w.body (Some said))) { due = Some call }

-- what the disk that is visited has answered
abbrev pub IsAt : {A : Type 0} → Duty A → Stage → Round → List (Heard A) → Type 0
IsAt w stage.Attaching n a = a ≡ []
IsAt w stage.Syncing n a = a ≡ Booted n.boot.number ∷ []
IsAt w stage.Reading n a = a ≡ Booted n.boot.number ∷ Done ∷ []
IsAt w stage.Writing n a = IsWriting w n a

-- the disks below a number are done with; so many of them were dropped, and on so many the own block is as it is to be
pub record IsPassed {A : Type 0} (w : Duty A) (f : Answers A) (from lost held : ℕ) : Type 0 where
  pub past : (e : ℕ) → e < from → waits w (f e) ≡ false
  pub dropped : count from (λ e. is_left w (f e)) + lost ≡ from
  pub holds : count from (λ e. is_held w (f e)) ≡ held

-- a call is due on the disk that is visited, and those behind it have answered nothing
pub record IsVisiting {A : Type 0} (w : Duty A) (f : Answers A) (n : Round) : Type 0 where
  pub passed : IsPassed w f n.disk n.lost n.held
  pub ahead : (e : ℕ) → n.disk < e → f e ≡ []
  pub enough : 2 * n.lost < w.disks
  pub here : IsAt w n.stage n (f n.disk)

-- all disks that are left were visited, and on so many of them the own block is as it is to be
pub record IsOver {A : Type 0} (w : Duty A) (f : Answers A) (held : ℕ) : Type 0 where
  pub enough : are_enough w f ≡ true
  pub done : visited w f ≡ None
  pub count : count w.disks (λ e. is_held w (f e)) ≡ held

abbrev pub Stands : {A : Type 0} → Duty A → Answers A → Round → Option code_end.End → Type 0
Stands w f n None = IsVisiting w f n
Stands w f n (Some (end.Over held)) = IsOver w f held
Stands w f n (Some end.NoMajority) = are_enough w f ≡ false

-- what is kept follows from these answers
pub record Follows {A : Type 0} (w : Duty A) (f : Answers A) (n : Round) : Type 0 where
  pub as_many : n.disks ≡ w.disks
  pub stands : Stands w f n n.end

-- the end, if it has come
abbrev pub end_of_status : {E : Type 0} → Status E → Option E
end_of_status (Due d) = None
end_of_status (Ended end) = Some end

-- the same as its user tells it
abbrev pub end_by : {E : Type 0} → (over : ℕ → E) → (too_few : E) → code_end.End → E
end_by over too_few (end.Over held) = over held
end_by over too_few end.NoMajority = too_few
