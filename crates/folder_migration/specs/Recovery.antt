-- A recovery of a log of the first layout, as host 0, step by step, and what stands for the values that it learns.
use Rattle.std.specs.Prelude.{◌≡◌, ◌≤◌, ℕ, Bool, true, false, List, [], ◌∷◌, ◌++◌, length, slice_get, Option, Some, None, if◌then◌else◌}
use Rattle.torn_block.specs.Layout.{Version1}
use Rattle.disk.specs.Disk.{Device, Call, Answer}
use Rattle.attempt.specs.Answers.{Heard, Answered, heard_in}
use Rattle.attempt.specs.Heard.{Fits}
use Rattle.paxos_block.specs.Places.{image_length}
use Rattle.attempt.specs.declared.heard.Heard as code_heard
use Rattle.attempt.specs.DeviceCalls.{heard_of}
use Rattle.paxos_block.specs.Shape.{Shape}
use Rattle.slot_log.specs.Alone.{IsAnsweredAlone}
use Rattle.slot_log.specs.Kept.{Kept, LeadsTo}
use Rattle.slot_log.specs.Learning.{Memory, fresh, goes_on, hears, takes, next_in, offered_in}
use Rattle.slot_log.specs.declared.operation.Operation.TheVariants.{Recovering}
use Rattle.slot_log.specs.declared.outcome.LogOutcome.{LogOutcome}
use Rattle.slot_log.specs.declared.outcome.LogOutcome.TheVariants.{Placed, Recovered, Refused as Ended}
use Rattle.lock_command.specs.Command.{spelling}
use Rattle.lock_command.specs.Old.{IsOld, IsOldSpelling, upgraded}
use Rattle.lock_command.specs.declared.old.OldCommand.{OldCommand}
use Rattle.dlm_images.specs.Operations.{Made, GaveOne}
use Rattle.folder_migration.specs.declared.fault.MoveFault.{MoveFault}
use Rattle.folder_migration.specs.declared.fault.MoveFault.TheVariants.{NoMemory, Folder, TooFewSlots, Lock, Refused, MigrationFailed}
use Rattle.folder_migration.specs.declared.old_log.TheConstants.{TRIES}

-- each disk has room for an image of so many slots
abbrev pub AreLarge : {D : Type 0} → (D → Device) → ℕ → List D → Type 0
AreLarge {D} device slots disks = (k : ℕ) (d : D) → slice_get disks k ≡ Some d → image_length Version1 slots ≤ (device d).size

-- COMMANDS

-- the bytes spell a command of the first layout
pub record IsOldCommand (value : List ℕ) : Type 0 where
  pub command : OldCommand
  pub is_old : IsOld command
  pub spelled : IsOldSpelling command value

-- they do exactly if it is said so
abbrev pub Judges : List ℕ → Bool → Type 0
Judges value true = IsOldCommand value
Judges value false = IsOldCommand value → ⊥

-- the bytes of what stands for an old command today
pub record StandsFor (old new : List ℕ) : Type 0 where
  pub is : IsOldCommand old
  pub same : new ≡ spelling (upgraded is.command)

-- of each value of a log, in their order
abbrev pub StandFor : List (List ℕ) → List (List ℕ) → Type 0
StandFor [] [] = Unit {0}
StandFor [] (new ∷ news) = ⊥
StandFor (old ∷ olds) [] = ⊥
StandFor (old ∷ olds) (new ∷ news) = StandsFor old new × StandFor olds news

-- STEPS

-- an answer of the code as host 0 takes it
abbrev pub old_heard : code_heard.Heard (List ℕ) → Heard
old_heard = heard_of Version1

abbrev pub answered : Made → Answered
answered x = record { disk = x.disk; heard = heard_in Version1 x.answer }

-- it is the call that is due, and the answer is of its kind
pub record IsDue (c : Shape) (m : Memory) (x : Made) : Type 0 where
  pub next : next_in Version1 c 0 m m.doing ≡ Some (x.disk, x.call)
  pub fits : Fits x.call (heard_in Version1 x.answer)

abbrev pub after_call : Shape → Memory → Made → Memory
after_call c m x = hears Version1 c 0 m m.doing (answered x)

-- this value waits, and it is said whether it is a command
pub record IsJudged (c : Shape) (m : Memory) (is_command : Bool) : Type 0 where
  pub value : List ℕ
  pub waits : offered_in Version1 c 0 m m.doing ≡ Some value
  pub judges : Judges value is_command

abbrev pub after_judging : Shape → Memory → Bool → Memory
after_judging c m is_command = takes Version1 c 0 m m.doing is_command

-- From one memory and disks host 0 came to others: it made each call that was due, its disk gave the answer, and it heard that; and it
-- judged each value that it found.
pub data Comes {D : Type 0} (gives : D → Call → Answer → D → Type 0) (c : Shape) (from : Memory) (old : List D) : Memory → List D → Type 0 where
  none : Comes gives c from old from old
  call : (m : Memory) → (now : List D) → Comes gives c from old m now → (x : Made) → IsDue c m x → (new : List D) → GaveOne gives now x new → Comes gives c from old (after_call c m x) new
  judge : (m : Memory) → (now : List D) → Comes gives c from old m now → (is_command : Bool) → IsJudged c m is_command → Comes gives c from old (after_judging c m is_command) now

-- A whole recovery, of a host that knew nothing: it learned these values, and ended so.
pub record HasRecovered {D : Type 0} (gives : D → Call → Answer → D → Type 0) (c : Shape) (old new : List D) (learned : List (List ℕ)) (said : LogOutcome) : Type 0 where
  pub memory : Memory
  pub comes : Comes gives c (goes_on c fresh Recovering TRIES) old memory new
  pub ended : memory.doing ≡ None
  pub learned_is : memory.learned ≡ learned
  pub said_is : memory.said ≡ Some said

-- The log was recovered, and these values stand for those that were learned.
pub record RecoversTo {D : Type 0} (gives : D → Call → Answer → D → Type 0) (c : Shape) (old new : List D) (log : List (List ℕ)) : Type 0 where
  pub learned : List (List ℕ)
  pub recovers : HasRecovered gives c old new learned (Recovered (length learned))
  pub stand : StandFor learned log

-- how a recovery may end: with the number of values that are learned, or refused
abbrev pub MayEnd : List (List ℕ) → LogOutcome → Type 0
MayEnd learned (Recovered count) = count ≡ length learned
MayEnd learned (Ended refusal) = Unit {0}
MayEnd learned (Placed slot) = ⊥

-- It has ended, as it may, and these values stand for those that were learned.
pub record HasEnded {D : Type 0} (gives : D → Call → Answer → D → Type 0) (c : Shape) (old new : List D) (learned log : List (List ℕ)) (said : Option LogOutcome) : Type 0 where
  pub outcome : LogOutcome
  pub is : said ≡ Some outcome
  pub recovers : HasRecovered gives c old new learned outcome
  pub may : MayEnd learned outcome
  pub stand : StandFor learned log

-- ONE STEP OF THE CODE

-- From old to new the learner made a call that was due and heard its disk's answer.
pub record MakesOne {D : Type 0} (gives : D → Call → Answer → D → Type 0) (old : Kept) (disks : List D) (new : Kept) (now : List D) : Type 0 where
  pub made : Made
  pub gave : GaveOne gives disks made now
  pub due : (c : Shape) (m : Memory) → LeadsTo Version1 c 0 m old → IsDue c m made
  pub leads : (c : Shape) (m : Memory) → LeadsTo Version1 c 0 m old → LeadsTo Version1 c 0 (after_call c m made) new
  pub alone : (c : Shape) (m : Memory) → LeadsTo Version1 c 0 m old → IsAnsweredAlone Version1 c 0 m m.doing (answered made)

-- It judged the value that it found, and what stands for that was added to a log if it is a command.
pub record JudgesOne (value : List ℕ) (old new : Kept) (log more : List (List ℕ)) : Type 0 where
  pub is_command : Bool
  pub judges : Judges value is_command
  pub leads : (c : Shape) (m : Memory) → LeadsTo Version1 c 0 m old → LeadsTo Version1 c 0 (after_judging c m is_command) new
  pub learned : new.learned ≡ old.learned ++ (if is_command then value ∷ [] else [])
  pub stand : StandFor old.learned log → StandFor new.learned more

-- no memory, or the recovery ended with this refusal
abbrev pub IsRefused : {D : Type 0} → (D → Call → Answer → D → Type 0) → Shape → (old new : List D) → MoveFault → Type 0
IsRefused gives c old new NoMemory = Unit {0}
IsRefused gives c old new (Refused refusal) = (learned : List (List ℕ)) × HasRecovered gives c old new learned (Ended refusal)
IsRefused gives c old new (Folder fault) = ⊥
IsRefused gives c old new TooFewSlots = ⊥
IsRefused gives c old new (Lock fault) = ⊥
IsRefused gives c old new MigrationFailed = ⊥
