-- What follows when a window hears the answer to the device call that was due for a call of the core.
use Rattle.std.specs.Prelude.{◌≡◌, ◌≢◌, ◌+◌, ℕ, Bool, true, false, List, [], ◌∷◌, ◌++◌, Option, Some, None, IsSome, IsNone}
use Rattle.disk.specs.Disk.{Call, Attach, Read, Write, Sync, Answer, Booted, Told, Done}
use Rattle.torn_block.specs.Layout.{cluster_version}
use Rattle.torn_block.specs.declared.layout.TheConstants.{ROW_LENGTH}
use Rattle.attempt.specs.Answers.{heard_in}
use Rattle.attempt.specs.Heard.{Fits}
use Rattle.standings.specs.declared.epoch.Epoch.{Epoch}
use Rattle.standings.specs.Epochs.{base_of}
use Rattle.standings.specs.Past.{Past, made, IsAnswered, IsShown, MayCallIn}
use Rattle.window.specs.declared.outcome.Outcome.{Outcome}
use Rattle.window.specs.declared.outcome.Outcome.TheVariants as outcome
use Rattle.window.specs.declared.sight.Sight.{Sight}
use Rattle.window.specs.declared.step.Reading.{Reading}
use Rattle.window.specs.declared.step.Step.TheVariants.{Second}
use Rattle.window.specs.declared.window.Window.{Window}
use Rattle.window.specs.Knows.{Pasts, AddsCall, AddsCalls}
use Rattle.window.specs.Sights.{IsKnownUnder, IsUnder, IsSyncedUnder, IsSureUnder, Keeps}
use Rattle.window.specs.Calls.{Follows, due_for, left_for, length_of, sight_of, step_of}
use Rattle.window.specs.Outcomes.{answer_by, IsAfterReading, NoticesAt}

-- WHAT A SIGHT TELLS

-- What is seen of a disk behind an answered call of the core. A disk is never sure for a host that only looks.
abbrev pub SeesOn : (only_looks : Bool) → Call → Answer → Option Outcome → (old new : Option Sight) → Type 0
SeesOn only_looks Attach (Booted boot) told old new = IsUnder boot new × (IsKnownUnder boot old → IsKnownUnder boot new)
SeesOn only_looks (Sync boot) Done told old new = Keeps old new × (IsUnder boot old → IsSyncedUnder boot new)
SeesOn only_looks (Read boot at len) answer (Some outcome.Row) old new =
    Keeps old new × (only_looks ≡ false → IsSyncedUnder boot old → IsSureUnder boot new) × (IsUnder boot old → IsKnownUnder boot new)
SeesOn only_looks wanted answer told old new = Keeps old new

-- A write of the core is made only where the host's number is surely the epoch's.
abbrev pub IsReady : Call → Option Sight → Type 0
IsReady (Write boot at from) sight = IsSureUnder boot sight
IsReady wanted sight = Unit {0}

-- so all that the core may call on its image is allowed
abbrev pub MayWant : Window → (disk : ℕ) → Call → Type 0
MayWant w disk wanted = (pasts : Pasts) → Follows w pasts → IsReady wanted (sight_of w disk) → MayCallIn (length_of w) w.standpoint.epoch w.standpoint.host (pasts disk) wanted

-- WHAT CHANGES

-- It follows the pasts with this call.
abbrev pub FollowsOn : (old new : Window) (disk : ℕ) → Call → Answer → Type 0
FollowsOn old new disk wanted answer =
    (before after : Pasts) → Follows old before → AddsCall before after disk (made (due_for old disk wanted) answer) → Follows new after

-- The core's call is answered by what was done for it.
abbrev pub AnswersBy : (old new : Window) (disk : ℕ) → Call → Answer → Option Outcome → Type 0
AnswersBy old new disk wanted answer None = Unit {0}
AnswersBy old new disk wanted answer (Some told) =
    (before after : Pasts) → Follows old before → AddsCall before after disk (made (due_for old disk wanted) answer)
    → IsAnswered (length_of old) old.standpoint.epoch old.standpoint.host (after disk) wanted (answer_by new.row told answer)

-- by an answer that it may get
abbrev pub FitsAs : Window → Call → Answer → Option Outcome → Type 0
FitsAs new wanted answer None = Unit {0}
FitsAs new wanted answer (Some told) = Fits wanted (heard_in cluster_version (answer_by new.row told answer))

-- Where another call is due, one fewer is left.
abbrev pub HasOneFewer : (old new : Window) (disk : ℕ) → Call → Option Outcome → Type 0
HasOneFewer old new disk wanted None = left_for new disk wanted + 1 ≡ left_for old disk wanted
HasOneFewer old new disk wanted (Some told) = Unit {0}

-- What the core is to hear has its cause. Only what was read by a read is not told as it is.
abbrev pub HasCause : Window → (disk : ℕ) → Call → Answer → Option Outcome → Type 0
HasCause w disk (Read boot at len) (Told bytes) told = IsAfterReading w.standpoint (step_of w disk boot at) bytes told
HasCause w disk wanted answer told = told ≡ Some outcome.AsHeard

-- what was seen of its disk goes on, and what was seen of others stays
pub record SightsGoOn (old new : Window) (disk : ℕ) (wanted : Call) (answer : Answer) (told : Option Outcome) : Type 0 where
  pub here : SeesOn old.standpoint.only_looks wanted answer told (sight_of old disk) (sight_of new disk)
  pub others : (other : ℕ) → other ≢ disk → sight_of new other ≡ sight_of old other

-- Somebody who has left the epoch is noticed, and not forgotten.
abbrev pub IsNoticed : (old new : Window) (disk : ℕ) → Call → Answer → Type 0
IsNoticed old new disk (Read boot at len) (Told bytes) = NoticesAt old.standpoint.epoch (step_of old disk boot at) bytes new.has_passed
IsNoticed old new disk wanted answer = Unit {0}

pub record Notices (old new : Window) (disk : ℕ) (wanted : Call) (answer : Answer) : Type 0 where
  pub now : IsNoticed old new disk wanted answer
  pub before : old.has_passed ≡ true → new.has_passed ≡ true

-- WHAT IS UNDER WAY

-- This read of the core has begun on this disk, and is not over.
pub record IsUnderWay (w : Window) (disk : ℕ) (wanted : Call) : Type 0 where
  pub reading : Reading
  pub is : w.reading ≡ Some reading
  pub here : reading.disk ≡ disk
  pub own : wanted ≡ Read reading.boot.number reading.at ROW_LENGTH

-- Once the core is to hear something, no read is.
abbrev pub RestsAfter : Window → Option Outcome → Type 0
RestsAfter new told = IsSome told → new.reading ≡ None

-- Till then its own one is.
abbrev pub GoesOnWith : Window → (disk : ℕ) → Call → Option Outcome → Type 0
GoesOnWith new disk wanted told = IsNone told → IsUnderWay new disk wanted

-- A row is shown by the two calls that were made on the disk last: it was read, and right behind it the standings.
pub record ShowsLast (n : ℕ) (e : Epoch) (host boot at : ℕ) (before after : Past) (answer : Answer) : Type 0 where
  pub shown : IsShown n e host boot at after answer
  pub at_once : shown.between ≡ []
  pub early : Past
  pub last : before ≡ early ++ made (Read boot (base_of n e.area + at) ROW_LENGTH) (Told shown.row) ∷ []

-- of a read for which the standings alone were left to be read
pub record ShowsRow (old new : Window) (disk boot at : ℕ) (wanted : Call) (answer : Answer) : Type 0 where
  pub was : IsUnderWay old disk wanted
  pub first : List ℕ
  pub is_last : Bool
  pub at_second : was.reading.step ≡ Second first is_last
  pub shows : (before after : Pasts) → Follows old before → AddsCall before after disk (made (due_for old disk wanted) answer)
      → ShowsLast (length_of old) old.standpoint.epoch old.standpoint.host boot at (before disk) (after disk) (Told new.row)

abbrev pub ShowsAtOnce : (old new : Window) (disk : ℕ) → Call → Answer → Option Outcome → Type 0
ShowsAtOnce old new disk (Read boot at len) answer (Some outcome.Row) = ShowsRow old new disk boot at (Read boot at len) answer
ShowsAtOnce old new disk wanted answer told = Unit {0}

-- all of it
pub record Hears (old new : Window) (disk : ℕ) (wanted : Call) (answer : Answer) (told : Option Outcome) : Type 0 where
  pub same : new.standpoint ≡ old.standpoint
  pub follows : FollowsOn old new disk wanted answer
  pub answered : AnswersBy old new disk wanted answer told
  pub fits : FitsAs new wanted answer told
  pub fewer : HasOneFewer old new disk wanted told
  pub cause : HasCause old disk wanted answer told
  pub sights : SightsGoOn old new disk wanted answer told
  pub notices : Notices old new disk wanted answer
  pub rests : RestsAfter new told
  pub last : GoesOnWith new disk wanted told
  pub at_once : ShowsAtOnce old new disk wanted answer told

-- Other calls were made on a disk, and what was seen of it is forgotten.
abbrev pub ForgetsOn : (old new : Window) (disk : ℕ) → Type 0
ForgetsOn old new disk = (before after : Pasts) → Follows old before → AddsCalls before after disk → Follows new after
