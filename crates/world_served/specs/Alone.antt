-- When a host is left alone by the others, and answered by most disks.
use Rattle.std.specs.Prelude.{◌≡◌, ◌⊎◌, ◌&&◌, ◌<◌, ℕ, true, false, List, slice_get, Some}
use Rattle.disk.specs.Disk.{Call, Answer}
use Rattle.attempt.specs.Answers.{Answered, Answers, on, all_good}
use Rattle.attempt.specs.Calls.{Phase}
use Rattle.attempt.specs.Laws.{OnMost}
use Rattle.attempt.specs.Setup.{Setup}
use Rattle.attempt.specs.Standing.{IsIn}
use Rattle.attempt.specs.Visits.{is_stuck, is_past, visited}
use Rattle.paxos_block.specs.Shape.{Shape}
use Rattle.host.specs.Host.{Attempt, Attempts, Memory, Running}
use Rattle.world.specs.Entry.{Filled, Called, Torn, is_of}
use Rattle.world.specs.Chosen.{at, Hears, IsCallOf}

-- before entry k the host tries no slot, so that a call that it makes there is one of a beat, of a marking or of a look
abbrev pub TriesNone : Shape → List Filled → (k host : ℕ) → Type 0
TriesNone c log k host = (m : Memory) (t : Attempt) → (at c log k).host host ≡ Running m → m.doing ≡ Some (Attempts t) → ⊥

-- Behind entry i and before entry j no other host makes a call of an attempt, and none is stopped within a write of one; this host makes calls alone.
-- Others may start, stop, begin tasks, look, mark and beat meanwhile, and disks may crash and be lost.
pub record IsAlone (c : Shape) (log : List Filled) (i j host : ℕ) : Type 0 where
  pub calls : (k g d : ℕ) (call : Call) (answer : Answer) (left : List ℕ) → i < k → k < j → slice_get log k ≡ Some (Called g d call answer left) → (g ≡ host) ⊎ TriesNone c log k g
  pub tears : (k g d : ℕ) (call : Call) (left : List ℕ) → i < k → k < j → slice_get log k ≡ Some (Torn g d call left) → TriesNone c log k g
  pub goes_on : (k : ℕ) (e : Filled) → i < k → k < j → slice_get log k ≡ Some e → is_of host e ≡ true → IsCallOf host e

-- The disk gave no fault and no damaged row; and in no phase that the attempt came to was a write due there to a spent block.
pub record AnswersEach (s : Setup) (f : Answers) (d : ℕ) : Type 0 where
  pub good : all_good (f d) ≡ true
  pub unspent : (p : Phase) → IsIn s p f → (is_stuck s p (f d) && is_past (visited s p f) d) ≡ false

-- so it is on more than half of the disks
abbrev pub MostAnswerEach : Setup → Answers → Type 0
MostAnswerEach s f = OnMost s (AnswersEach s f)

-- and in each attempt of the host meanwhile, as far as it has come
abbrev pub IsAnsweredWell : Shape → List Filled → (i j host : ℕ) → Type 0
IsAnsweredWell c log i j host = (k : ℕ) (s : Setup) (heard : List Answered) (hears : Hears c log k s heard) → i < k → k < j → hears.host ≡ host → MostAnswerEach s (on heard)
