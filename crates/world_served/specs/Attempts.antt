-- What an attempt comes to that hears each of its answers while its host is left alone.
use Rattle.std.specs.Prelude.{◌<◌, ◌≤◌, ℕ, suc, List, length}
use Rattle.attempt.specs.Answers.{Answered, on}
use Rattle.attempt.specs.Laws.{IsServed}
use Rattle.attempt.specs.Setup.{Setup}
use Rattle.attempt.specs.Status.{status}
use Rattle.paxos_block.specs.Shape.{Shape}
use Rattle.world.specs.Entry.{Filled}
use Rattle.world.specs.Chosen.{Hears}
use Rattle.world_served.specs.Alone.{IsAlone, MostAnswerEach}
use Rattle.world_served.specs.Served.{calls_between}

-- An attempt of a submission or of a recovery has heard its last answer so far at entry k. Its host made at least as many calls behind entry i, and was
-- alone since: so all its answers are of that time. Where most disks answered each call of it, it goes on with fewer than seventeen calls a disk,
-- or has ended Committed, Decided, Empty or BallotsSpent.
abbrev pub ServesAttempts : Shape → List Filled → Type 0
ServesAttempts c log =
    (i k : ℕ) (s : Setup) (heard : List Answered) (hears : Hears c log k s heard) → IsAlone c log i (suc k) hears.host → i < k
    → length heard ≤ calls_between log i (suc k) hears.host → MostAnswerEach s (on heard) → IsServed s heard (status s (on heard))
