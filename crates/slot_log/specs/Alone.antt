-- How an attempt is answered whose host is left alone, in each layout.
use Rattle.std.specs.Prelude.{◌*◌, ◌≤◌, ℕ, List, [], ◌∷◌, ◌++◌, length, Option, Some, None}
use Rattle.attempt.specs.Answers.{Answered}
use Rattle.attempt.specs.Laws.{IsServedAlone}
use Rattle.attempt.specs.Setup.{Setup}
use Rattle.torn_block.specs.Layout.{Version}
use Rattle.paxos_block.specs.Shape.{Shape}
use Rattle.slot_log.specs.Learning.{Memory, Doing, setup_of}

-- an attempt has heard at most seventeen answers a disk, and is served where the other hosts rest and most disks answer well
pub record IsAnsweredIn (s : Setup) (heard : List Answered) : Type 0 where
  pub bound : length heard ≤ 17 * s.disks
  pub served : IsServedAlone s heard

-- so has the attempt under way, with one more answer
abbrev pub IsAnsweredAlone : Version → Shape → ℕ → Memory → Option Doing → Answered → Type 0
IsAnsweredAlone v c h m None x = Unit {0}
IsAnsweredAlone v c h m (Some t) x = IsAnsweredIn (setup_of v c h m t.operation) (t.heard ++ x ∷ [])
