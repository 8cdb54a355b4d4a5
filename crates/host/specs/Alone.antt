-- How many answers an attempt, a beat, a marking and a look hear, and how an attempt is answered whose host is left alone.
use Rattle.std.specs.Prelude.{◌<◌, ◌*◌, ℕ, [], ◌∷◌, ◌++◌, length, Option, Some}
use Rattle.attempt.specs.Answers.{Answered}
use Rattle.slot_log.specs.Alone.{IsAnsweredIn}
use Rattle.paxos_block.specs.Shape.{Shape}
use Rattle.host.specs.Host.{Memory, Doing, Attempts, Looks, Beats, Marks, setup_of}

-- the attempt under way, with one more answer, has heard at most seventeen a disk, and is served where the other hosts
-- rest and most disks answer well
abbrev pub IsAnsweredAlone : Shape → ℕ → Memory → Option Doing → Answered → Type 0
IsAnsweredAlone c h m (Some (Attempts t)) x = IsAnsweredIn (setup_of c h m t.operation) (t.heard ++ x ∷ [])
IsAnsweredAlone c h m other x = Unit {0}

-- the look under way has heard fewer than two answers a disk, of the slot that it is at; and a beat or a marking fewer than nine. So with
-- one more answer they have heard at most two, and nine.
abbrev pub HasHeardFew : Shape → Option Doing → Type 0
HasHeardFew c (Some (Looks t)) = length t.heard < 2 * c.disks
HasHeardFew c (Some (Beats heard)) = length heard < 9 * c.disks
HasHeardFew c (Some (Marks t)) = length t.heard < 9 * c.disks
HasHeardFew c other = Unit {0}
