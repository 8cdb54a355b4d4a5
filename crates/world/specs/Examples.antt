-- Two short runs over one disk: the first submission, and a recovery of an empty log.
use Rattle.std.specs.Prelude.{ℕ, false, List, [], ◌∷◌, replicate}
use Rattle.lock_command.specs.declared.mode.Mode.TheVariants.{Exclusive}
use Rattle.lock_command.specs.declared.command.Command.{Command}
use Rattle.lock_command.specs.declared.command.Action.TheVariants.{Enqueue}
use Rattle.paxos_block.specs.Shape.{Shape}
use Rattle.host.specs.declared.answer.HostAnswer.{HostAnswer}
use Rattle.world.specs.Entry.{Filled}
use Rattle.host.specs.declared.task.Task.TheVariants.{Submit, Recover}
use Rattle.world.specs.Happens.{Event, Start, Begin, Step, Line, run}

-- one disk, and room for two commands
abbrev pub one_disk : Shape
one_disk = record { disks = 1; slots = 2 }

-- through host 0 client 1 asks for lock 1 on db, exclusively
abbrev pub takes_db : Command
takes_db = record { host = 0; client = 1; request = 1; action = Enqueue 1 (100 ∷ 98 ∷ []) Exclusive false }

-- host 0 starts, submits that with one try, and makes seventeen calls
abbrev pub submitting : List Event
submitting = Start 0 ∷ Begin 0 (Submit takes_db 1) ∷ replicate 17 (Step 0)

unfoldable pub submission : List Filled
submission = run one_disk submitting

-- host 0 starts, recovers the log with one try, and makes ten calls
abbrev pub recovering : List Event
recovering = Start 0 ∷ Begin 0 (Recover 1) ∷ replicate 10 (Step 0)

unfoldable pub recovery : List Filled
recovery = run one_disk recovering

-- a line of host 0
abbrev pub told_at : ℕ → HostAnswer → Line
told_at place said = record { place = place; host = 0; said = said }
