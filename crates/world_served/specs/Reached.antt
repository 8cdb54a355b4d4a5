-- Two submissions that are left alone and take as many calls as they may: one where no slot is open, and one where one slot is.
use Rattle.std.specs.Prelude.{◌==◌, ◌++◌, ℕ, zero, suc, Bool, false, List, [], ◌∷◌}
use Rattle.lock_command.specs.declared.mode.Mode.TheVariants.{Exclusive}
use Rattle.lock_command.specs.declared.command.Command.{Command}
use Rattle.lock_command.specs.declared.command.Action.TheVariants.{Enqueue}
use Rattle.paxos_block.specs.Shape.{Shape}
use Rattle.host.specs.declared.task.Task.TheVariants.{Submit}
use Rattle.world.specs.Entry.{Filled}
use Rattle.world.specs.Happens.{Event, Start, Stop, Begin, Step, run}

-- one disk, and room for four commands
abbrev pub one_disk : Shape
one_disk = record { disks = 1; slots = 4 }

-- through host 0 client 1 asks for lock 1 on db, exclusively
abbrev pub first_command : Command
first_command = record { host = 0; client = 1; request = 1; action = Enqueue 1 (100 ∷ 98 ∷ []) Exclusive false }

-- so many device calls of host 0
unfoldable pub steps : ℕ → List Event
steps zero = []
steps (suc n) = Step 0 ∷ steps n

-- host 0 starts, submits the command with one try, and makes seventeen calls
unfoldable pub first_submission : List Filled
first_submission = run one_disk (Start 0 ∷ Begin 0 (Submit first_command 1) ∷ steps 17)

-- no slot is open
abbrev pub none_open : ℕ → Bool
none_open slot = false

-- through the same host client 2 asks for lock 2 on db, exclusively
abbrev pub second_command : Command
second_command = record { host = 0; client = 2; request = 1; action = Enqueue 2 (100 ∷ 98 ∷ []) Exclusive false }

-- Behind that submission host 0 stops, and so forgets; it starts again, submits the second command with one try, and makes thirty-four calls.
unfoldable pub second_submission : List Filled
second_submission = run one_disk ((Start 0 ∷ Begin 0 (Submit first_command 1) ∷ steps 17) ++ Stop 0 ∷ Start 0 ∷ Begin 0 (Submit second_command 1) ∷ steps 34)

-- slot 0 is open: the first command was proposed there
abbrev pub first_open : ℕ → Bool
first_open slot = slot == 0
