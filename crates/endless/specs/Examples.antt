-- Two epochs over one disk: two commands fill the first one, and what carries its table over begins the second.
use Rattle.std.specs.Prelude.{false, List, [], ◌∷◌, ◌++◌, map, replicate, None}
use Rattle.lock_command.specs.declared.mode.Mode.TheVariants.{Exclusive}
use Rattle.lock_command.specs.declared.command.Command.{Command}
use Rattle.lock_command.specs.declared.command.Action.TheVariants.{Enqueue, Release, CarryClient}
use Rattle.lock_command.specs.declared.reply.Answer.TheVariants.{Released}
use Rattle.host.specs.declared.task.Task.TheVariants.{Submit}
use Rattle.world.specs.Entry.{Filled}
use Rattle.world.specs.Happens.{Event, Start, Begin, Step, run}
use Rattle.world.specs.Examples.{one_disk, takes_db}
use Rattle.endless.specs.Lived.{Lived, In}

-- client 1 releases the lock that it has taken, and takes it again
abbrev pub releases_db : Command
releases_db = record { host = 0; client = 1; request = 2; action = Release 1 None }

abbrev pub takes_db_again : Command
takes_db_again = record { host = 0; client = 1; request = 3; action = Enqueue 1 (100 ∷ 98 ∷ []) Exclusive false }

-- what carries the table over that the first two leave: the client, its last request, and the reply
abbrev pub carries_client : Command
carries_client = record { host = 0; client = 1; request = 2; action = CarryClient (record { answer = Released; value = None }) }

-- host 0 starts, and submits two commands, each with one try and seventeen calls
abbrev pub submitting_both : Command → Command → List Event
submitting_both one two = Start 0 ∷ Begin 0 (Submit one 1) ∷ (replicate 17 (Step 0) ++ Begin 0 (Submit two 1) ∷ replicate 17 (Step 0))

unfoldable pub first_epoch : List Filled
first_epoch = run one_disk (submitting_both takes_db releases_db)

unfoldable pub second_epoch : List Filled
second_epoch = run one_disk (submitting_both carries_client takes_db_again)

-- the one epoch and then the other
abbrev pub two_epochs : List Lived
two_epochs = map (In 0) first_epoch ++ map (In 1) second_epoch
