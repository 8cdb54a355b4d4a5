-- Whether what was answered goes by a list of commands.
use Rattle.std.specs.Prelude.{◌≡◌, ◌≤◌, ℕ, List, length, take, All, slice_get, Option, Some, None}
use Rattle.lock_command.specs.declared.command.Command.{Command}
use Rattle.lock_command.specs.declared.reply.Reply.{Reply}
use Rattle.lock_table.specs.Apply.{table_after}
use Rattle.lock_table.specs.Picture.{IsPictureOf, Shown}
use Rattle.host.specs.declared.answer.HostAnswer.{HostAnswer}
use Rattle.host.specs.declared.answer.HostAnswer.TheVariants.{Ack, Recovered, Looked, Beaten, Marked, Refused}
use Rattle.host.specs.Host.{reply_after}
use Rattle.simulator.specs.declared.answer.Answer.{Answer}

-- a command stands at the slot, and the lock table replies so to it after those before
pub record RepliesAfter (log : List Command) (slot : ℕ) (reply : Reply) : Type 0 where
  pub command : Command
  pub stands : slice_get log slot ≡ Some command
  pub replied : reply ≡ reply_after (take slot log) command

-- there are so many commands, and this is a picture of the lock table after these
pub record ShowsAfter (log : List Command) (n : ℕ) (picture : Shown) : Type 0 where
  pub within : n ≤ length log
  pub table : IsPictureOf picture (table_after (take n log))

abbrev pub is_shown_after : List Command → ℕ → Option Shown → Type 0
is_shown_after log n None = ⊥
is_shown_after log n (Some picture) = ShowsAfter log n picture

abbrev pub goes_by : List Command → Option Shown → HostAnswer → Type 0
goes_by log picture (Ack slot reply) = RepliesAfter log slot reply
goes_by log picture (Recovered n) = is_shown_after log n picture
goes_by log picture (Looked n) = is_shown_after log n picture
goes_by log picture (Beaten host) = Unit {0}
goes_by log picture (Marked count) = Unit {0}
goes_by log picture (Refused refusal) = Unit {0}

-- what an answer says goes by the commands
abbrev pub GoesByCommands : List Command → Answer → Type 0
GoesByCommands log a = goes_by log a.picture a.said

-- and so does all of a report
abbrev pub AllGoBy : List Command → List Answer → Type 0
AllGoBy log report = All (GoesByCommands log) report
