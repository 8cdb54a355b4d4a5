-- What tasks over a folder whose log has no end print.
use Rattle.std.specs.Prelude.{ℕ, List, [], Option, Some}
use Rattle.std.specs.Io.KnownBytes.{Appends}
use Rattle.disk.specs.FileStates.{FileState, FileGives}
use Rattle.paxos_block.specs.Shape.{Shape}
use Rattle.lock_command.specs.declared.command.Command.{Command}
use Rattle.lock_command.specs.declared.reply.Reply.{Reply}
use Rattle.lock_table.specs.Picture.{Shown}
use Rattle.host.specs.declared.answer.HostAnswer.TheVariants.{Ack}
use Rattle.epoch_deeds.specs.Deeds.{Deeds}
use Rattle.epoch_host.specs.Ending.{IsTableOf}
use Rattle.epoch_host.specs.Leading.{LeadsTo}
use Rattle.epoch_host.specs.declared.answer.EpochAnswer.{EpochAnswer}
use Rattle.epoch_host.specs.declared.answer.EpochAnswer.TheVariants as epochs
use Rattle.epoch_host.specs.declared.answer.EpochAnswer.TheVariants.{Recovered}
use Rattle.epoch_host.specs.declared.task.EpochTask.TheVariants.{Look, Mark, Recover}
use Rattle.epoch_images.specs.Marking.{RecoversAndMarks}
use Rattle.epoch_images.specs.Tries.{HasTried}
use Rattle.epoch_images.specs.Working.{HasWorked, Standing}
use Rattle.dlm_tasks.specs.Printed.{answer_line, marked_text, table_text}

-- A host of this number over all epochs of some disks, which had done nothing yet, has looked. How the look ended is the last.
pub record HasBegun (number : ℕ) (looked : Standing FileState) : Type 0 where
  pub shape : Shape
  pub old : Standing FileState
  pub started : LeadsTo shape number [] old.host
  pub seen : Option EpochAnswer
  pub looks : HasWorked FileGives Look seen old looked

-- The command was submitted through a host over some disks, after a look. Its place in the log and the lock table's reply there were written. Then the place was
-- marked, however that ended.
pub record WritesEndlessAcknowledgement (tries : ℕ) (command : Command) (before after : Option (List ℕ)) : Type 0 where
  pub looked : Standing FileState
  pub new : Standing FileState
  pub place : ℕ
  pub reply : Reply
  pub begun : HasBegun command.host looked
  pub tried : HasTried FileGives command tries (Some (epochs.Ack place reply)) looked new
  pub written : Appends before after (answer_line (Ack place reply))
  pub marked : Standing FileState
  pub said : Option EpochAnswer
  pub marks : HasWorked FileGives (Mark place) said new marked

-- The log was recovered by a host over some disks, which looked first. How long it is was written, and the queues of the table that the host then has: by whatever it did, that of what its core learned.
pub record WritesEndlessTable (tries number : ℕ) (before after : Option (List ℕ)) : Type 0 where
  pub looked : Standing FileState
  pub new : Standing FileState
  pub upto : ℕ
  pub shown : Shown
  pub begun : HasBegun number looked
  pub recovers : HasWorked FileGives (Recover tries) (Some (Recovered upto)) looked new
  pub table : (c : Shape) (h : ℕ) (deeds : Deeds) → LeadsTo c h deeds new.host → (below : ℕ) × IsTableOf c h deeds below shown
  pub written : Appends before after (table_text upto shown)

-- The log was recovered by a host over some disks, which looked first, and what it learned so of the newest epoch was marked. How long the log is, and how many slots were marked,
-- was written.
pub record WritesEndlessMarks (tries number : ℕ) (before after : Option (List ℕ)) : Type 0 where
  pub looked : Standing FileState
  pub new : Standing FileState
  pub known : ℕ
  pub upto : ℕ
  pub marked : ℕ
  pub begun : HasBegun number looked
  pub marks : RecoversAndMarks FileGives tries known upto marked looked new
  pub written : Appends before after (marked_text upto marked)
