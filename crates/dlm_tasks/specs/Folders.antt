-- What tasks over a folder come to, whichever kind of log it has.
use Rattle.std.specs.Prelude.{◌⊎◌, ℕ, List, Option}
use Rattle.lock_command.specs.declared.command.Command.{Command}
use Rattle.paxos_block.specs.Shape.{Shape}
use Rattle.endless_image.specs.declared.kind.Kind.{Kind}
use Rattle.log_folders.specs.Finishing.{WereFinished}
use Rattle.log_folders.specs.Formatting.{WereLaidOut}
use Rattle.log_folders.specs.NewSets.{Wanted}
use Rattle.dlm_tasks.specs.Endless.{WritesEndlessAcknowledgement, WritesEndlessMarks, WritesEndlessTable}
use Rattle.dlm_tasks.specs.Printed.{WritesAcknowledgement, WritesMarks, WritesTable}

-- the images that a format is to make
abbrev pub wanted : Kind → Shape → (cluster : ℕ) → Wanted
wanted kind config cluster = record { kind = kind; config = config; cluster = cluster }

-- They were laid out together. Or a format of them that was ended once each image was whole was finished.
abbrev pub MakesImages : Kind → Shape → (cluster : ℕ) → Type 0
MakesImages kind config cluster = WereLaidOut (wanted kind config cluster) ⊎ WereFinished (wanted kind config cluster)

-- The command was submitted, and its place and the lock table's reply were written.
abbrev pub WritesAck : (tries : ℕ) → Command → (before after : Option (List ℕ)) → Type 0
WritesAck tries command before after = WritesAcknowledgement tries command before after ⊎ WritesEndlessAcknowledgement tries command before after

-- The log was recovered, and how long it is and the lock table after it were written.
abbrev pub WritesLog : (tries number : ℕ) → (before after : Option (List ℕ)) → Type 0
WritesLog tries number before after = WritesTable tries number before after ⊎ WritesEndlessTable tries number before after

-- The log was recovered, and slots that no mark had told were marked.
abbrev pub WritesMarked : (tries number : ℕ) → (before after : Option (List ℕ)) → Type 0
WritesMarked tries number before after = WritesMarks tries number before after ⊎ WritesEndlessMarks tries number before after
