-- What a task has printed that ended well.
use Rattle.std.specs.Prelude.{◌+◌, ℕ, List, Option, None}
use Rattle.std.specs.Io.KnownBytes.{Appends}
use Rattle.dlm_words.specs.Asked.{MayBeAsked}
use Rattle.dlm_words.specs.declared.words.Subcommand.{Subcommand}
use Rattle.dlm_words.specs.declared.words.Subcommand.TheVariants.{Run, Sweep, Format, Submit, Table, Mark, Check, Migrate, MakeEndless, Replace, Fill, Renew, Race}
use Rattle.dlm_tasks.specs.Checking.{EndsIn, IsFound}
use Rattle.dlm_tasks.specs.Folders.{WritesAck, WritesLog, WritesMarked}
use Rattle.dlm_tasks.specs.InPlace.{WritesMaking, WritesReplacing}
use Rattle.dlm_tasks.specs.AnyRun.{WritesRun}
use Rattle.dlm_tasks.specs.AnySweep.{WritesSweep}
use Rattle.dlm_tasks.specs.Printed.{WritesFilling, WritesMove, WritesRenewal, formatted_text, sound_text}
use Rattle.dlm_tasks.specs.declared.images.TheConstants.{TRIES}
use Rattle.dlm.specs.RaceText.{WritesRace}

-- Of a check that ends well it is said that nothing was found, and how the text ends.
abbrev pub HasPrinted : Subcommand → Option (List ℕ) → Option (List ℕ) → Type 0
HasPrinted (Run script) before after = (bytes : List ℕ) × WritesRun bytes before after
HasPrinted (Sweep script) before after = (bytes : List ℕ) × WritesSweep bytes before after
HasPrinted (Format folder kind config cluster) before after = Appends before after (formatted_text kind config)
HasPrinted (Submit folder command) before after = WritesAck TRIES command before after
HasPrinted (Table folder host) before after = WritesLog TRIES host before after
HasPrinted (Mark folder host) before after = WritesMarked TRIES host before after
HasPrinted (Check folder) before after = IsFound None × EndsIn sound_text after
HasPrinted (Migrate old new slots) before after = WritesMove slots before after
HasPrinted (MakeEndless folder) before after = WritesMaking before after
HasPrinted (Replace folder disk) before after = WritesReplacing disk before after
HasPrinted (Fill folder host) before after = WritesFilling host before after
HasPrinted (Renew old host new config cluster leave) before after = WritesRenewal host config cluster leave.items before after
HasPrinted (Race last) before after = WritesRace (last + 1) before after

-- Some task that may be asked for was done, and its own text was written.
pub record HasDoneATask (before after : Option (List ℕ)) : Type 0 where
  pub task : Subcommand
  pub may : MayBeAsked task
  pub printed : HasPrinted task before after
