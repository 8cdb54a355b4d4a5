-- What a line of words has had done that ended well.
use Rattle.std.specs.Prelude.{◌≢◌, ℕ, Bool, true, false, List, Option, None}
use Rattle.std.specs.Io.KnownBytes.{Appends}
use Rattle.endless_image.specs.Kinds.{kind_by}
use Rattle.paxos_block.specs.Shape.{Shape}
use Rattle.lock_command.specs.declared.command.Command.{Command}
use Rattle.dlm_tasks.specs.AnyRun.{WritesRun}
use Rattle.dlm_tasks.specs.AnySweep.{WritesSweep}
use Rattle.dlm_tasks.specs.Checking.{EndsIn, IsFound}
use Rattle.dlm_tasks.specs.Folders.{MakesImages, WritesAck, WritesLog, WritesMarked}
use Rattle.dlm_tasks.specs.InPlace as in_text
use Rattle.dlm_tasks.specs.Printed.{formatted_text, sound_text}
use Rattle.dlm_tasks.specs.declared.images.TheConstants.{TRIES}
use Rattle.mg_words.specs.Asking.{Asks}
use Rattle.mg_words.specs.Results.{created}
use Rattle.mg_words.specs.Wrong.{IsWrong}
use Rattle.mg_words.specs.declared.fault.WordFault.{WordFault}
use Rattle.mg_words.specs.declared.fault.WordFault.TheVariants.{NoMemory}
use Rattle.mg_words.specs.declared.request.Request.{Request}
use Rattle.mg_words.specs.declared.request.Request.TheVariants.{Create, Submit, Table, Mark, Check, Migrate, Replace, Run, Sweep}
use Rattle.mg.specs.Json as json
use Rattle.mg.specs.Json.{WritesChecked, WritesSubmitted, WritesTabled, line_of}

-- so many disks, and slots as they are asked for
abbrev pub shape_by : (disks : ℕ) → (slots : Option ℕ) → Shape
shape_by disks slots = record { disks = disks; slots = (kind_by slots).1 }

-- WITH --json OR WITHOUT

abbrev pub created_text : (json : Bool) → (folder : List ℕ) → (cluster disks : ℕ) → (slots : Option ℕ) → List ℕ
created_text false folder cluster disks slots = formatted_text (kind_by slots).0 (shape_by disks slots)
created_text true folder cluster disks slots = line_of (created folder cluster disks slots)

-- The images were made, and that was written.
abbrev pub Creates : (json : Bool) → (folder : List ℕ) → (cluster disks : ℕ) → (slots : Option ℕ) → (before after : Option (List ℕ)) → Type 0
Creates json folder cluster disks slots before after =
    MakesImages (kind_by slots).0 (shape_by disks slots) cluster × Appends before after (created_text json folder cluster disks slots)

abbrev pub Submits : (json : Bool) → (folder : List ℕ) → Command → (before after : Option (List ℕ)) → Type 0
Submits false folder command before after = WritesAck TRIES command before after
Submits true folder command before after = WritesSubmitted folder command before after

abbrev pub Tables : (json : Bool) → (folder : List ℕ) → (host : ℕ) → (before after : Option (List ℕ)) → Type 0
Tables false folder host before after = WritesLog TRIES host before after
Tables true folder host before after = WritesTabled folder host before after

abbrev pub Marks : (json : Bool) → (folder : List ℕ) → (host : ℕ) → (before after : Option (List ℕ)) → Type 0
Marks false folder host before after = WritesMarked TRIES host before after
Marks true folder host before after = json.WritesMarked folder host before after

-- Without --json it is said how the text ends.
abbrev pub WritesSound : (json : Bool) → (folder : List ℕ) → (before after : Option (List ℕ)) → Type 0
WritesSound false folder before after = EndsIn sound_text after
WritesSound true folder before after = WritesChecked folder true before after

abbrev pub Migrates : (json : Bool) → (folder : List ℕ) → (before after : Option (List ℕ)) → Type 0
Migrates false folder before after = in_text.WritesMaking before after
Migrates true folder before after = json.WritesMaking folder before after

abbrev pub Replaces : (json : Bool) → (folder : List ℕ) → (disk : ℕ) → (before after : Option (List ℕ)) → Type 0
Replaces false folder disk before after = in_text.WritesReplacing disk before after
Replaces true folder disk before after = json.WritesReplacing folder disk before after

-- THE TASKS

abbrev pub HasDone : Request → (before after : Option (List ℕ)) → Type 0
HasDone (Create folder cluster disks slots json) before after = Creates json folder.now cluster disks slots before after
HasDone (Submit folder command json) before after = Submits json folder.now command before after
HasDone (Table folder host json) before after = Tables json folder.now host before after
HasDone (Mark folder host json) before after = Marks json folder.now host before after
HasDone (Check folder json) before after = IsFound None × WritesSound json folder.now before after
HasDone (Migrate folder json) before after = Migrates json folder.now before after
HasDone (Replace folder disk json) before after = Replaces json folder.now disk before after
HasDone (Run script) before after = (bytes : List ℕ) × WritesRun bytes before after
HasDone (Sweep script) before after = (bytes : List ℕ) × WritesSweep bytes before after

-- THE PROGRAM

-- The words ask for this, and it was done.
pub record DoesAsAsked (words : List (List ℕ)) (before after : Option (List ℕ)) : Type 0 where
  pub request : Request
  pub asked : Asks words request
  pub done : HasDone request before after

-- They ask for nothing, for this reason.
pub record AskForNothing (words : List (List ℕ)) : Type 0 where
  pub fault : WordFault
  pub wrong : IsWrong words fault
  pub own : fault ≢ NoMemory
