-- What is printed for programs: one object in a line.
use Rattle.std.specs.Prelude.{ℕ, Bool, List, [], ◌∷◌, ◌++◌, Option, Some}
use Rattle.std.specs.Io.KnownBytes.{Appends}
use Rattle.json.specs.Print.{print}
use Rattle.json.specs.Token.{Token}
use Rattle.lock_command.specs.declared.command.Command.{Command}
use Rattle.in_place.specs.InPlaceFolders.{CameTo}
use Rattle.in_place.specs.Replacing.{WasReplaced}
use Rattle.in_place.specs.declared.in_place.MadeEndless.{MadeEndless}
use Rattle.in_place.specs.declared.in_place.MadeEndless.TheVariants.{Made, Already}
use Rattle.dlm_tasks.specs.Folders as in_text
use Rattle.dlm_tasks.specs.Folders.{WritesAck, WritesLog}
use Rattle.dlm_tasks.specs.declared.images.TheConstants.{TRIES}
use Rattle.mg_words.specs.Results.{already_endless, checked, made_endless, marked, replaced, submitted, tabled}
use Rattle.mg_words.specs.Told.{TellsAck, TellsMarks, TellsTable}

abbrev pub line_of : List Token → List ℕ
line_of object = print object ++ 10 ∷ []

-- what making a log endless came to
abbrev pub making : (folder : List ℕ) → MadeEndless → List Token
making folder (Made disks slots) = made_endless folder disks slots
making folder (Already disks) = already_endless folder disks

-- OVER THE LOG

-- What people are told is taken apart, and was written so.
pub record PrintsSubmitted (folder told : List ℕ) (before after : Option (List ℕ)) : Type 0 where
  pub place : ℕ
  pub reply : List ℕ
  pub tells : TellsAck told place reply
  pub written : Appends before after (line_of (submitted folder place reply))

pub record PrintsTabled (folder told : List ℕ) (before after : Option (List ℕ)) : Type 0 where
  pub recovered : ℕ
  pub lines : List ℕ
  pub tells : TellsTable told recovered lines
  pub written : Appends before after (line_of (tabled folder recovered lines))

pub record PrintsMarked (folder told : List ℕ) (before after : Option (List ℕ)) : Type 0 where
  pub recovered : ℕ
  pub count : ℕ
  pub tells : TellsMarks told recovered count
  pub written : Appends before after (line_of (marked folder recovered count))

-- The task was done, and what it tells people alone, behind nothing, was written so.
abbrev pub WritesSubmitted : (folder : List ℕ) → Command → (before after : Option (List ℕ)) → Type 0
WritesSubmitted folder command before after = (told : List ℕ) × WritesAck TRIES command (Some []) (Some told) × PrintsSubmitted folder told before after

abbrev pub WritesTabled : (folder : List ℕ) → (host : ℕ) → (before after : Option (List ℕ)) → Type 0
WritesTabled folder host before after = (told : List ℕ) × WritesLog TRIES host (Some []) (Some told) × PrintsTabled folder told before after

abbrev pub WritesMarked : (folder : List ℕ) → (host : ℕ) → (before after : Option (List ℕ)) → Type 0
WritesMarked folder host before after = (told : List ℕ) × in_text.WritesMarked TRIES host (Some []) (Some told) × PrintsMarked folder told before after

-- OF THE IMAGES

-- The images were looked at, and it was written whether they are sound. What the lines beside that tell is not said.
abbrev pub WritesChecked : (folder : List ℕ) → (sound : Bool) → (before after : Option (List ℕ)) → Type 0
WritesChecked folder sound before after = (lines : List ℕ) × Appends before after (line_of (checked folder sound lines))

-- The images were made endless, and what that came to was written.
pub record WritesMaking (folder : List ℕ) (before after : Option (List ℕ)) : Type 0 where
  pub made : MadeEndless
  pub came_to : CameTo made
  pub written : Appends before after (line_of (making folder made))

-- The image was replaced, and that was written.
pub record WritesReplacing (folder : List ℕ) (disk : ℕ) (before after : Option (List ℕ)) : Type 0 where
  pub first : ℕ
  pub is : WasReplaced disk first
  pub written : Appends before after (line_of (replaced folder disk first))
