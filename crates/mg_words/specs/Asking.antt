-- What a line of words asks for.
use Rattle.std.specs.Prelude.{◌≡◌, ◌==◌, ◌<◌, ◌≤◌, ◌&&◌, ◌||◌, ℕ, Bool, true, false, List, [], codes, drop, length, slice_index_or, is_some, Option, Some, None, IfSome}
use Rattle.std.specs.List.{join_by}
use Rattle.lock_command.specs.Command.{is_submittable}
use Rattle.lock_command.specs.Reading.{◌>>=◌, passed}
use Rattle.lock_command.specs.declared.command.Command.{Command}
use Rattle.lock_script.specs.Reading.{command_at, number_in}
use Rattle.lock_script.specs.Words.{words_of}
use Rattle.mg_words.specs.Forms.{fits, fitting, may_go_on, slots}
use Rattle.mg_words.specs.declared.form.Form.{Form}
use Rattle.mg_words.specs.declared.form.Form.TheVariants as kind
use Rattle.mg_words.specs.declared.request.Request.{Request}
use Rattle.mg_words.specs.declared.request.Request.TheVariants.{Create, Submit, Table, Mark, Check, Migrate, Replace, Run, Sweep}
use Rattle.mg_words.specs.declared.slot.Slot.{Slot}
use Rattle.mg_words.specs.declared.slot.Slot.TheVariants.{Folder}

-- whether words are a line of this form: each fits its place, and none is left or missing
abbrev pub takes : Form → List (List ℕ) → Bool
takes form words = (fitting form words == length (slots form)) && ((length words == length (slots form)) || may_go_on form)

-- the word at a place, counted from 0
abbrev pub word_at : List (List ℕ) → ℕ → List ℕ
word_at words place = slice_index_or words place []

-- the word there spells this number
abbrev pub Spells : List (List ℕ) → (place least most number : ℕ) → Type 0
Spells words place least most number = number_in least most (word_at words place) ≡ Some number

-- what stands at this place is a number in this range
abbrev pub Reads : List Slot → (place least most : ℕ) → Type 0
Reads these place least most = (place < length these) × ((word : List ℕ) → fits (slice_index_or these place Folder) word ≡ is_some (number_in least most word))

-- the words with a space between two
abbrev pub spaced : List (List ℕ) → List ℕ
spaced words = join_by (λ word. word) (codes " ") words

-- the command of a host that these are, as after `submit` in a script; None for words that are none that a client may ask for
unfoldable pub command_said : (host : ℕ) → List (List ℕ) → Option Command
command_said host words = do
  command ← command_at host (words_of (spaced words))
  passed (is_submittable command) command

-- the number of disks: of the word at this place, or 3
abbrev pub AreDisks : List (List ℕ) → Option ℕ → ℕ → Type 0
AreDisks words None disks = disks ≡ 3
AreDisks words (Some place) disks = Spells words place 1 7 disks

-- the slots of a log that ends: of the word at this place
abbrev pub AreSlots : List (List ℕ) → Option ℕ → Option ℕ → Type 0
AreSlots words None slots = slots ≡ None
AreSlots words (Some place) slots = (count : ℕ) × Spells words place 1 4096 count × (slots ≡ Some count)

-- images are to be made in the folder that is named second, and the cluster's number stands fourth
abbrev pub IsCreate : List (List ℕ) → (disks_at slots_at : Option ℕ) → (json : Bool) → Request → Type 0
IsCreate words disks_at slots_at json (Create folder cluster disks slots as_json) =
    (folder.now ≡ word_at words 1) × Spells words 3 0 18446744073709551615 cluster × AreDisks words disks_at disks × AreSlots words slots_at slots × (as_json ≡ json)
IsCreate words disks_at slots_at json other = ⊥

-- a host works over the folder that is named second, and its number stands fourth
abbrev pub IsOver : List (List ℕ) → (folder : List ℕ) → (host : ℕ) → Type 0
IsOver words folder host = (folder ≡ word_at words 1) × Spells words 3 0 15 host

-- the command begins at this place
abbrev pub IsSubmit : List (List ℕ) → (place : ℕ) → (json : Bool) → Request → Type 0
IsSubmit words place json (Submit folder command as_json) =
    (host : ℕ) × IsOver words folder.now host × (command_said host (drop place words) ≡ Some command) × (as_json ≡ json)
IsSubmit words place json other = ⊥

abbrev pub IsTable : List (List ℕ) → (json : Bool) → Request → Type 0
IsTable words json (Table folder host as_json) = IsOver words folder.now host × (as_json ≡ json)
IsTable words json other = ⊥

abbrev pub IsMark : List (List ℕ) → (json : Bool) → Request → Type 0
IsMark words json (Mark folder host as_json) = IsOver words folder.now host × (as_json ≡ json)
IsMark words json other = ⊥

abbrev pub IsCheck : List (List ℕ) → (json : Bool) → Request → Type 0
IsCheck words json (Check folder as_json) = (folder.now ≡ word_at words 1) × (as_json ≡ json)
IsCheck words json other = ⊥

abbrev pub IsMigrate : List (List ℕ) → (json : Bool) → Request → Type 0
IsMigrate words json (Migrate folder as_json) = (folder.now ≡ word_at words 1) × (as_json ≡ json)
IsMigrate words json other = ⊥

-- the disk's number stands third
abbrev pub IsReplace : List (List ℕ) → (json : Bool) → Request → Type 0
IsReplace words json (Replace folder disk as_json) = (folder.now ≡ word_at words 1) × Spells words 2 0 6 disk × (as_json ≡ json)
IsReplace words json other = ⊥

abbrev pub IsRun : List (List ℕ) → Request → Type 0
IsRun words (Run script) = script.now ≡ word_at words 1
IsRun words other = ⊥

abbrev pub IsSweep : List (List ℕ) → Request → Type 0
IsSweep words (Sweep script) = script.now ≡ word_at words 1
IsSweep words other = ⊥

-- what a line of this form asks for
abbrev pub Says : Form → List (List ℕ) → Request → Type 0
Says kind.Create words request = IsCreate words None None false request
Says kind.CreateDisks words request = IsCreate words (Some 5) None false request
Says kind.CreateSlots words request = IsCreate words None (Some 5) false request
Says kind.CreateBoth words request = IsCreate words (Some 5) (Some 7) false request
Says kind.CreateJson words request = IsCreate words None None true request
Says kind.CreateDisksJson words request = IsCreate words (Some 5) None true request
Says kind.CreateSlotsJson words request = IsCreate words None (Some 5) true request
Says kind.CreateBothJson words request = IsCreate words (Some 5) (Some 7) true request
Says kind.Submit words request = IsSubmit words 4 false request
Says kind.SubmitJson words request = IsSubmit words 5 true request
Says kind.Table words request = IsTable words false request
Says kind.TableJson words request = IsTable words true request
Says kind.Mark words request = IsMark words false request
Says kind.MarkJson words request = IsMark words true request
Says kind.Check words request = IsCheck words false request
Says kind.CheckJson words request = IsCheck words true request
Says kind.Migrate words request = IsMigrate words false request
Says kind.MigrateJson words request = IsMigrate words true request
Says kind.Replace words request = IsReplace words false request
Says kind.ReplaceJson words request = IsReplace words true request
Says kind.Run words request = IsRun words request
Says kind.Sweep words request = IsSweep words request

-- The words are a line of a form, and this is what it asks for.
pub record Asks (words : List (List ℕ)) (request : Request) : Type 0 where
  pub form : Form
  pub taken : takes form words ≡ true
  pub said : Says form words request

-- WHAT THEN IS SO

-- each number is in its range, and a client may ask for the command
abbrev pub MayBeAsked : Request → Type 0
MayBeAsked (Create folder cluster disks slots json) = (1 ≤ disks) × (disks ≤ 7) × IfSome slots (λ count. (1 ≤ count) × (count ≤ 4096))
MayBeAsked (Submit folder command json) = is_submittable command ≡ true
MayBeAsked (Replace folder disk json) = disk ≤ 6
MayBeAsked other = Unit {0}
