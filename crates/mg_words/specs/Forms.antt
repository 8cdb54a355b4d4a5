-- The forms that a line of words may have: what stands at each place.
use Rattle.std.specs.Prelude.{ℕ, Bool, true, false, not, List, [], ◌∷◌, bytes_eq, codes, is_some, slice_index_or, zip}
use Rattle.std.specs.List.{prefix_len}
use Rattle.lock_script.specs.Reading.{number_in}
use Rattle.mg_words.specs.declared.form.Form.{Form}
use Rattle.mg_words.specs.declared.form.Form.TheVariants as kind
use Rattle.mg_words.specs.declared.keyword.Keyword.{Keyword}
use Rattle.mg_words.specs.declared.keyword.Keyword.TheVariants.{Create, Submit, Table, Mark, Check, Migrate, Replace, Run, Sweep, Cluster, Disks, Slots, Host, Json}
use Rattle.mg_words.specs.declared.slot.Slot.{Slot}
use Rattle.mg_words.specs.declared.slot.Slot.TheVariants as number
use Rattle.mg_words.specs.declared.slot.Slot.TheVariants.{Word, Folder, Script, Command}

abbrev pub keyword_text : Keyword → List ℕ
keyword_text Create = codes "create"
keyword_text Submit = codes "submit"
keyword_text Table = codes "table"
keyword_text Mark = codes "mark"
keyword_text Check = codes "check"
keyword_text Migrate = codes "migrate"
keyword_text Replace = codes "replace"
keyword_text Run = codes "run"
keyword_text Sweep = codes "sweep"
keyword_text Cluster = codes "--cluster"
keyword_text Disks = codes "--disks"
keyword_text Slots = codes "--slots"
keyword_text Host = codes "--host"
keyword_text Json = codes "--json"

-- an option begins with two dashes
abbrev pub is_option : Keyword → Bool
is_option Cluster = true
is_option Disks = true
is_option Slots = true
is_option Host = true
is_option Json = true
is_option other = false

-- whether a word may stand there: paths are any words, and commands all but the option that may stand in their place
abbrev pub fits : Slot → List ℕ → Bool
fits (Word keyword) word = bytes_eq word (keyword_text keyword)
fits number.Cluster word = is_some (number_in 0 18446744073709551615 word)
fits number.Disks word = is_some (number_in 1 7 word)
fits number.Slots word = is_some (number_in 1 4096 word)
fits number.Disk word = is_some (number_in 0 6 word)
fits number.Host word = is_some (number_in 0 15 word)
fits Folder word = true
fits Script word = true
fits Command word = not (bytes_eq word (keyword_text Json))

-- THE FORMS

abbrev pub slots : Form → List Slot
slots kind.Create = Word Create ∷ Folder ∷ Word Cluster ∷ number.Cluster ∷ []
slots kind.CreateDisks = Word Create ∷ Folder ∷ Word Cluster ∷ number.Cluster ∷ Word Disks ∷ number.Disks ∷ []
slots kind.CreateSlots = Word Create ∷ Folder ∷ Word Cluster ∷ number.Cluster ∷ Word Slots ∷ number.Slots ∷ []
slots kind.CreateBoth = Word Create ∷ Folder ∷ Word Cluster ∷ number.Cluster ∷ Word Disks ∷ number.Disks ∷ Word Slots ∷ number.Slots ∷ []
slots kind.CreateJson = Word Create ∷ Folder ∷ Word Cluster ∷ number.Cluster ∷ Word Json ∷ []
slots kind.CreateDisksJson = Word Create ∷ Folder ∷ Word Cluster ∷ number.Cluster ∷ Word Disks ∷ number.Disks ∷ Word Json ∷ []
slots kind.CreateSlotsJson = Word Create ∷ Folder ∷ Word Cluster ∷ number.Cluster ∷ Word Slots ∷ number.Slots ∷ Word Json ∷ []
slots kind.CreateBothJson = Word Create ∷ Folder ∷ Word Cluster ∷ number.Cluster ∷ Word Disks ∷ number.Disks ∷ Word Slots ∷ number.Slots ∷ Word Json ∷ []
slots kind.Submit = Word Submit ∷ Folder ∷ Word Host ∷ number.Host ∷ Command ∷ []
slots kind.SubmitJson = Word Submit ∷ Folder ∷ Word Host ∷ number.Host ∷ Word Json ∷ Command ∷ []
slots kind.Table = Word Table ∷ Folder ∷ Word Host ∷ number.Host ∷ []
slots kind.TableJson = Word Table ∷ Folder ∷ Word Host ∷ number.Host ∷ Word Json ∷ []
slots kind.Mark = Word Mark ∷ Folder ∷ Word Host ∷ number.Host ∷ []
slots kind.MarkJson = Word Mark ∷ Folder ∷ Word Host ∷ number.Host ∷ Word Json ∷ []
slots kind.Check = Word Check ∷ Folder ∷ []
slots kind.CheckJson = Word Check ∷ Folder ∷ Word Json ∷ []
slots kind.Migrate = Word Migrate ∷ Folder ∷ []
slots kind.MigrateJson = Word Migrate ∷ Folder ∷ Word Json ∷ []
slots kind.Replace = Word Replace ∷ Folder ∷ number.Disk ∷ []
slots kind.ReplaceJson = Word Replace ∷ Folder ∷ number.Disk ∷ Word Json ∷ []
slots kind.Run = Word Run ∷ Script ∷ []
slots kind.Sweep = Word Sweep ∷ Script ∷ []

-- all of them
abbrev pub forms : List Form
forms =
    kind.Create ∷ kind.CreateDisks ∷ kind.CreateSlots ∷ kind.CreateBoth ∷ kind.CreateJson ∷ kind.CreateDisksJson ∷ kind.CreateSlotsJson ∷ kind.CreateBothJson
    ∷ kind.Submit ∷ kind.SubmitJson ∷ kind.Table ∷ kind.TableJson ∷ kind.Mark ∷ kind.MarkJson ∷ kind.Check ∷ kind.CheckJson ∷ kind.Migrate ∷ kind.MigrateJson ∷ kind.Replace ∷ kind.ReplaceJson ∷ kind.Run ∷ kind.Sweep ∷ []

-- whether the word at a place fits what stands there
abbrev pub fits_at : List Slot → List (List ℕ) → (place : ℕ) → Bool
fits_at these words place = fits (slice_index_or these place Folder) (slice_index_or words place [])

-- the same of a pair of the two
abbrev pub fits_pair : (Slot × List ℕ) → Bool
fits_pair at = fits at.0 at.1

-- how many words, from the first on, fit what stands there in a line of this form
unfoldable pub fitting : Form → List (List ℕ) → ℕ
fitting form words = prefix_len fits_pair (zip (slots form) words)

-- a command may have further words
abbrev pub may_go_on : Form → Bool
may_go_on kind.Submit = true
may_go_on kind.SubmitJson = true
may_go_on other = false
