-- What is said of a wrong word.
use Rattle.std.specs.Prelude.{ℕ, ◌&&◌, Bool, List, ◌++◌, codes, length, nat_le, Option, Some, None, if◌then◌else◌}
use Rattle.std.specs.Char.{is_ascii_graphic}
use Rattle.std.specs.List.{list_all}
use Rattle.mg_words.specs.Forms.{is_option, keyword_text}
use Rattle.mg_words.specs.declared.wrong_text.TheConstants.{LONGEST}
use Rattle.mg_words.specs.declared.slot.Slot.{Slot}
use Rattle.mg_words.specs.declared.slot.Slot.TheVariants.{Word, Folder, Script, Cluster, Disks, Slots, Disk, Host, Command}

-- what the word at a place is called
abbrev pub name_text : Slot → List ℕ
name_text (Word keyword) = if is_option keyword then codes "OPTION" else codes "WORD"
name_text Folder = codes "FOLDER"
name_text Script = codes "SCRIPT"
name_text Cluster = codes "CLUSTER"
name_text Disks = codes "DISKS"
name_text Slots = codes "SLOTS"
name_text Disk = codes "DISK"
name_text Host = codes "HOST"
name_text Command = codes "COMMAND"

-- what would be right there
abbrev pub right_text : Slot → List ℕ
right_text (Word keyword) = if is_option keyword then keyword_text keyword else codes "create, submit, table, mark, check, migrate, replace, run, sweep"
right_text Folder = codes "a folder"
right_text Script = codes "a script"
right_text Cluster = codes "0 to 18446744073709551615"
right_text Disks = codes "1 to 7"
right_text Slots = codes "1 to 4096"
right_text Disk = codes "0 to 6"
right_text Host = codes "0 to 15"
right_text Command = codes "enqueue, convert, release, cancel, status, purge, forget"

-- 1 to 100 bytes
abbrev pub is_short : List ℕ → Bool
is_short word = nat_le 1 (length word) && nat_le (length word) LONGEST

-- printed as it is: short, and without a blank
abbrev pub is_plain : List ℕ → Bool
is_plain word = is_short word && list_all is_ascii_graphic word

-- a word in a line: dots for one that a terminal could obey, or that is long or empty
abbrev pub shown : List ℕ → List ℕ
shown word = if is_plain word then word else codes ".."

-- the word is there, or is missing
abbrev pub wrong_text : Option (List ℕ) → Option Slot → List ℕ
wrong_text None None = codes "a word is missing"
wrong_text None (Some slot) = name_text slot ++ codes " is missing: " ++ right_text slot
wrong_text (Some word) None = shown word ++ codes " is a word too many"
wrong_text (Some word) (Some slot) = name_text slot ++ codes " is " ++ shown word ++ codes ": " ++ right_text slot
