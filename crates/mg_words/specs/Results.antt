-- What tasks came to, for programs: the names and values of an object each.
use Rattle.std.specs.Prelude.{ℕ, Bool, true, false, List, [], ◌∷◌, ◌++◌, codes, decimal, map, Option, Some, None}
use Rattle.json.specs.Token.{Token, begin_object, end_object, begin_array, end_array, key, string, number, boolean, null}
use Rattle.lock_script.specs.Lines.{lines_of}
use Rattle.mg_words.specs.Objects.{count_token}

-- A log that has slots ends.
abbrev pub kind_name : Option ℕ → List ℕ
kind_name None = codes "endless"
kind_name (Some n) = codes "ending"

-- The cluster's number is a string, for readers that keep numbers as doubles.
abbrev pub created : (folder : List ℕ) → (cluster disks : ℕ) → (slots : Option ℕ) → List Token
created folder cluster disks slots =
    begin_object
    ∷ key (codes "folder") ∷ string folder
    ∷ key (codes "cluster") ∷ string (decimal cluster)
    ∷ key (codes "disks") ∷ number (decimal disks)
    ∷ key (codes "slots") ∷ count_token slots
    ∷ key (codes "kind") ∷ string (kind_name slots)
    ∷ end_object ∷ []

-- where a command stands in the log, and what people are told that the lock table replied to it
abbrev pub submitted : (folder : List ℕ) → (place : ℕ) → (reply : List ℕ) → List Token
submitted folder place reply =
    begin_object
    ∷ key (codes "folder") ∷ string folder
    ∷ key (codes "place") ∷ number (decimal place)
    ∷ key (codes "reply") ∷ string reply
    ∷ end_object ∷ []

-- how many commands were recovered, and the lines that people are told of the lock table after them
abbrev pub tabled : (folder : List ℕ) → (recovered : ℕ) → (lines : List ℕ) → List Token
tabled folder recovered lines =
    begin_object
    ∷ key (codes "folder") ∷ string folder
    ∷ key (codes "recovered") ∷ number (decimal recovered)
    ∷ key (codes "lines") ∷ begin_array ∷ (map string (lines_of lines) ++ end_array ∷ end_object ∷ [])

-- how many commands were recovered, and how many were marked
abbrev pub marked : (folder : List ℕ) → (recovered count : ℕ) → List Token
marked folder recovered count =
    begin_object
    ∷ key (codes "folder") ∷ string folder
    ∷ key (codes "recovered") ∷ number (decimal recovered)
    ∷ key (codes "marked") ∷ number (decimal count)
    ∷ end_object ∷ []

-- whether images are sound, and the lines that people are told
abbrev pub checked : (folder : List ℕ) → (sound : Bool) → (lines : List ℕ) → List Token
checked folder sound lines =
    begin_object
    ∷ key (codes "folder") ∷ string folder
    ∷ key (codes "sound") ∷ boolean sound
    ∷ key (codes "lines") ∷ begin_array ∷ (map string (lines_of lines) ++ end_array ∷ end_object ∷ [])

-- a log was made one without an end, with so many slots an epoch
abbrev pub made_endless : (folder : List ℕ) → (disks slots : ℕ) → List Token
made_endless folder disks slots =
    begin_object
    ∷ key (codes "folder") ∷ string folder
    ∷ key (codes "disks") ∷ number (decimal disks)
    ∷ key (codes "made") ∷ boolean true
    ∷ key (codes "slots_an_epoch") ∷ number (decimal slots)
    ∷ end_object ∷ []

-- it was one before
abbrev pub already_endless : (folder : List ℕ) → (disks : ℕ) → List Token
already_endless folder disks =
    begin_object
    ∷ key (codes "folder") ∷ string folder
    ∷ key (codes "disks") ∷ number (decimal disks)
    ∷ key (codes "made") ∷ boolean false
    ∷ key (codes "slots_an_epoch") ∷ null
    ∷ end_object ∷ []

-- from which epoch on the new image of a disk takes part
abbrev pub replaced : (folder : List ℕ) → (disk first : ℕ) → List Token
replaced folder disk first =
    begin_object
    ∷ key (codes "folder") ∷ string folder
    ∷ key (codes "disk") ∷ number (decimal disk)
    ∷ key (codes "first_epoch") ∷ number (decimal first)
    ∷ end_object ∷ []
