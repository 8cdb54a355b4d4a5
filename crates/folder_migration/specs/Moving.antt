-- A migration onto the disks of a set, from its first call to its end.
use Rattle.std.specs.Prelude.{◌≡◌, List, [], ◌∷◌, ◌++◌, Some}
use Rattle.disk.specs.Disk.{Call, Answer, Fault}
use Rattle.migration.specs.Fits.{HasRoom}
use Rattle.migration.specs.Heard.{at_first, heard, next}
use Rattle.migration.specs.History.{IsHistory}
use Rattle.paxos_block.specs.Image.{Setup}
use Rattle.migration.specs.Kept.{end_by}
use Rattle.migration.specs.declared.end.End.{End}
use Rattle.dlm_images.specs.Operations.{Made, GaveOne}
pub use Rattle.folders.specs.Damage.{AreLarge}

-- Each call that was due was made, in turn, and its disk gave the answer.
pub data Makes {D : Type 0} (gives : D → Call → Answer → D → Type 0) (s : Setup) (old : List D) : List Answer → List D → Type 0 where
  none : Makes gives s old [] old
  more : (answers : List Answer) → (now : List D) → Makes gives s old answers now → (x : Made) → next (heard (at_first s) answers) ≡ Some (x.disk, x.call) → (new : List D) → GaveOne gives now x new → Makes gives s old (answers ++ x.answer ∷ []) new

-- A migration of a log that has room made its calls until it ended so.
pub record HasMoved {D : Type 0} (gives : D → Call → Answer → D → Type 0) (s : Setup) (old new : List D) (end : End) : Type 0 where
  pub room : HasRoom s
  pub answers : List Answer
  pub makes : Makes gives s old answers new
  pub history : IsHistory (at_first s) answers
  pub ended : end_by (heard (at_first s) answers) ≡ Some end

-- no call failed or was refused
abbrev pub IsWell : Answer → Type 0
IsWell (Fault fault) = ⊥
IsWell other = Unit {0}

abbrev pub AllWell : List Answer → Type 0
AllWell [] = Unit {0}
AllWell (answer ∷ answers) = IsWell answer × AllWell answers
