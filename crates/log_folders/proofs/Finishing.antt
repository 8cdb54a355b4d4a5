-- A format of a set that was ended is found and finished, image by image.
use Rattle.std.proofs.Common.{◌≡◌, ◌<◌, ◌+◌, ◌∙◌, ℕ, List, Result, Ok, Err, IfErr, Some, arith, length, slice_get, slice_set, subst, sym}
use Rattle.std.specs.Result.{IsErrAnd}
use Rattle.disk.specs.Disk.{Call, Answer}
use Rattle.folders.specs.Finishing.{OpensFound, OpensFoundGate}
use Rattle.folders.specs.Formatting.{EachBecame, EndsInFault, FirstBecame, MakesOnly, OneBecame}
use Rattle.folders.specs.declared.layout.LayFault.{LayFault}
use Rattle.folders.specs.declared.layout.LayFault.TheVariants.{NotOpened}
use Rattle.folders.specs.declared.unfinished.Left.{Left}
use Rattle.folders.proofs.Laying.{all_became, one_became, one_stays}
use Rattle.log_folders.specs.Finishing.{AreFinished, AreLeft, AreUnfinished, FindsLeft, FindsOne, IsLeft, StopsFinishing}
use Rattle.log_folders.specs.NewSets.{Wanted, header_for, size_for}

module _ {D : Type 0} (gives : D → Call → Answer → D → Type 0) (set : Wanted) where
  -- the image of this number was found whole, with its gate open or closed
  abbrev pub IsLeftAt : ℕ → D → D → Type 0
  IsLeftAt k a b = IsLeft gives (size_for set) (header_for set k) a b

  pub all_left : (old now : List D) → length old ≡ set.config.disks → FirstBecame IsLeftAt set.config.disks old now → AreLeft gives set old now
  all_left old now count w = all_became _ set.config.disks old now count w

  -- this is found of one of them
  pub one_found : (left : Left) (disk n : ℕ) (old now : List D) (a b : D) → slice_get now disk ≡ Some a → disk < n → FindsLeft gives (size_for set) (header_for set disk) a b left
      → FirstBecame IsLeftAt disk old now → FindsOne gives set left n old (slice_set now disk b)
  one_found left disk n old now a b at below found w =
      (disk, below, one_became IsLeftAt (λ (a b : D). FindsLeft gives (size_for set) (header_for set disk) a b left) disk old now a b at found w)

  pub one_found_here : (left : Left) (disk : ℕ) (old now : List D) (a b : D) → slice_get now disk ≡ Some a → FindsLeft gives (size_for set) (header_for set disk) a b left
      → FirstBecame IsLeftAt disk old now → FindsOne gives set left (disk + 1) old (slice_set now disk b)
  one_found_here left disk old now a b at found w = one_found left disk (disk + 1) old now a b at (omega arith) found w

  pub one_found_before : (left : Left) (n : ℕ) (old now : List D) (b : D) → FindsOne gives set left n old now → FindsOne gives set left (n + 1) old (slice_set now n b)
  one_found_before left n old now b (disk, below, one) =
      (disk, omega (arith, below), one_stays (λ (x y : D). FindsLeft gives (size_for set) (header_for set disk) x y left) disk n old now b below one)

  pub finished : (old looked new : List D) → length old ≡ set.config.disks → AreUnfinished gives set old looked
      → FirstBecame (λ (disk : ℕ) (a b : D). OpensFound gives a b) set.config.disks looked new → AreFinished gives set old new
  finished old looked new count left w = record { looked = looked; left = left; opened = all_became (λ (disk : ℕ) (a b : D). OpensFound gives a b) set.config.disks looked new (left.left.as_many ∙ count) w }

  pub not_finished : {T : Type 0} (old looked new : List D) (disk : ℕ) → disk < set.config.disks → AreUnfinished gives set old looked
      → OneBecame (EndsInFault gives OpensFoundGate) disk looked new → EachBecame (λ (k : ℕ) (a b : D). MakesOnly gives OpensFoundGate a b) looked new → (why : LayFault) → why ≡ NotOpened disk
      → (result : Result T LayFault) → IsErrAnd result (λ fault. fault ≡ why) → IfErr result (StopsFinishing gives set old new)
  not_finished old looked new disk below left one made why is (Ok done) ended = absurd ended
  not_finished old looked new disk below left one made why is (Err fault) ended = subst (StopsFinishing gives set old new) (sym (ended ∙ is)) (below, looked, left, one, made)
