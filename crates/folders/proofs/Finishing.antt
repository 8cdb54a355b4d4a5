-- A format that was ended is found and finished, image by image.
use Rattle.std.proofs.Common.{◌≡◌, ◌<◌, ◌≤◌, ◌+◌, ◌∙◌, ◌∷◌, [], ℕ, Bool, true, false, nat_lt, List, Result, Ok, Err, IfErr, Some, refl, sym, arith, length, slice_get, slice_set, subst}
use Rattle.std.specs.Result.{IsErrAnd}
use Rattle.std.proofs.lemmas.Bool.{ltb-true, ltb-false}
use Rattle.disk.specs.Disk.{Device, Call, Attach, Write, Sync, Answer, Booted, Done, Fault}
use Rattle.disk.specs.FileStates.{FileState, FileGives}
use Rattle.torn_block.specs.Layout.{cluster_version}
use Rattle.torn_block.specs.declared.block.TheConstants.{OPEN_GATE}
use Rattle.paxos_block.specs.Places.{image_length}
use Rattle.paxos_block.specs.Shape.{Shape}
use Rattle.folders.specs.Layout.{header_of}
use Rattle.folders.specs.Formatting.{EachBecame, EndsInFault, FirstBecame, HaveRoom, MakesOnly, OneBecame, nothing, and_then}
use Rattle.folders.specs.Finishing.{AreFinished, AreLeft, AreThere, AreUnfinished, FindsLeft, FindsOne, HaveSize, IsLeft, OpensFound, OpensFoundGate, StopsFinishing, WereFinished}
use Rattle.folders.specs.declared.unfinished.Left.{Left}
use Rattle.folders.specs.declared.layout.LayFault.{LayFault}
use Rattle.folders.specs.declared.layout.LayFault.TheVariants.{NotOpened}
use Rattle.folders.proofs.Laying.{all_became, called, one_became, one_call, one_stays}

-- an image has room for a gate
pub room_for_gate : {D : Type 0} (device : D → Device) (slots : ℕ) (disks : List D) → HaveSize device (image_length cluster_version slots) disks → HaveRoom device 1 disks
room_for_gate device slots disks sizes k disk at = let long : (device disk).size ≡ image_length cluster_version slots = sizes k disk at in omega (arith, long)

pub all_left : {D : Type 0} (gives : D → Call → Answer → D → Type 0) (config : Shape) (cluster : ℕ) (old now : List D) → length old ≡ config.disks
    → FirstBecame (λ (disk : ℕ) (a b : D). IsLeft gives (header_of config cluster disk) a b) config.disks old now → AreLeft gives config cluster old now
all_left gives config cluster old now count w = all_became _ config.disks old now count w

-- this is found of one of them
pub one_found : {D : Type 0} (gives : D → Call → Answer → D → Type 0) (config : Shape) (cluster : ℕ) (left : Left) (disk n : ℕ) (old now : List D) (a b : D) → slice_get now disk ≡ Some a → disk < n → FindsLeft gives (header_of config cluster disk) a b left
    → FirstBecame (λ (k : ℕ) (a b : D). IsLeft gives (header_of config cluster k) a b) disk old now → FindsOne gives config cluster left n old (slice_set now disk b)
one_found {D} gives config cluster left disk n old now a b at below found w =
    (disk, below, one_became (λ (k : ℕ) (a b : D). IsLeft gives (header_of config cluster k) a b) (λ (a b : D). FindsLeft gives (header_of config cluster disk) a b left) disk old now a b at found w)

pub one_found_here : {D : Type 0} (gives : D → Call → Answer → D → Type 0) (config : Shape) (cluster : ℕ) (left : Left) (disk : ℕ) (old now : List D) (a b : D) → slice_get now disk ≡ Some a → FindsLeft gives (header_of config cluster disk) a b left
    → FirstBecame (λ (k : ℕ) (a b : D). IsLeft gives (header_of config cluster k) a b) disk old now → FindsOne gives config cluster left (disk + 1) old (slice_set now disk b)
one_found_here gives config cluster left disk old now a b at found w = one_found gives config cluster left disk (disk + 1) old now a b at (omega arith) found w

pub one_found_before : {D : Type 0} (gives : D → Call → Answer → D → Type 0) (config : Shape) (cluster : ℕ) (left : Left) (n : ℕ) (old now : List D) (b : D) → FindsOne gives config cluster left n old now → FindsOne gives config cluster left (n + 1) old (slice_set now n b)
one_found_before {D} gives config cluster left n old now b (disk, below, one) = (disk, omega (arith, below), one_stays (λ (x y : D). FindsLeft gives (header_of config cluster disk) x y left) disk n old now b below one)

pub finished : {D : Type 0} (gives : D → Call → Answer → D → Type 0) (config : Shape) (cluster : ℕ) (old looked new : List D) → length old ≡ config.disks → AreUnfinished gives config cluster old looked
    → FirstBecame (λ (disk : ℕ) (a b : D). OpensFound gives a b) config.disks looked new → AreFinished gives config cluster old new
finished {D} gives config cluster old looked new count left w = record { looked = looked; left = left; opened = all_became (λ (disk : ℕ) (a b : D). OpensFound gives a b) config.disks looked new (left.left.as_many ∙ count) w }

pub were_finished : (config : Shape) (cluster : ℕ) (old new : List FileState) → AreThere config old → AreFinished FileGives config cluster old new → WereFinished config cluster
were_finished config cluster old new there w = record { old = old; new = new; as_many = there.as_many; finished = w }

-- CALLS THAT OPEN GATES

found_only : {D : Type 0} (gives : D → Call → Answer → D → Type 0) (old new : D) → OpensFound gives old new → MakesOnly gives OpensFoundGate old new
found_only gives old new o =
    let attached = one_call gives OpensFoundGate old o.attached Attach tt (Booted o.boot) o.attaches in
    let opened = and_then old o.attached o.opened attached (Write o.boot 0 (OPEN_GATE ∷ [])) (refl, refl) Done o.opens in
    and_then old o.opened new opened (Sync o.boot) tt Done o.syncs

fault_only : {D : Type 0} (gives : D → Call → Answer → D → Type 0) (may : Call → Type 0) (old new : D) → EndsInFault gives may old new → MakesOnly gives may old new
fault_only gives may old new f = and_then old f.last new f.made f.call f.is (Fault f.fault) f.failed

-- of the first so many; the others are as they were
opened_calls : {D : Type 0} (gives : D → Call → Answer → D → Type 0) (n : ℕ) (looked now : List D) → FirstBecame (λ (k : ℕ) (a b : D). OpensFound gives a b) n looked now → EachBecame (λ (k : ℕ) (a b : D). MakesOnly gives OpensFoundGate a b) looked now
opened_calls {D} gives n looked now w = record { as_many = w.as_many; each = each }
  where
    each : (k : ℕ) (a b : D) → slice_get looked k ≡ Some a → slice_get now k ≡ Some b → MakesOnly gives OpensFoundGate a b
    each k a b at_a at_b = on_test (nat_lt k n) refl
      where
        on_test : (t : Bool) → nat_lt k n ≡ t → MakesOnly gives OpensFoundGate a b
        on_test true is = found_only gives a b (w.first k a b (ltb-true k n is) at_a at_b)
        on_test false is =
            let most : n ≤ k = ltb-false k n is in
            let same : Some a ≡ Some b = sym at_a ∙ sym (w.others k most) ∙ at_b in
            let e : a ≡ b = cc in subst (λ (u : D). MakesOnly gives OpensFoundGate a u) e (nothing a)

-- and of the next one, of which one failed
pub calls_until : {D : Type 0} (gives : D → Call → Answer → D → Type 0) (n : ℕ) (looked now : List D) (a b : D) → slice_get now n ≡ Some a → EndsInFault gives OpensFoundGate a b
    → FirstBecame (λ (k : ℕ) (a b : D). OpensFound gives a b) n looked now → EachBecame (λ (k : ℕ) (a b : D). MakesOnly gives OpensFoundGate a b) looked (slice_set now n b)
calls_until gives n looked now a b at failed w = called gives (λ (k : ℕ). OpensFoundGate) n looked now a b at (fault_only gives OpensFoundGate a b failed) (opened_calls gives n looked now w)

pub not_finished : {D T : Type 0} (gives : D → Call → Answer → D → Type 0) (config : Shape) (cluster : ℕ) (old looked new : List D) (disk : ℕ) → disk < config.disks → AreUnfinished gives config cluster old looked
    → OneBecame (EndsInFault gives OpensFoundGate) disk looked new → EachBecame (λ (k : ℕ) (a b : D). MakesOnly gives OpensFoundGate a b) looked new → (why : LayFault) → why ≡ NotOpened disk
    → (result : Result T LayFault) → IsErrAnd result (λ fault. fault ≡ why) → IfErr result (StopsFinishing gives config cluster old new)
not_finished gives config cluster old looked new disk below left one made why is (Ok done) ended = absurd ended
not_finished gives config cluster old looked new disk below left one made why is (Err fault) ended = subst (StopsFinishing gives config cluster old new) (sym (ended ∙ is)) (below, looked, left, one, made)
