-- What is done to one disk by hosts of all epochs, told by its bytes alone: a host's number is the counter of its block in a row of standings.
use Rattle.std.specs.Prelude.{◌≡◌, ◌⊎◌, ◌+◌, ◌≤◌, ◌<◌, ◌%◌, ℕ, Bool, true, false, List, [], ◌∷◌, length, replicate}
use Rattle.disk.specs.declared.fault.DiskFault.{DiskFault}
use Rattle.disk.specs.Disk.{DiskState, Call, Attach, Read, Write, Sync, Answer, Fault, Step, lost}
use Rattle.disk.specs.Crash.{MayLeave}
use Rattle.disk.specs.Simulated.{fresh_disk}
use Rattle.torn_block.specs.declared.layout.TheConstants.{HOSTS, ROW_LENGTH}
use Rattle.torn_block.specs.declared.write_steps.WriteCall.{WriteCall}
use Rattle.torn_block.specs.Stage.{call_of, IsPlaced, IsDue}
use Rattle.heartbeat.specs.Beat.{beat_body, counter_of}
use Rattle.paxos_block.specs.Shape.{Shape}
use Rattle.world.specs.Entry.{Filled, Called, Torn, Crashed, Lost}
use Rattle.world.specs.World.{Tears}
use Rattle.at_once.specs.AtOnce.{Serves}
use Rattle.at_once.specs.Power.{LosesPower, ServesOn}
use Rattle.epochs.specs.Showing.{host_at, moved, masked_in, IsCleared}
use Rattle.epochs.specs.Numbers.{write_over}
use Rattle.epochs.specs.Acts.{Epoch, epoch_of, base_of, Act, In, Beside, Turns, Ends, Replaced, part, takes_part, TakesPartLater, IsModelCrash, HasNoCrash, shown_by, AreClear}
pub use Rattle.standings.specs.Epochs.{number_place, number_of}

-- it is this number, whatever a crash leaves now
abbrev pub IsSurely : (n area host number : ℕ) → DiskState → Type 0
IsSurely n area host number whole = (bytes : List ℕ) → MayLeave whole bytes → number_of n area host bytes ≡ number

-- IN AN EPOCH

-- who is shown has the epoch's number, and who is not has a smaller one
abbrev pub AreShown : ℕ → Epoch → (ℕ → Bool) → List ℕ → Type 0
AreShown n e shown bytes =
    (host : ℕ) → host < HOSTS → ((shown host ≡ true) × (number_of n e.area host bytes ≡ e.number)) ⊎ ((shown host ≡ false) × (number_of n e.area host bytes < e.number))

-- these bytes of the image are of hosts that are inside, whatever a crash leaves
abbrev pub AreInside : ℕ → Epoch → (at len : ℕ) → DiskState → Type 0
AreInside n e at len whole =
    (ROW_LENGTH ≤ at) × (at + len ≤ n) × ((p : ℕ) → at ≤ p → p < at + len → IsSurely n e.area (host_at p) e.number whole)

abbrev pub MayCall : ℕ → Epoch → (ℕ → Bool) → DiskState → Call → Type 0
MayCall n e shown whole Attach = Unit {0}
MayCall n e shown whole (Read boot at len) = (at % ROW_LENGTH ≡ 0) × (ROW_LENGTH ≤ at) × (at + len ≤ n) × AreShown n e shown whole.bytes
MayCall n e shown whole (Write boot at from) = AreInside n e at (length from) whole
MayCall n e shown whole (Sync boot) = Unit {0}

-- The call is made where the area is, and its host is given the answer that is masked.
pub record IsAnswered (n : ℕ) (e : Epoch) (shown : ℕ → Bool) (old new : DiskState) (call : Call) (answer : Answer) : Type 0 where
  pub told : Answer
  pub may : MayCall n e shown old call
  pub step : Step old (moved (base_of n e.area) call) told new
  pub given : answer ≡ masked_in shown told

-- Or it is a read of which the host hears a fault with which the disk answers reads under that boot number.
pub record IsUntold (old new : DiskState) (call : Call) (answer : Answer) : Type 0 where
  pub boot : ℕ
  pub at : ℕ
  pub len : ℕ
  pub fault : DiskFault
  pub is : call ≡ Read boot at len
  pub given : answer ≡ Fault fault
  pub step : Step old (Read boot at len) (Fault fault) new

-- Or its host stops within a write.
abbrev pub IsCutOff : ℕ → Epoch → DiskState → DiskState → Call → Type 0
IsCutOff n e old new (Write boot at from) = AreInside n e at (length from) old × Tears (moved (base_of n e.area) (Write boot at from)) old new
IsCutOff n e old new other = ⊥

abbrev pub HappensIn : ℕ → Epoch → (ℕ → Bool) → DiskState → Filled → DiskState → Type 0
HappensIn n e shown old (Called h d call answer left) new = IsAnswered n e shown old new call answer ⊎ IsUntold old new call answer
HappensIn n e shown old (Torn h d call left) new = IsCutOff n e old new call
HappensIn n e shown old other new = ⊥

-- BESIDE

-- A host beats in a row of standings: this is one of the six calls that write its block again, and it is due, unless the disk refuses it. With an odd
-- number its blocks in the area are cleared by then.
pub record IsBeat (n : ℕ) (whole : DiskState) (call : Call) : Type 0 where
  pub area : ℕ
  pub host : ℕ
  pub is_area : area < 2
  pub is_host : host < HOSTS
  pub block : List ℕ
  pub write : WriteCall
  pub boot : ℕ
  pub is : call ≡ call_of write (write_over (number_place n area host) block beat_body) boot
  pub due : boot ≡ whole.boot → IsPlaced (write_over (number_place n area host) block beat_body) whole × IsDue write (write_over (number_place n area host) block beat_body) whole
  pub cleared : counter_of block % 2 ≡ 1 → IsCleared n (base_of n area) host whole

-- Or the call writes in no row of standings, and of an area only blocks of hosts that clear them: their numbers are odd, whatever a crash leaves.
abbrev pub IsApart : ℕ → DiskState → Call → Type 0
IsApart n whole Attach = Unit {0}
IsApart n whole (Read boot at len) = Unit {0}
IsApart n whole (Write boot at from) =
    (at + length from ≤ length whole.bytes)
    × ((at + length from ≤ n) ⊎ (n + ROW_LENGTH + ROW_LENGTH ≤ at))
    × ((area p : ℕ) → area < 2 → ROW_LENGTH ≤ p → p < n → at ≤ base_of n area + p → base_of n area + p < at + length from → (number : ℕ) × (number % 2 ≡ 1) × IsSurely n area (host_at p) number whole)
IsApart n whole (Sync boot) = Unit {0}

-- IN THE PLACE OF ANOTHER

-- What is written on the new disk is synced, and by its numbers nobody has come to an epoch in which it takes part.
pub record IsNew (n first : ℕ) (old new : DiskState) : Type 0 where
  pub there : old.gone ≡ false
  pub gone : new.gone ≡ false
  pub boot : new.boot ≡ old.boot
  pub room : ROW_LENGTH + n + n ≤ length new.bytes
  pub synced : new.unsynced ≡ replicate (length new.bytes) false
  pub before : (e : Epoch) (host : ℕ) → e.area < 2 → takes_part first e ≡ true → host < HOSTS → number_of n e.area host new.bytes < e.number

-- ALL OF IT

abbrev pub GoesTo : (DiskState → DiskState → Type 0) → Shape → ℕ → ℕ → DiskState → Act → DiskState → Type 0
GoesTo IsCrash c k n old (In epoch shown entry) new = (epoch.area < 2) × (epoch.number % 2 ≡ 0) × HappensIn n epoch shown old entry new
GoesTo IsCrash c k n old (Beside call answer) new = (IsBeat n old call ⊎ IsApart n old call) × Step old call answer new
GoesTo IsCrash c k n old (Turns area host) new = ⊥
GoesTo IsCrash c k n old (Ends (Crashed d left)) new = (k < c.disks) × (old.gone ≡ false) × IsCrash old new
GoesTo IsCrash c k n old (Ends (Lost d)) new = (k < c.disks) × (old.gone ≡ false) × (new ≡ lost old)
GoesTo IsCrash c k n old (Ends other) new = ⊥
GoesTo IsCrash c k n old (Replaced first) new = (k < c.disks) × IsNew n first old new

-- one after the other, with some disk behind each
abbrev pub ServesCalls : (DiskState → DiskState → Type 0) → Shape → ℕ → ℕ → DiskState → List Act → Type 0
ServesCalls IsCrash c k n old [] = Unit {0}
ServesCalls IsCrash c k n old (act ∷ acts) = (new : DiskState) × GoesTo IsCrash c k n old act new × ServesCalls IsCrash c k n new acts

-- A disk of zeros that has served all of it has served of each epoch what is done to that epoch's image: numbers turn where calls of beats make them.
abbrev pub CallsServe : Type 0
CallsServe =
    (c : Shape) (k n size e : ℕ) (acts : List Act) → ROW_LENGTH ≤ n → ROW_LENGTH + n + n ≤ size → ServesCalls IsModelCrash c k n (fresh_disk size) acts → TakesPartLater acts →
    Serves c k (fresh_disk n) (part (epoch_of e) acts)

-- So it is with a file, over losses of power.
abbrev pub CallsServeOn : Type 0
CallsServeOn =
    (c : Shape) (k n size e : ℕ) (acts : List Act) → ROW_LENGTH ≤ n → ROW_LENGTH + n + n ≤ size → ServesCalls LosesPower c k n (fresh_disk size) acts → TakesPartLater acts →
    ServesOn c k (fresh_disk n) (part (epoch_of e) acts)

-- READINGS

-- each leads from one to the next, the first from here and the last there
abbrev pub GoesAlong : (DiskState → DiskState → Type 0) → Shape → ℕ → ℕ → DiskState → List Act → DiskState → Type 0
GoesAlong IsCrash c k n old [] last = last ≡ old
GoesAlong IsCrash c k n old (act ∷ acts) last = (new : DiskState) × GoesTo IsCrash c k n old act new × GoesAlong IsCrash c k n new acts last

-- the numbers that a reading of the row of standings gives
abbrev pub read_on : ℕ → Epoch → DiskState → ℕ → ℕ
read_on n e whole host = number_of n e.area host whole.bytes

-- On a disk that began as zeros the standings are read before a row and after it, and in between it does not crash. If the readings are clear, who has the
-- epoch's number in both is to be shown.
abbrev pub ReadBytesShow : (DiskState → DiskState → Type 0) → Type 0
ReadBytesShow IsCrash =
    (c : Shape) (k n size : ℕ) (e : Epoch) (first row second : DiskState) (early before behind : List Act) → e.area < 2 → ROW_LENGTH ≤ n → ROW_LENGTH + n + n ≤ size → GoesAlong IsCrash c k n (fresh_disk size) early first →
    GoesAlong IsCrash c k n first before row → HasNoCrash before → GoesAlong IsCrash c k n row behind second → HasNoCrash behind →
    AreClear e (read_on n e first) (read_on n e second) → AreShown n e (shown_by e (read_on n e first) (read_on n e second)) row.bytes
