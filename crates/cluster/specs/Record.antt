-- What is left of a cluster.
use Rattle.std.specs.Prelude.{◌≡◌, ◌≢◌, ◌<◌, ℕ, List, [], Any, length, take, slice_get, slice_index_or, Some}
use Rattle.lock_command.specs.declared.command.Command.{Command}
use Rattle.paxos_block.specs.Shape.{Shape}
use Rattle.host.specs.Host.{learned_of, reply_after}
use Rattle.world.specs.Entry.{Filled}
use Rattle.world.specs.World.{world, IsFreshRun}
use Rattle.world.specs.Plain.{plains}
use Rattle.world.specs.Chosen.{IsAcknowledgedAt}
use Rattle.world.specs.Headline.{IsPrefix, IsSafe, HasNoSecondLog}
use Rattle.world.specs.declared.entry.Entry.{Entry}
use Rattle.cluster_tie.specs.Parts.{Own, of_host}
use Rattle.cluster.specs.Receipts.{receipts_of}
use Rattle.cluster.specs.Seat.{host_in}
use Rattle.cluster.specs.declared.receipt.Receipt.{Receipt}

-- so it is with each seat
abbrev pub OfEach : (Own → Type 0) → List Own → Type 0
OfEach P seats = (i : ℕ) (d : Own) → i < length seats → P (slice_index_or seats i d)

-- each seat's list is its host's part of the log
abbrev pub ArePartsOf : List Filled → List Own → Type 0
ArePartsOf log seats =
    (i : ℕ) (d : Own) → i < length seats → (slice_index_or seats i d).entries ≡ of_host (slice_index_or seats i d).number log

-- the host has a seat among these
abbrev pub HasSeat : List Own → ℕ → Type 0
HasSeat seats h = Any (λ (own : Own). own.number ≡ h) seats

-- each host with an entry has one
abbrev pub AreCovered : List Filled → List Own → Type 0
AreCovered log seats = (h : ℕ) → of_host h log ≢ [] → HasSeat seats h

-- some host with an entry has none
abbrev pub LacksSeat : List Filled → List Own → Type 0
LacksSeat log seats = (h : ℕ) × (of_host h log ≢ []) × (¬ HasSeat seats h)

-- these are not all seats of some run
abbrev pub AreNotAll : Shape → List Own → Type 0
AreNotAll c seats = (log : List Filled) × IsFreshRun c log × ArePartsOf log seats × LacksSeat log seats

-- A receipt is the acknowledgement of its host that stands in the log at its place.
pub record IsReceipt (c : Shape) (log : List Filled) (h : ℕ) (r : Receipt) : Type 0 where
  pub host : r.host ≡ h
  pub acknowledged : IsAcknowledgedAt c log r.place h r.slot r.command r.reply

-- so it is with all receipts of a seat
abbrev pub HasReceipts : Shape → List Filled → Own → Type 0
HasReceipts c log own = (k : ℕ) (r : Receipt) → slice_get (receipts_of c own) k ≡ Some r → IsReceipt c log own.number r

-- A seat goes by these commands: its host's own prefix begins them, and each command that it acknowledged stands among them at its slot, with the reply of the lock table there.
pub record GoesBy (c : Shape) (commands : List Command) (own : Own) : Type 0 where
  pub prefix : IsPrefix (learned_of (host_in c own)) commands
  pub placed : (k : ℕ) (r : Receipt) → slice_get (receipts_of c own) k ≡ Some r → slice_get commands r.slot ≡ Some r.command
  pub replied : (k : ℕ) (r : Receipt) → slice_get (receipts_of c own) k ≡ Some r → r.reply ≡ reply_after (take r.slot commands) r.command

-- For one filling of the bytes that the entries leave open,
pub record IsRecord (c : Shape) (kept : List Entry) (seats : List Own) : Type 0 where
  pub log : List Filled
  pub kept_is : kept ≡ plains log
  -- they are a run of the world over disks that begin as zeros,
  pub run : IsFreshRun c log
  -- each host with an entry has a seat,
  pub covers : AreCovered log seats
  -- and each seat's list is its host's entries, in order; so its prefix and its table are those of its host after the run,
  pub parts : ArePartsOf log seats
  pub hosts : OfEach (λ own. host_in c own ≡ (world c log).host own.number) seats
  -- each receipt stands at its place,
  pub receipts : OfEach (HasReceipts c log) seats
  -- and these commands are the one log of the run, by which all goes: whatever it chose, acknowledged and recovered, and each seat.
  pub commands : List Command
  pub safe : IsSafe c log commands
  pub no_other : HasNoSecondLog c log
  pub seats_go : OfEach (GoesBy c commands) seats
