-- What a host of a race is answered, and what its own list of entries and the one log say of that.
use Rattle.std.specs.Prelude.{◌≡◌, ℕ, false, List, take, slice_get, Some}
use Rattle.lock_command.specs.declared.command.Command.{Command}
use Rattle.lock_command.specs.declared.reply.Reply.{Reply}
use Rattle.paxos_block.specs.Shape.{Shape}
use Rattle.host.specs.declared.answer.HostAnswer.TheVariants as said
use Rattle.host.specs.Host.{Host, idles, said_of, reply_after}
use Rattle.world.specs.Entry.{Filled, of_host}
use Rattle.world.specs.World.{world}
use Rattle.world.specs.Chosen.{IsAcknowledgedAt}
use Rattle.cluster_tie.specs.Parts.{Own, entries}
use Rattle.cluster.specs.declared.fault.HostFault.{HostFault}
use Rattle.cluster.specs.declared.fault.HostFault.TheVariants as fault
use Rattle.cluster.specs.declared.receipt.Receipt.{Receipt}
use Rattle.cluster.specs.Operations.{IsLast}
use Rattle.cluster.specs.Receipts.{receipts_of}
use Rattle.cluster.specs.Seat.{host_in}
use Rattle.race.specs.Bids.{bid_of, HasBid}
use Rattle.race.specs.declared.answer.Answer.{Answer}
use Rattle.race.specs.declared.answer.Answer.TheVariants.{Acknowledged, Refused}

-- A refusal of an operation is what the host said last. Others are a want of memory or of room in the journal, or a call found open, which leaves the host within its operation.
abbrev pub IsRefusedBy : HostFault → Host → Type 0
IsRefusedBy (fault.Refused refusal) host = said_of host ≡ Some (said.Refused refusal)
IsRefusedBy fault.NoMemory host = Unit {0}
IsRefusedBy fault.JournalFull host = Unit {0}
IsRefusedBy fault.OpenCall host = idles host ≡ false
IsRefusedBy fault.SeatTaken host = ⊥
IsRefusedBy fault.SeatsMissing host = ⊥

-- An acknowledgement is the last receipt of the host's list, and is of its bid, which it submitted after a beat.
abbrev pub IsTold : Shape → Own → Answer → Type 0
IsTold c own (Acknowledged slot reply) =
    (receipt : Receipt) × IsLast receipt (receipts_of c own)
    × (receipt.command ≡ bid_of own.number) × (receipt.slot ≡ slot) × (receipt.reply ≡ reply) × HasBid own.number (entries own.entries)
IsTold c own (Refused cause) = IsRefusedBy cause (host_in c own)

-- The host beat, submitted its bid and acknowledged it in this run. The bid stands in these commands at the slot, and the reply is the lock table's after those before it.
pub record IsPlaced (c : Shape) (log : List Filled) (commands : List Command) (h slot : ℕ) (reply : Reply) : Type 0 where
  pub bid : HasBid h (of_host h log)
  pub place : ℕ
  pub acknowledged : IsAcknowledgedAt c log place h slot (bid_of h) reply
  pub stands : slice_get commands slot ≡ Some (bid_of h)
  pub replied : reply ≡ reply_after (take slot commands) (bid_of h)

-- so the run and its one log bear a host's answer out
abbrev pub IsAnswer : Shape → List Filled → List Command → ℕ → Answer → Type 0
IsAnswer c log commands h (Acknowledged slot reply) = IsPlaced c log commands h slot reply
IsAnswer c log commands h (Refused cause) = IsRefusedBy cause ((world c log).host h)
