-- What a host acknowledges, by its own list of entries.
use Rattle.std.specs.Prelude.{ℕ, List, [], ◌∷◌, ◌++◌, Option, Some, None}
use Rattle.lock_command.specs.declared.command.Command.{Command}
use Rattle.lock_command.specs.declared.reply.Reply.{Reply}
use Rattle.paxos_block.specs.Shape.{Shape}
use Rattle.host.specs.declared.answer.HostAnswer.{HostAnswer}
use Rattle.host.specs.declared.answer.HostAnswer.TheVariants.{Ack}
use Rattle.host.specs.Host.{Host, Stopped, Running, Operation, Submitting, Recovering, Doing, Attempts, said_of}
use Rattle.world.specs.Entry.{Filled, Start, host_step}
use Rattle.cluster_tie.specs.Parts.{Placed, Own}
use Rattle.cluster.specs.declared.receipt.Receipt.{Receipt}

-- to the command that was submitted
abbrev pub receipt_for : ℕ → ℕ → Operation → ℕ → Reply → List Receipt
receipt_for h place (Submitting command) slot reply =
    record { host = h; command = command; slot = slot; reply = reply; place = place } ∷ []
receipt_for h place Recovering slot reply = []

abbrev pub receipt_by : ℕ → ℕ → Option Doing → Option HostAnswer → List Receipt
receipt_by h place (Some (Attempts t)) (Some (Ack slot reply)) = receipt_for h place t.operation slot reply
receipt_by h place doing said = []

abbrev pub doing_of : Host → Option Doing
doing_of Stopped = None
doing_of (Running m) = m.doing

-- what an entry at a place acknowledges
abbrev pub receipts_at : Shape → ℕ → Host → ℕ → Filled → List Receipt
receipts_at c h host place e = receipt_by h place (doing_of host) (said_of (host_step c h host e))

-- a start forgets those before it
abbrev pub still : List Receipt → Filled → List Receipt
still before (Start h) = []
still before other = before

abbrev pub receipts_from : Shape → ℕ → Host → List Receipt → List Placed → List Receipt
receipts_from c h host before [] = before
receipts_from c h host before (x ∷ xs) =
    receipts_from c h (host_step c h host x.1) (still before x.1 ++ receipts_at c h host x.0 x.1) xs

-- the acknowledgements of a host's present incarnation
abbrev pub receipts_of : Shape → Own → List Receipt
receipts_of c own = receipts_from c own.number Stopped [] own.entries

-- AS THE SEAT WRITES THEM

abbrev pub receipts_said : ℕ → ℕ → Option Command → Option HostAnswer → List Receipt
receipts_said h place (Some command) (Some (Ack slot reply)) =
    record { host = h; command = command; slot = slot; reply = reply; place = place } ∷ []
receipts_said h place submitting said = []
