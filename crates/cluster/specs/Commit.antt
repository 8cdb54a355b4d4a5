-- The entry that a step appends.
use Rattle.std.specs.Prelude.{◌+◌, ℕ, List, [], length, slice_range}
use Rattle.disk.specs.Disk.{DiskState, Call, Attach, Read, Write, Sync}
use Rattle.paxos_block.specs.Shape.{Shape}
use Rattle.world.specs.Entry.{Filled, Called}
use Rattle.cluster_tie.specs.Parts.{Own}
use Rattle.cluster.specs.Seat.{due_in}
use Rattle.cluster.specs.Book.{BookState, answer_in}
use Rattle.cluster.specs.declared.touched.CallOutcome.{CallOutcome}

-- what the range of a write shows behind it
abbrev pub left_by : Call → DiskState → List ℕ
left_by Attach disk = []
left_by (Read boot at len) disk = []
left_by (Write boot at from) disk = slice_range disk.bytes at (at + length from)
left_by (Sync boot) disk = []

-- the seat's next call, with this answer, and with what it left on the book's disk
abbrev pub called_by : {D : Type 0} → Shape → Own → BookState D → CallOutcome → Filled
called_by c seat book outcome =
    Called seat.number book.own.number (due_in c seat).1 (answer_in outcome book.row) (left_by (due_in c seat).1 book.disk)
