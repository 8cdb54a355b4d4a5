use Rattle.std.proofs.Common.{◌≡◌, length}
use Rattle.torn_block.specs.Layout.{cluster_version}
use Rattle.torn_block.specs.declared.layout.TheConstants.{SLOTS}
use Rattle.paxos_block.specs.Places
use Rattle.bench.proofs.image.give_rooms.Given as goal

abbrev pub invariant-loop-slot : goal.invariant-loop-slot
invariant-loop-slot l = length l.disk.disk.bytes ≡ Places.image_length cluster_version SLOTS
