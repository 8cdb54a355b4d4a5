-- An image of either kind begins with an open gate, and has room for its header.
use Rattle.std.proofs.Common.{◌≡◌, ◌≤◌, ◌∙◌, ◌∷◌, ℕ, List, ap, arith, drop, refl, slice_set}
use Rattle.disk.specs.Disk.{Device}
use Rattle.torn_block.specs.declared.block.TheConstants.{OPEN_GATE}
use Rattle.torn_block.specs.declared.layout.TheConstants.{HEADER_LENGTH}
use Rattle.paxos_block.specs.Headers as older
use Rattle.paxos_block.specs.Shape.{Shape}
use Rattle.endless_image.specs.Headers.{header_with}
use Rattle.endless_image.specs.Kinds.{header_by, size_by}
use Rattle.endless_image.specs.declared.kind.Kind.{Kind}
use Rattle.endless_image.specs.declared.kind.Kind.TheVariants.{Ending, Endless}
use Rattle.folders.specs.Finishing.{HaveSize}
use Rattle.folders.specs.Formatting.{HaveRoom}
use Rattle.log_folders.specs.Layout.{with_closed_gate}
use Rattle.log_folders.specs.NewSets.{Wanted, header_for, size_for}

-- ROOM

has_room : (kind : Kind) (slots : ℕ) → HEADER_LENGTH ≤ size_by kind slots
has_room Ending slots = omega arith
has_room Endless slots = omega arith

pub room_for_header : (set : Wanted) → HEADER_LENGTH ≤ size_for set
room_for_header set = has_room set.kind set.config.slots

-- so each disk that has room for an image has room for a gate
pub room_for_gate : {D : Type 0} (device : D → Device) (set : Wanted) (disks : List D) → HaveRoom device (size_for set) disks → HaveRoom device 1 disks
room_for_gate device set disks room k disk at =
    let large : size_for set ≤ (device disk).size = room k disk at in
    let header : HEADER_LENGTH ≤ size_for set = room_for_header set in
    omega (arith, large, header)

pub sizes_are_room : {D : Type 0} (device : D → Device) (size : ℕ) (disks : List D) → HaveSize device size disks → HaveRoom device size disks
sizes_are_room device size disks sizes k disk at = let long : (device disk).size ≡ size = sizes k disk at in omega (arith, long)

-- GATES

begins : (kind : Kind) (disk : ℕ) (config : Shape) (cluster : ℕ) → header_by kind disk config cluster ≡ OPEN_GATE ∷ drop 1 (header_by kind disk config cluster)
unfolding older.header_saying header_with
begins Ending disk config cluster = refl
begins Endless disk config cluster = refl

-- its first bytes begin with an open gate
pub begins_open : (set : Wanted) (disk : ℕ) → header_for set disk ≡ OPEN_GATE ∷ drop 1 (header_for set disk)
begins_open set disk = begins set.kind disk set.config set.cluster

-- so a closed gate is put in its place
pub closing : (set : Wanted) (disk : ℕ) (bytes : List ℕ) → bytes ≡ header_for set disk → slice_set bytes 0 0 ≡ with_closed_gate (header_for set disk)
closing set disk bytes is = ap (λ (l : List ℕ). slice_set l 0 0) (is ∙ begins_open set disk)
