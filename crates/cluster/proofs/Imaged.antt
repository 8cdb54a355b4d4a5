-- What a host's call does to a disk it does to the image on it.
use Rattle.std.proofs.Common.{◌≡◌, ℕ, arith}
use Rattle.disk.specs.Disk.{DiskState, Call, Attach, Read, Write, Sync, Answer}
use Rattle.disk.specs.Cut.{cut, HasFirst, IsInFirst}
use Rattle.disk.specs.Steps.{WritesOn}
use Rattle.disk.proofs.CutLemmas.{cut_steps, first_stay, first_of_fresh}
use Rattle.torn_block.specs.Layout.{cluster_version}
use Rattle.paxos_block.specs.Places.{image_length}
use Rattle.paxos_block.specs.Shape.{Shape}
use Rattle.world.specs.World.{opening_disk}
use Rattle.std.proofs.lemmas.List.{length-take-le}
use Rattle.cluster_tie.specs.Parts.{Own}
use Rattle.cluster.specs.Book.{image_on, Makes}
use Rattle.cluster.specs.Seat.{due_in}

fits_image : (n : ℕ) (disk : DiskState) (call : Call) → HasFirst n disk → IsInFirst n call → WritesOn (cut n disk) call
fits_image n disk Attach has within = tt
fits_image n disk (Read boot at len) has within = tt
fits_image n disk (Write boot at from) has within = omega (arith, within, length-take-le n disk.bytes has.0)
fits_image n disk (Sync boot) has within = tt

pub opened : (c : Shape) (disk : DiskState) → image_on c disk ≡ opening_disk c → HasFirst (image_length cluster_version c.slots) disk
opened c disk fresh = first_of_fresh (image_length cluster_version c.slots) disk fresh

pub stays : (c : Shape) (seat : Own) (k : ℕ) (answer : Answer) (old new : DiskState)
    → HasFirst (image_length cluster_version c.slots) old → IsInFirst (image_length cluster_version c.slots) (due_in c seat).1 → Makes c seat k answer old new → HasFirst (image_length cluster_version c.slots) new
stays c seat k answer old new has within made = first_stay (image_length cluster_version c.slots) old new (due_in c seat).1 answer has within made.step

pub makes : (c : Shape) (seat : Own) (k : ℕ) (answer : Answer) (old new : DiskState)
    → HasFirst (image_length cluster_version c.slots) old → IsInFirst (image_length cluster_version c.slots) (due_in c seat).1 → Makes c seat k answer old new → Makes c seat k answer (image_on c old) (image_on c new)
makes c seat k answer old new has within made =
    record {
      due = made.due;
      fits = fits_image (image_length cluster_version c.slots) old (due_in c seat).1 has within;
      step = cut_steps (image_length cluster_version c.slots) old new (due_in c seat).1 answer has within made.step;
    }
