-- That what is done to a disk is, for each epoch, what is done to the image that it shows.
use Rattle.std.specs.Prelude.{◌≡◌, ◌+◌, ◌≤◌, ℕ, false, List, Bool, length, replicate}
use Rattle.disk.specs.Disk.{DiskState, Call, Write, Answer, Step, Crashes, Torn, lost}
use Rattle.disk.specs.Simulated.{fresh_disk}
use Rattle.epochs.specs.Showing.{Standing, Before, ShowsEpoch, moved, masked_in, IsOf, IsElsewhere, Restands}

-- the disk shows an image that the old one goes to
abbrev pub ShowsNext : (n base : ℕ) → (ℕ → Standing) → DiskState → (DiskState → Type 0) → Type 0
ShowsNext n base of whole IsNext = (image : DiskState) × IsNext image × ShowsEpoch n base of whole image

-- A call of a host of the epoch is that call on the image, with the answer that the host is given.
abbrev pub OwnCallsAreSteps : Type 0
OwnCallsAreSteps =
    (n base : ℕ) (of : ℕ → Standing) (shown : ℕ → Bool) (whole new image : DiskState) (call : Call) (answer : Answer) → ShowsEpoch n base of whole image → IsOf n base of shown whole image call →
    Step whole (moved base call) answer new → ShowsNext n base of new (λ left. Step image call (masked_in shown answer) left)

-- A write within which its host stopped is one on the image.
abbrev pub OwnTearsAreTears : Type 0
OwnTearsAreTears =
    (n base : ℕ) (of : ℕ → Standing) (shown : ℕ → Bool) (whole new image : DiskState) (boot at : ℕ) (from : List ℕ) → ShowsEpoch n base of whole image → IsOf n base of shown whole image (Write boot at from) →
    Torn (base + at) (length from) whole new → ShowsNext n base of new (λ left. Torn at (length from) image left)

-- What else is done, by hosts of other epochs and by hosts that come or leave, leaves the image as it is.
abbrev pub OthersLeaveIt : Type 0
OthersLeaveIt =
    (n base : ℕ) (of : ℕ → Standing) (whole new image : DiskState) (call : Call) (answer : Answer) → ShowsEpoch n base of whole image → IsElsewhere n base of whole call → Step whole call answer new →
    ShowsEpoch n base of new image

-- A crash of the disk is one of each image,
abbrev pub CrashesAreCrashes : Type 0
CrashesAreCrashes =
    (n base : ℕ) (of : ℕ → Standing) (whole new image : DiskState) → ShowsEpoch n base of whole image → Crashes whole new → ShowsNext n base of new (λ left. Crashes image left)

-- and its loss a loss.
abbrev pub LossesAreLosses : Type 0
LossesAreLosses = (n base : ℕ) (of : ℕ → Standing) (whole image : DiskState) → ShowsEpoch n base of whole image → ShowsEpoch n base of (lost whole) (lost image)

-- Hosts that have cleared their blocks come to the epoch, and others leave it, and nothing is changed by that: the blocks of those that leave stand in the image as
-- they left them, whatever becomes of them.
abbrev pub StandingsChangeNothing : Type 0
StandingsChangeNothing =
    (n base : ℕ) (old new : ℕ → Standing) (whole image : DiskState) → ShowsEpoch n base old whole image → ((host : ℕ) → Restands n base host (old host) (new host) whole) → ShowsEpoch n base new whole image

-- At first each area shows zeros, whoever is inside of the first epoch and whoever has not come to a later one.
abbrev pub FreshDisksShowNothing : Type 0
FreshDisksShowNothing =
    (n base size : ℕ) (of : ℕ → Standing) → base + n ≤ size → ShowsEpoch n base of (fresh_disk size) (fresh_disk n)

-- And any disk shows zeros of an epoch to which nobody has come.
abbrev pub NobodyShowsNothing : Type 0
NobodyShowsNothing =
    (n base : ℕ) (whole : DiskState) → base + n ≤ length whole.bytes → length whole.unsynced ≡ length whole.bytes →
    ShowsEpoch n base (λ host. Before) whole (record { bytes = replicate n 0; unsynced = replicate n false; boot = whole.boot; gone = whole.gone })
