-- The first bytes of an image that is to be made.
use Rattle.std.specs.Prelude.{◌≡◌, ◌⊎◌, ℕ, ℤ}
use Rattle.torn_block.specs.Layout.{cluster_version}
use Rattle.paxos_block.specs.declared.header.Header.{Header}
use Rattle.paxos_block.specs.Headers.{IsHeader, header_saying}
use Rattle.paxos_block.specs.Places.{image_length}
use Rattle.c_host.specs.declared.header.HeaderBytes.{HeaderBytes}
use Rattle.c_host.specs.Numbers.{done, bad_argument}

abbrev pub header_with : (disks slots cluster disk : ℕ) → Header
header_with disks slots cluster disk = record { disk = disk; disks = disks; slots = slots; cluster = cluster }

-- There may be such an image, and C is given its size and its first bytes; or there is none, and nothing is changed.
abbrev pub LaysOut : (disks slots cluster disk : ℕ) → HeaderBytes → HeaderBytes → ℤ → Type 0
LaysOut disks slots cluster disk old new status =
    let header = header_with disks slots cluster disk in
    ((status ≡ done) × IsHeader header × (new ≡ record { size = image_length cluster_version slots; bytes = header_saying cluster_version header }))
    ⊎ ((status ≡ bad_argument) × (IsHeader header → ⊥) × (new ≡ old))
