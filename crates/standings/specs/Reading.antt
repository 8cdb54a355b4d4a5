-- What a host of an epoch calls on its image, and what it is shown of a row by two readings of the standings.
use Rattle.std.specs.Prelude.{◌≡◌, ◌+◌, ◌≤◌, ◌<◌, ◌==◌, ◌&&◌, ℕ, Bool, List, length, map, replicate, slice_index, slice_index_or, if◌then◌else◌}
use Rattle.std.specs.List.{range_with_len}
use Rattle.disk.specs.Disk.{Call, Attach, Read, Write, Sync, Answer, Booted, Told, Done, Fault}
use Rattle.torn_block.specs.Layout.{cluster_version}
use Rattle.torn_block.specs.declared.layout.TheConstants.{HOSTS, BLOCK_LENGTH}
use Rattle.torn_block.specs.Damage.{block_of}
use Rattle.heartbeat.specs.Beat.{counter_of}
use Rattle.standings.specs.declared.epoch.Epoch.{Epoch}
use Rattle.standings.specs.Epochs.{host_at}

-- the call on the image, as it is made on the whole disk
abbrev pub moved : ℕ → Call → Call
moved base Attach = Attach
moved base (Read boot at len) = Read boot (base + at) len
moved base (Write boot at from) = Write boot (base + at) from
moved base (Sync boot) = Sync boot

abbrev pub zero_block : List ℕ
zero_block = replicate BLOCK_LENGTH 0

-- a row with zeros in the place of the blocks of hosts that are not to be shown
unfoldable pub masked : (ℕ → Bool) → List ℕ → List ℕ
masked shown row = map (λ o. if shown (host_at o) then slice_index_or row o 0 else 0) (range_with_len 0 (length row))

-- the answer that the host is given
abbrev pub masked_in : (ℕ → Bool) → Answer → Answer
masked_in shown (Booted boot) = Booted boot
masked_in shown (Told bytes) = Told (masked shown bytes)
masked_in shown Done = Done
masked_in shown (Fault fault) = Fault fault

-- TWO READINGS OF THE STANDINGS

-- the numbers of the hosts in a row of standings
abbrev pub numbers_in : List ℕ → ℕ → ℕ
numbers_in row host = counter_of (block_of cluster_version host row)

-- who has the epoch's number in both readings
abbrev pub shown_by : Epoch → (ℕ → ℕ) → (ℕ → ℕ) → ℕ → Bool
shown_by e first second host = (first host == e.number) && (second host == e.number)

-- No host has left by the second reading, and who is inside by then was inside in the first.
abbrev pub AreClear : Epoch → (ℕ → ℕ) → (ℕ → ℕ) → Type 0
AreClear e first second = (host : ℕ) → host < HOSTS → (second host ≤ e.number) × (second host ≡ e.number → first host ≡ e.number)

-- the same of numbers that are told by host: who is shown, by host
abbrev pub shown_in : Epoch → List ℕ → List ℕ → List Bool
shown_in e first second = map (shown_by e (slice_index first) (slice_index second)) (range_with_len 0 HOSTS)

-- Some host has left the epoch by this reading.
abbrev pub HasPassed : Epoch → (ℕ → ℕ) → Type 0
HasPassed e numbers = (host : ℕ) × (host < HOSTS) × (e.number < numbers host)
