-- Where blocks of standings and areas lie on a disk, and that a beat writes in its own block alone.
use Rattle.std.specs.Prelude.{◌⊎◌, if◌then◌else◌}
use Rattle.std.proofs.Common.{ℕ, zero, suc, ◌≡◌, ◌+◌, ◌≤◌, ◌<◌, Bool, true, false, List, [], ◌∷◌, length, refl, inl, inr, arith}
use Rattle.std.proofs.lemmas.Bool.{cases_order}
use Rattle.disk.specs.Disk.{DiskState, Call, Attach, Read, Write, Sync}
use Rattle.torn_block.specs.Layout.{cluster_version, body_length}
use Rattle.torn_block.specs.declared.write_steps.WriteCall.{WriteCall}
use Rattle.torn_block.specs.declared.write_steps.WriteCall.TheVariants.{CloseGate, SyncClosed, PutBody, SyncBody, OpenGate, SyncOpened}
use Rattle.torn_block.specs.Block.{is_open, copy_of, target_of, next_sequence}
use Rattle.torn_block.specs.Place.{offset_of}
use Rattle.torn_block.specs.Register.{LiesOn}
use Rattle.torn_block.specs.Stage.{Write128, call_of}
use Rattle.torn_block.proofs.PlaceLaws.{offset_fits, length-tail_with}
use Rattle.heartbeat.specs.Beat.{beat_body}
use Rattle.epochs.specs.Showing.{host_at}
use Rattle.epochs.specs.Numbers.{write_over}
use Rattle.epochs.specs.Acts.{base_of}
use Rattle.epochs.specs.Bytes.{number_place}

-- BLOCKS OF STANDINGS

-- the body of a beat is as long as a body is
pub body_fits : length beat_body ≡ body_length cluster_version
unfolding beat_body
body_fits = refl

-- two blocks of standings are one, or have no byte in common
pub blocks_apart : (n a g area host : ℕ) → a < 2 → g < 16 → area < 2 → host < 16 →
    ((a ≡ area) × (g ≡ host)) ⊎ (number_place n a g + 256 ≤ number_place n area host) ⊎ (number_place n area host + 256 ≤ number_place n a g)
blocks_apart n a g area host is_a is_g is_area is_host =
    elim (cases_order a area) [
      | inl same ↦
          elim (cases_order g host) [
            | inl own ↦ inl (same, own)
            | inr (inl below) ↦ inr (inl (omega (arith, same, below)))
            | inr (inr above) ↦ inr (inr (omega (arith, same, above)))
          ]
      | inr (inl below) ↦ inr (inl (omega (arith, below, is_g)))
      | inr (inr above) ↦ inr (inr (omega (arith, above, is_host)))
    ]

pub lies_on : (n area host : ℕ) (whole : DiskState) → area < 2 → host < 16 → 4096 ≤ n → 4096 + n + n ≤ length whole.bytes → LiesOn cluster_version (number_place n area host) whole
lies_on n area host whole is_area is_host row room = omega (arith, is_area, is_host, row, room)

-- the write of a host's block in a row of standings
abbrev written_over : (n area host : ℕ) → List ℕ → Write128
written_over n area host block = write_over (number_place n area host) block beat_body

-- its call writes in the host's block alone
unfoldable pub InBlock : ℕ → Call → Type 0
InBlock place Attach = Unit {0}
InBlock place (Read boot at len) = Unit {0}
InBlock place (Write boot at from) = (place ≤ at) × (at + length from ≤ place + 256)
InBlock place (Sync boot) = Unit {0}

closing_length : (opened : Bool) → length {A = ℕ} (if opened then 0 ∷ [] else []) ≤ 1
closing_length true = omega arith
closing_length false = omega arith

pub write_in : (n area host : ℕ) (block : List ℕ) (boot : ℕ) (due : WriteCall) → InBlock (number_place n area host) (call_of due (written_over n area host block) boot)
unfolding InBlock
write_in n area host block boot CloseGate =
    let short = closing_length (is_open (copy_of cluster_version (target_of cluster_version block) block)) in
    let within : offset_of cluster_version (target_of cluster_version block) + 128 ≤ 256 = offset_fits cluster_version (target_of cluster_version block) in (omega arith, omega (arith, short, within))
write_in n area host block boot SyncClosed = tt
write_in n area host block boot PutBody =
    let long = length-tail_with cluster_version (next_sequence cluster_version block) beat_body body_fits in
    let within : offset_of cluster_version (target_of cluster_version block) + 128 ≤ 256 = offset_fits cluster_version (target_of cluster_version block) in (omega arith, omega (arith, long, within))
write_in n area host block boot SyncBody = tt
write_in n area host block boot OpenGate =
    let within : offset_of cluster_version (target_of cluster_version block) + 128 ≤ 256 = offset_fits cluster_version (target_of cluster_version block) in (omega arith, omega (arith, within))
write_in n area host block boot SyncOpened = tt

-- AREAS

pub area_room : (n area size : ℕ) → area < 2 → 4096 + n + n ≤ size → base_of n area + n ≤ size
area_room n zero size is_area room = omega (arith, room)
area_room n (suc area) size is_area room = omega (arith, room)

pub few_at : (p : ℕ) → host_at p < 16
few_at p = omega arith

-- rows of standings are in no area
pub off_rows : (n area at len p : ℕ) → area < 2 → n ≤ at → at + len ≤ n + 8192 → 4096 ≤ p → p < n → (base_of n area + p < at) ⊎ (at + len ≤ base_of n area + p)
off_rows n zero at len p is_area from_there ends high below = inl (omega (arith, below, from_there))
off_rows n (suc area) at len p is_area from_there ends high below = inr (omega (arith, ends, high))

-- what is written in an area is in no row of standings, and of no other area
pub off_area : (n area at len : ℕ) → area < 2 → 4096 ≤ at → at + len ≤ n → (base_of n area + at + len ≤ n) ⊎ (n + 4096 + 4096 ≤ base_of n area + at)
off_area n zero at len is_area high ends = inl (omega (arith, ends))
off_area n (suc area) at len is_area high ends = inr (omega (arith, high))

pub within_area : (n area at len a p : ℕ) → area < 2 → a < 2 → 4096 ≤ at → at + len ≤ n → 4096 ≤ p → p < n → base_of n area + at ≤ base_of n a + p → base_of n a + p < base_of n area + at + len → (a ≡ area) × (at ≤ p) × (p < at + len)
within_area n zero at len zero p is_area is_a high ends p_high p_below from_there within = (refl, omega (arith, from_there), omega (arith, within))
within_area n zero at len (suc a) p is_area is_a high ends p_high p_below from_there within = absurd (omega (arith, within, ends))
within_area n (suc area) at len zero p is_area is_a high ends p_high p_below from_there within = absurd (omega (arith, from_there, p_below))
within_area n (suc area) at len (suc a) p is_area is_a high ends p_high p_below from_there within =
    ((let one : suc a ≡ suc area = omega (arith, is_area, is_a) in one), omega (arith, from_there), omega (arith, within))
