-- A call within one block leaves the bytes of the others, and so what a row shows of them.
use Rattle.std.specs.Prelude.{if◌then◌else◌}
use Rattle.std.proofs.Common.{ℕ, zero, suc, ◌<◌, ◌≤◌, ◌≡◌, ◌≢◌, inl, inr, Bool, true, false, Some, None, List, [], ◌∷◌, length, refl, sym, ap, ◌∙◌, arith}
use Rattle.std.proofs.lemmas.Bool.{cases_lt}
use Rattle.std.proofs.lemmas.List.FromFn.{get_or-map-range_with_len}
use Rattle.disk.specs.Disk.{DiskState, Call, Answer, Step, put_at}
use Rattle.disk.proofs.CrashLemmas.{length-put, put-below, put-above}
use Rattle.disk.proofs.StepLemmas.{step_keeps}
use Rattle.torn_block.specs.Layout.{cluster_version}
use Rattle.torn_block.specs.declared.layout.TheConstants.{HOSTS}
use Rattle.torn_block.specs.Block.{value_of}
use Rattle.torn_block.specs.Damage.{block_of, has_damage}
use Rattle.torn_block.specs.Place.{block_in}
use Rattle.torn_block.proofs.PlaceLaws.{block_elsewhere}
use Rattle.torn_block.specs.Register.{LiesOn}
use Rattle.torn_block.proofs.RegisterLaws.{ranges}
use Rattle.paxos_block.specs.Saying.{Said as PBlock}
use Rattle.paxos_block.specs.Places.{Spot, VoteOf, place_of, IsSpot, IsImage, IsWithin, row_of}
use Rattle.paxos_block.specs.Row.{DecodedBlock, blank_seen, is_sound, seen_in, seen_at, says_of, row_seen, decoded_row}
use Rattle.paxos_block.specs.Votes.{says_in}
use Rattle.paxos_block.proofs.PlaceLemmas.{spot_fits, writes_on, leaves_other, block_of-row_of}

-- the bytes of another block are as before
pub block_kept : (slots : ℕ) (mine other : Spot) (disk new : DiskState) (call : Call) (answer : Answer) → IsSpot cluster_version slots mine → IsSpot cluster_version slots other → mine ≢ other → IsImage cluster_version slots disk → IsWithin cluster_version mine call → Step disk call answer new
    → block_in cluster_version (place_of cluster_version other) new.bytes ≡ block_in cluster_version (place_of cluster_version other) disk.bytes
block_kept slots mine other disk new call answer is_mine is_other differ image within step =
    let lies : LiesOn cluster_version (place_of cluster_version other) disk = omega (arith, spot_fits cluster_version slots other is_other, image.long) in
    let fits = writes_on cluster_version slots mine is_mine disk image call within in
    let leaves = leaves_other cluster_version slots mine is_mine disk image other is_other differ call within in
    step_keeps (λ (d : DiskState). block_in cluster_version (place_of cluster_version other) d.bytes ≡ block_in cluster_version (place_of cluster_version other) disk.bytes) disk new call answer
    (record {
      writes = λ boot at from left is as_many.
          (let range = ranges cluster_version (place_of cluster_version other) disk image.whole lies call answer new fits leaves step boot at from left is as_many in
          block_elsewhere cluster_version (place_of cluster_version other) at (length left) disk.bytes (put_at disk.bytes at left) lies
          (record { as_many = length-put disk.bytes at left range.0 0; below = put-below disk.bytes at left range.0 0; above = put-above disk.bytes at left range.0 0 })
          range.1);
      syncs = refl;
      stays = refl;
    })
    step

-- A ROW

-- a sound row is its blocks
pub row_is_seen : (bytes : List ℕ) (row : List DecodedBlock) → decoded_row cluster_version bytes ≡ Some row → row ≡ row_seen cluster_version bytes
unfolding decoded_row
row_is_seen bytes row is = go (has_damage cluster_version (is_sound cluster_version) bytes) is
  where
    go : (b : Bool) → (if b then None else Some (row_seen cluster_version bytes)) ≡ Some row → row ≡ row_seen cluster_version bytes
    go true is = absurd (cc)
    go false is = (let same : row_seen cluster_version bytes ≡ row = cc in sym same)

-- each block of a row is shown as it stands
seen_at-row_seen : (bytes : List ℕ) (host : ℕ) → host < HOSTS → seen_at (row_seen cluster_version bytes) host ≡ seen_in cluster_version (block_of cluster_version host bytes)
seen_at-row_seen bytes host below = get_or-map-range_with_len (λ h. seen_in cluster_version (block_of cluster_version h bytes)) 0 HOSTS host host blank_seen below (omega arith)

-- of a host that there is not it shows a blank block
beyond : (row : List DecodedBlock) (g : ℕ) → length row ≤ g → seen_at row g ≡ blank_seen
beyond [] g long = refl
beyond (x ∷ row) zero long = absurd (omega arith)
beyond (x ∷ row) (suc g) long = beyond row g (omega arith)

-- what the row of a slot would show of a host now
abbrev pub shown : DiskState → ℕ → ℕ → PBlock
shown disk slot g = says_in (row_seen cluster_version (row_of cluster_version slot disk.bytes)) g

-- of a host it shows what its block says
pub shown_is : (slot g : ℕ) (disk : DiskState) → g < HOSTS
    → shown disk slot g ≡ says_of cluster_version (value_of cluster_version (block_in cluster_version (place_of cluster_version (VoteOf slot g)) disk.bytes))
shown_is slot g disk below = ap (λ (b : DecodedBlock). b.says) (seen_at-row_seen (row_of cluster_version slot disk.bytes) g below ∙ ap (seen_in cluster_version) (block_of-row_of cluster_version slot g disk.bytes below))

-- so what it shows of a host, whose block is another than the call's, is as before
pub shown_beside : (slots slot g : ℕ) (mine : Spot) (disk new : DiskState) (call : Call) (answer : Answer) → slot < slots → IsSpot cluster_version slots mine → mine ≢ VoteOf slot g → IsImage cluster_version slots disk → IsWithin cluster_version mine call → Step disk call answer new
    → shown new slot g ≡ shown disk slot g
shown_beside slots slot g mine disk new call answer slot_below is_mine differ image within step =
    elim (cases_lt g HOSTS) [
      | inl below ↦
          ap (λ (b : DecodedBlock). b.says)
          (seen_at-row_seen (row_of cluster_version slot new.bytes) g below
          ∙ ap (seen_in cluster_version)
          (block_of-row_of cluster_version slot g new.bytes below
          ∙ block_kept slots mine (VoteOf slot g) disk new call answer is_mine (slot_below, below) differ image within step
          ∙ sym (block_of-row_of cluster_version slot g disk.bytes below))
          ∙ sym (seen_at-row_seen (row_of cluster_version slot disk.bytes) g below))
      | inr over ↦ ap (λ (b : DecodedBlock). b.says) (beyond (row_seen cluster_version (row_of cluster_version slot new.bytes)) g over ∙ sym (beyond (row_seen cluster_version (row_of cluster_version slot disk.bytes)) g over))
    ]

pub shown_kept : (slots slot host g : ℕ) (disk new : DiskState) (call : Call) (answer : Answer) → slot < slots → host < HOSTS → g ≢ host → IsImage cluster_version slots disk → IsWithin cluster_version (VoteOf slot host) call → Step disk call answer new
    → shown new slot g ≡ shown disk slot g
shown_kept slots slot host g disk new call answer slot_below host_below off =
    shown_beside slots slot g (VoteOf slot host) disk new call answer slot_below (slot_below, host_below) (λ same. off (let one : host ≡ g = cc in sym one))
