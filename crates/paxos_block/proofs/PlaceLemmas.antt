-- Blocks at different spots have no byte in common, so a call within one leaves what the others hold.
use Rattle.std.specs.Prelude.{◌≡◌, ◌≢◌, ◌⊎◌, ◌+◌, ◌-◌, ◌*◌, ◌≤◌, ◌<◌, ℕ, List, Some, length, take, drop, slice_range}
use Rattle.std.proofs.Common.{refl, sym, ◌∙◌, ap, subst, arith, inl, inr}
use Rattle.std.proofs.lemmas.List.{drop-drop, take-take, drop-take}
use Rattle.std.proofs.lemmas.Bool.{cases_order}
use Rattle.disk.specs.Disk.{DiskState, Call, Attach, Read, Write, Sync, Answer, Step}
use Rattle.disk.proofs.CrashLemmas.{may_leave_now, may_leave_synced, may_leave_written}
use Rattle.disk.specs.Steps.{WritesOn}
use Rattle.disk.proofs.StepLemmas.{shape_keeps, step_keeps}
use Rattle.torn_block.specs.declared.write_steps.WriteCall.{WriteCall}
use Rattle.torn_block.specs.Block.{value_of}
use Rattle.torn_block.specs.Stage.{Write128, IsDue, IsPlaced}
use Rattle.torn_block.proofs.StageLaws.{due_elsewhere}
use Rattle.torn_block.specs.Place.{block_in}
use Rattle.torn_block.proofs.PlaceLaws.{block_elsewhere}
use Rattle.torn_block.specs.Register.{Register, Reads, LiesOn, LeavesBlock}
use Rattle.torn_block.proofs.RegisterLaws.{ranges, stands_elsewhere}
use Rattle.std.specs.Prelude.{slice_index_or}
use Rattle.std.specs.List.{HoldsAt}
use Rattle.paxos_block.specs.declared.row.Row.{Row}
use Rattle.paxos_block.specs.Row.{IsRow, DecodedBlock, seen_in, seen_at, decoded_row}
use Rattle.paxos_block.proofs.Outcomes.{Outcomes}
use Rattle.paxos_block.proofs.RowLemmas.{said_sees}
use Rattle.torn_block.specs.Damage.{block_of}
use Rattle.paxos_block.specs.Places.{CellReads, SeenReads, Spot, BeatOf, VoteOf, place_of, row_place, image_length, IsSpot, IsImage, IsWithin, Holds, row_of, area_of}
use Rattle.torn_block.specs.Layout.{Version, hosts_in, block_length, row_length, area_place}
use Rattle.torn_block.proofs.LayoutLaws.{blocks_follow, row_holds, rows_follow}

abbrev Apart : Version → Spot → Spot → Type 0
Apart v a b = (place_of v a + block_length v ≤ place_of v b) ⊎ (place_of v b + block_length v ≤ place_of v a)

votes_apart : (v : Version) (slots s h t k : ℕ) → IsSpot v slots (VoteOf s h) → IsSpot v slots (VoteOf t k) → (s ≡ t → h ≢ k) → Apart v (VoteOf s h) (VoteOf t k)
votes_apart v slots s h t k is_a is_b differ =
    elim (cases_order s t) [
      | inl same ↦
          (let rows : row_length v * s ≡ row_length v * t = ap (λ (n : ℕ). row_length v * n) same in
          elim (cases_order h k) [
            | inl equal ↦ absurd (differ same equal)
            | inr (inl below) ↦ inl (omega (arith, rows, blocks_follow v h k below))
            | inr (inr above) ↦ inr (omega (arith, rows, blocks_follow v k h above))
          ])
      | inr (inl below) ↦ inl (omega (arith, rows_follow v s t below, row_holds v h is_a.1))
      | inr (inr above) ↦ inr (omega (arith, rows_follow v t s above, row_holds v k is_b.1))
    ]

pub spots_apart : (v : Version) (slots : ℕ) (a b : Spot) → IsSpot v slots a → IsSpot v slots b → a ≢ b → Apart v a b
spots_apart v slots (BeatOf h) (BeatOf k) is_a is_b differ =
    elim (cases_order h k) [
      | inl equal ↦ absurd (differ (ap BeatOf equal))
      | inr (inl below) ↦ inl (omega (arith, blocks_follow v h k below))
      | inr (inr above) ↦ inr (omega (arith, blocks_follow v k h above))
    ]
spots_apart v slots (BeatOf h) (VoteOf t k) is_a is_b differ = inl (omega (arith, row_holds v h is_a))
spots_apart v slots (VoteOf s h) (BeatOf k) is_a is_b differ = inr (omega (arith, row_holds v k is_b))
spots_apart v slots (VoteOf s h) (VoteOf t k) is_a is_b differ = votes_apart v slots s h t k is_a is_b (λ same equal. differ (λ i. VoteOf (same i) (equal i)))

pub spot_fits : (v : Version) (slots : ℕ) (a : Spot) → IsSpot v slots a → place_of v a + block_length v ≤ image_length v slots
spot_fits v slots (BeatOf h) is = omega (arith, row_holds v h is)
spot_fits v slots (VoteOf s h) is = omega (arith, rows_follow v s slots is.0, row_holds v h is.1)

-- ---- what a call within one block leaves

module _ (v : Version) (slots : ℕ) (mine : Spot) (is_mine : IsSpot v slots mine) (disk : DiskState) (image : IsImage v slots disk) where
  pub writes_on : (call : Call) → IsWithin v mine call → WritesOn disk call
  writes_on Attach within = tt
  writes_on (Read boot at len) within = tt
  writes_on (Write boot at from) within = omega (arith, spot_fits v slots mine is_mine, image.long)
  writes_on (Sync boot) within = tt

  pub stays_image : (call : Call) (answer : Answer) (new : DiskState) → IsWithin v mine call → Step disk call answer new → IsImage v slots new
  stays_image call answer new within step =
      let shape = shape_keeps (image_length v slots) disk new call answer (image.whole, image.long) (writes_on call within) step in
      record { whole = shape.0; long = shape.1 }

  module _ (other : Spot) (is_other : IsSpot v slots other) (differ : mine ≢ other) where
    lies_on : LiesOn v (place_of v other) disk
    lies_on = omega (arith, spot_fits v slots other is_other, image.long)

    pub leaves_other : (call : Call) → IsWithin v mine call → LeavesBlock v (place_of v other) call
    leaves_other Attach within = tt
    leaves_other (Read boot at len) within = tt
    leaves_other (Write boot at from) within =
        elim (spots_apart v slots mine other is_mine is_other differ) [ inl a ↦ inl (omega arith) | inr b ↦ inr (omega arith) ]
    leaves_other (Sync boot) within = tt

    pub others_hold : (call : Call) (answer : Answer) (new : DiskState) (r : Register) → IsWithin v mine call → Step disk call answer new → Holds v disk other r → Holds v new other r
    others_hold call answer new r within step holds =
        stands_elsewhere v (place_of v other) disk image.whole lies_on call answer new (writes_on call within) (leaves_other call within) step r holds

    -- what a crash may make of the other block then
    pub others_outcomes : (call : Call) (answer : Answer) (new : DiskState) → IsWithin v mine call → Step disk call answer new → Outcomes v disk (place_of v other) new
    others_outcomes call answer new within step =
        step_keeps (Outcomes v disk (place_of v other)) disk new call answer
        (record {
          writes =
              λ boot at from left is as_many bytes may.
              let range = ranges v (place_of v other) disk image.whole lies_on call answer new (writes_on call within) (leaves_other call within) step boot at from left is as_many in
              let a = may_leave_written disk at left bytes image.whole range.0 may in
              (a.0, a.1, block_elsewhere v (place_of v other) at (length left) a.0 bytes (omega (arith, a.1.as_many, lies_on)) a.2 range.1);
          syncs = λ bytes may. (disk.bytes, may_leave_now disk, ap (block_in v (place_of v other)) (may_leave_synced disk bytes may));
          stays = λ bytes may. (bytes, may, refl);
        })
        step

    pub others_stay_due : (w : Write128) (due_call : WriteCall) (call : Call) (answer : Answer) (new : DiskState) → w.version ≡ v → w.place ≡ place_of v other → IsPlaced w disk → IsWithin v mine call → Step disk call answer new → IsDue due_call w disk → IsDue due_call w new
    others_stay_due w due_call call answer new by at_other placed within step due =
        due_elsewhere w disk placed due_call call answer new (writes_on call within) (subst (λ (u : Version). LeavesBlock u w.place call) (sym by) (subst (λ (p : ℕ). LeavesBlock v p call) (sym at_other) (leaves_other call within))) step due

-- ---- a row read is its blocks

part_of : (v : Version) → (bytes : List ℕ) (place n : ℕ) → n + block_length v ≤ row_length v → block_in v n (slice_range bytes place (place + row_length v)) ≡ block_in v (place + n) bytes
part_of v bytes place n within =
    let block : (n + block_length v) - n ≡ block_length v = omega arith in
    let row : (place + row_length v) - place ≡ row_length v = omega arith in
    let rest : n + (row_length v - n) ≡ row_length v = omega arith in
    let again : block_length v ≡ (place + n + block_length v) - (place + n) = omega arith in
    let part = drop place bytes in
    ap (λ (k : ℕ). take k (drop n (slice_range bytes place (place + row_length v)))) block
    ∙ ap (λ (k : ℕ). take (block_length v) (drop n (take k part))) (row ∙ sym rest)
    ∙ ap (take (block_length v)) (drop-take n (row_length v - n) part)
    ∙ take-take (block_length v) (row_length v - n) (drop n part) (omega arith)
    ∙ ap (take (block_length v)) (drop-drop n place bytes)
    ∙ ap (λ (k : ℕ). take k (drop (place + n) bytes)) again

pub block_of-row_of : (v : Version) → (slot host : ℕ) (bytes : List ℕ) → host < (hosts_in v) → block_of v host (row_of v slot bytes) ≡ block_in v (place_of v (VoteOf slot host)) bytes
block_of-row_of v slot host bytes below = part_of v bytes (row_place v slot) (block_length v * host) (omega (arith, row_holds v host below))

pub block_of-area_of : (v : Version) → (host : ℕ) (bytes : List ℕ) → host < (hosts_in v) → block_of v host (area_of v bytes) ≡ block_in v (place_of v (BeatOf host)) bytes
block_of-area_of v host bytes below = part_of v bytes (area_place v) (block_length v * host) (omega (arith, row_holds v host below))

-- what a row that is read shows of a host is what its block may read as
pub shown : (v : Version) (spelled : List ℕ → List ℕ) (disk : DiskState) (slot host : ℕ) (r : Register) (row : Row (List ℕ)) → host < (hosts_in v) → Holds v disk (VoteOf slot host) r → IsRow v spelled (row_of v slot disk.bytes) row → HoldsAt (CellReads v spelled r) row.cells host
shown v spelled disk slot host r row below holds is d =
    let cell = slice_index_or row.cells host d in
    let is_cell = is.cells host below d in
    let value = value_of v (block_of v host (row_of v slot disk.bytes)) in
    let there : value ≡ value_of v (block_in v (place_of v (VoteOf slot host)) disk.bytes) = ap (value_of v) (block_of-row_of v slot host disk.bytes below) in
    record {
      value = value;
      reads = subst (Reads r) (sym there) (holds disk.bytes (may_leave_now disk));
      number = is_cell.read.number;
      says = is_cell.says;
    }

module _ (v : Version) (disk : DiskState) (slot host : ℕ) (seen : List DecodedBlock) (below : host < (hosts_in v)) (said : decoded_row v (row_of v slot disk.bytes) ≡ Some seen) where
  seen_there : seen_at seen host ≡ seen_in v (block_in v (place_of v (VoteOf slot host)) disk.bytes)
  seen_there = said_sees v (row_of v slot disk.bytes) seen host below said ∙ ap (seen_in v) (block_of-row_of v slot host disk.bytes below)

  -- what a row says of a host tells a value that its register allows
  tells_there : (r : Register) → Holds v disk (VoteOf slot host) r → SeenReads v r (seen_at seen host)
  tells_there r holds =
      subst (SeenReads v r) (sym seen_there) (record { reads = holds disk.bytes (may_leave_now disk); so = λ i. seen_in v (block_in v (place_of v (VoteOf slot host)) disk.bytes) })

pub told : (v : Version) → (disk : DiskState) (slot host : ℕ) (r : Register) (seen : List DecodedBlock) → host < (hosts_in v) → Holds v disk (VoteOf slot host) r → decoded_row v (row_of v slot disk.bytes) ≡ Some seen → SeenReads v r (seen_at seen host)
told v disk slot host r seen below holds said = tells_there v disk slot host seen below said r holds
