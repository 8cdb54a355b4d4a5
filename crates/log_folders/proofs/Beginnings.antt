-- Zeros that are written from the first position on or were read from a header on, a header that is written over them, and a gate that is opened.
use Rattle.std.proofs.Common.{◌≡◌, ◌+◌, ◌-◌, ◌∙◌, ◌≤◌, ℕ, zero, suc, false, List, [], ◌∷◌, ◌++◌, ap, arith, drop, length, length-append, length-drop, refl, replicate, slice_set, subst, sym, take}
use Rattle.std.proofs.Math.Seq.{take-add, take-append-add, take-append_seam}
use Rattle.std.proofs.lemmas.List.{drop-drop, drop-replicate, drop-take, length-replicate, replicate-append-replicate, take-append-drop, take-replicate, take_at}
use Rattle.disk.specs.Disk.{DiskState, Call, Attach, Read, Write, Sync, Answer, Booted, Told, Done, put_at, written, synced}
use Rattle.torn_block.specs.Block.{number_bytes}
use Rattle.torn_block.specs.Layout.{cluster_version}
use Rattle.torn_block.specs.declared.block.TheConstants.{OPEN_GATE}
use Rattle.torn_block.specs.declared.layout.TheConstants.{HEADER_LENGTH}
use Rattle.paxos_block.specs.Headers as older
use Rattle.paxos_block.specs.Headers.{short_bytes}
use Rattle.paxos_block.specs.Saying.{zeros}
use Rattle.paxos_block.specs.Shape.{Shape}
use Rattle.paxos_block.specs.declared.header.Header.{Header}
use Rattle.paxos_block.proofs.SayingLemmas.{length-number, length-zeros}
use Rattle.endless_image.specs.Kinds.{header_by}
use Rattle.endless_image.specs.declared.kind.Kind.{Kind}
use Rattle.endless_image.specs.declared.kind.Kind.TheVariants.{Ending, Endless}
use Rattle.endless_image.proofs.HeaderLaws.{length-header, length-short}
use Rattle.folders.specs.Finishing.{HasReadZeros, OpensFound, ReadsZeros, none as none_read, more as more_read}
use Rattle.folders.specs.Folders.{HasToldFirst}
use Rattle.folders.specs.Layout.{WritesZeros, none, more}
use Rattle.log_folders.specs.Beginnings.{FinishedIsNew, HoldsSurely, LaidOutIsNew, MakesSteps, OpenStays}
use Rattle.log_folders.specs.Layout.{IsLaidOut, with_closed_gate}
use Rattle.log_folders.specs.NewSets.{Wanted, header_for, size_for}
use Rattle.log_folders.proofs.NewSets.{begins_open, room_for_header}

-- THE LENGTHS OF A HEADER AND OF AN IMAGE

length-older : (header : Header) → length (older.header_saying cluster_version header) ≡ HEADER_LENGTH
unfolding older.header_saying
length-older header =
    omega (arith, length-append (short_bytes header.slots) (number_bytes header.cluster ++ zeros 1008), length-append (number_bytes header.cluster) (zeros 1008), length-short header.slots, length-number header.cluster, length-zeros 1008)

length-by : (kind : Kind) (disk : ℕ) (config : Shape) (cluster : ℕ) → length (header_by kind disk config cluster) ≡ HEADER_LENGTH
length-by Ending disk config cluster = length-older (record { disk = disk; disks = config.disks; slots = config.slots; cluster = cluster })
length-by Endless disk config cluster = length-header 4 0 (record { disk = disk; disks = config.disks; slots = config.slots; cluster = cluster; first_epoch = 0 })

-- ZEROS

-- so many of the first bytes are zeros
abbrev AreZeros : ℕ → List ℕ → Type 0
AreZeros n bytes = take n bytes ≡ replicate n 0

zeros_more : (n len : ℕ) (bytes : List ℕ) → AreZeros n bytes → AreZeros (n + len) (put_at bytes n (replicate len 0))
zeros_more n len bytes are =
    let more : List ℕ = replicate len 0 in
    let rest : List ℕ = drop (n + length more) bytes in
    ap (λ (l : List ℕ). take (n + len) (l ++ more ++ rest)) are
    ∙ ap (λ (l : List ℕ). take (n + len) (l ++ rest)) (replicate-append-replicate n len 0)
    ∙ take_at (replicate (n + len) 0) rest (n + len) (length-replicate (n + len) 0)

-- zeros up to a place, and so many from there on
zeros_on : (from n len to : ℕ) (bytes : List ℕ) → from ≤ n → to ≡ n + len → AreZeros (n - from) (drop from bytes) → AreZeros len (drop n bytes) → AreZeros (to - from) (drop from bytes)
zeros_on from n len to bytes order is first next =
    let sum : to - from ≡ (n - from) + len = omega (arith, order, is) in
    let place : from + (n - from) ≡ n = omega (arith, order) in
    ap (λ (k : ℕ). take k (drop from bytes)) sum
    ∙ take-add (n - from) len (drop from bytes)
    ∙ ap (λ (l : List ℕ). l ++ take len (drop (n - from) (drop from bytes))) first
    ∙ ap (λ (l : List ℕ). replicate (n - from) 0 ++ take len l) (drop-drop (n - from) from bytes ∙ ap (λ (k : ℕ). drop k bytes) place)
    ∙ ap (λ (l : List ℕ). replicate (n - from) 0 ++ l) next
    ∙ replicate-append-replicate (n - from) len 0
    ∙ ap (λ (k : ℕ). replicate k 0) (sym sum)

reaches : {A : Type 0} (n : ℕ) (old : List A) → length (take n old) ≡ n → n ≤ length old
reaches zero old is = omega arith
reaches (suc n) [] is = absurd (omega (arith, is))
reaches (suc n) (y ∷ old) is = omega (arith, reaches n old (omega (arith, is)))

-- A HEADER AND ITS GATE

module _ (header : List ℕ) (long : length header ≡ HEADER_LENGTH) (open_gate : header ≡ OPEN_GATE ∷ drop 1 header) where
  -- a header and zeros behind it
  image_of : (size : ℕ) (rest : List ℕ) → HEADER_LENGTH ≤ size → AreZeros (size - HEADER_LENGTH) rest → take size (header ++ rest) ≡ header ++ zeros (size - HEADER_LENGTH)
  unfolding zeros
  image_of size rest room are =
      let m : ℕ = size - HEADER_LENGTH in
      let sum : size ≡ length header + m = omega (arith, room, long) in
      ap (λ (k : ℕ). take k (header ++ rest)) sum ∙ take-append-add header rest m ∙ ap (λ (l : List ℕ). header ++ l) are

  length-image : (size : ℕ) → HEADER_LENGTH ≤ size → length (header ++ zeros (size - HEADER_LENGTH)) ≡ size
  length-image size room = omega (arith, length-append header (zeros (size - HEADER_LENGTH)), length-zeros (size - HEADER_LENGTH), long, room)

  length-closed : 0 + length (with_closed_gate header) ≡ HEADER_LENGTH
  length-closed = omega (arith, length-drop 1 header, long)

  -- it is written over zeros with a closed gate, and then its gate is opened
  laid_over : (size : ℕ) (bytes : List ℕ) → HEADER_LENGTH ≤ size → AreZeros size bytes → take size (put_at (put_at bytes 0 (with_closed_gate header)) 0 (OPEN_GATE ∷ [])) ≡ header ++ zeros (size - HEADER_LENGTH)
  laid_over size bytes room are =
      let m : ℕ = size - HEADER_LENGTH in
      let sum : HEADER_LENGTH + m ≡ size = omega (arith, room) in
      let rest : List ℕ = drop (0 + length (with_closed_gate header)) bytes in
      let rest_zeros : AreZeros m rest =
      ap (λ (k : ℕ). take m (drop k bytes)) length-closed
      ∙ sym (drop-take HEADER_LENGTH m bytes)
      ∙ ap (λ (k : ℕ). drop HEADER_LENGTH (take k bytes)) sum
      ∙ ap (drop HEADER_LENGTH) are
      ∙ drop-replicate HEADER_LENGTH size 0 in
      ap (λ (l : List ℕ). take size (l ++ rest)) (sym open_gate) ∙ image_of size rest room rest_zeros

  -- where all but its gate is there, it is there once its gate is opened
  opened_over : (first rest : List ℕ) → slice_set first 0 OPEN_GATE ≡ header → put_at (first ++ rest) 0 (OPEN_GATE ∷ []) ≡ header ++ rest
  opened_over [] rest is = let none_is : [] ≡ OPEN_GATE ∷ drop 1 header = is ∙ open_gate in absurd (cc)
  opened_over (b ∷ first) rest is = ap (λ (l : List ℕ). l ++ rest) is

-- DISKS OF ANY TYPE

module _ {D : Type 0} (gives : D → Call → Answer → D → Type 0) (state : D → DiskState) (steps : MakesSteps gives state) where
  after_attach : (old new : D) (boot : ℕ) → gives old Attach (Booted boot) new → state new ≡ state old
  after_attach old new boot gave = (steps old new Attach (Booted boot) gave).2.1

  after_read : (old new : D) (boot at len : ℕ) (bytes : List ℕ) → gives old (Read boot at len) (Told bytes) new → state new ≡ state old
  after_read old new boot at len bytes gave = (steps old new (Read boot at len) (Told bytes) gave).2.1

  is_told : (old new : D) (boot at len : ℕ) (bytes : List ℕ) → gives old (Read boot at len) (Told bytes) new → bytes ≡ take len (drop at (state old).bytes)
  is_told old new boot at len bytes gave =
      let answer : Told bytes ≡ Told (take ((at + len) - at) (drop at (state old).bytes)) = (steps old new (Read boot at len) (Told bytes) gave).2.0 in
      let told : bytes ≡ take ((at + len) - at) (drop at (state old).bytes) = cc in
      let many : (at + len) - at ≡ len = omega arith in
      told ∙ ap (λ (n : ℕ). take n (drop at (state old).bytes)) many

  after_write : (old new : D) (boot at : ℕ) (from : List ℕ) → gives old (Write boot at from) Done new → state new ≡ written (state old) at from
  after_write old new boot at from gave = (steps old new (Write boot at from) Done gave).2.1

  after_sync : (old new : D) (boot : ℕ) → gives old (Sync boot) Done new → state new ≡ synced (state old)
  after_sync old new boot gave = (steps old new (Sync boot) Done gave).2.1

  -- what a disk begins with after a sync is synced
  held_after_sync : (bytes : List ℕ) (old new : D) (boot : ℕ) → gives old (Sync boot) Done new → take (length bytes) (state new).bytes ≡ bytes → HoldsSurely bytes (state new)
  held_after_sync bytes old new boot gave is =
      let sync = after_sync old new boot gave in
      let same : (state new).bytes ≡ (state old).bytes = ap (λ (d : DiskState). d.bytes) sync in
      let as_many : length (take (length bytes) (state old).bytes) ≡ length bytes = ap length (ap (take (length bytes)) (sym same) ∙ is) in
      let reach : length bytes ≤ length (state old).bytes = reaches (length bytes) (state old).bytes as_many in
      record { begins = is; synced = ap (λ (d : DiskState). take (length bytes) d.unsynced) sync ∙ take-replicate (length bytes) (length (state old).bytes) false reach }

  zeros_written : (boot from to : ℕ) (old new : D) → WritesZeros gives boot from to old new → from ≡ 0 → AreZeros to (state new).bytes
  zeros_written boot from to old new (none at disk) start = subst (λ (n : ℕ). AreZeros n (state disk).bytes) (sym start) refl
  zeros_written boot from to old new (more first n end before between after writes len gave is) start =
      let so = zeros_written boot first n before between writes start in
      subst (λ (m : ℕ). AreZeros m (state after).bytes) (sym is)
      (subst (λ (d : DiskState). AreZeros (n + len) d.bytes) (sym (after_write between after boot n (replicate len 0) gave)) (zeros_more n len (state between).bytes so))

  -- what was read is as it was, and zeros
  zeros_read : (boot from to : ℕ) (old new : D) → ReadsZeros gives boot from to old new → (state new ≡ state old) × (from ≤ to) × AreZeros (to - from) (drop from (state old).bytes)
  zeros_read boot from to old new (none_read at disk) =
      let nothing : at - at ≡ 0 = omega arith in (refl, (omega arith), subst (λ (n : ℕ). AreZeros n (drop at (state disk).bytes)) (sym nothing) refl)
  zeros_read boot from to old new (more_read first n end before between after reads len gave is) =
      let so = zeros_read boot first n before between reads in
      let bytes : (state between).bytes ≡ (state before).bytes = ap (λ (d : DiskState). d.bytes) so.0 in
      let next : AreZeros len (drop n (state before).bytes) =
      ap (λ (l : List ℕ). take len (drop n l)) (sym bytes) ∙ sym (is_told between after boot n len (replicate len 0) gave) in (
        after_read between after boot n len (replicate len 0) gave ∙ so.0,
        (omega (arith, so.1, is)),
        zeros_on first n len end (state before).bytes so.1 is so.2 next,
      )

  module _ (size : ℕ) (header : List ℕ) (long : length header ≡ HEADER_LENGTH) (open_gate : header ≡ OPEN_GATE ∷ drop 1 header) (room : HEADER_LENGTH ≤ size) where
    held : (old new : D) (boot : ℕ) → gives old (Sync boot) Done new → take size (state new).bytes ≡ header ++ zeros (size - HEADER_LENGTH) → HoldsSurely (header ++ zeros (size - HEADER_LENGTH)) (state new)
    held old new boot gave is =
        held_after_sync (header ++ zeros (size - HEADER_LENGTH)) old new boot gave
        (subst (λ (n : ℕ). take n (state new).bytes ≡ header ++ zeros (size - HEADER_LENGTH)) (sym (length-image header long open_gate size room)) is)

    laid : (old new : D) → IsLaidOut gives size header old new → HoldsSurely (header ++ zeros (size - HEADER_LENGTH)) (state new)
    laid old new is =
        let bytes =
        ap (λ (d : DiskState). d.bytes) (after_sync is.opened new is.boot is.syncs_gate)
        ∙ ap (λ (d : DiskState). d.bytes) (after_write is.ready is.opened is.boot 0 (OPEN_GATE ∷ []) is.opens)
        ∙ ap (λ (d : DiskState). put_at d.bytes 0 (OPEN_GATE ∷ [])) (after_sync is.closed is.ready is.boot is.syncs_header)
        ∙ ap (λ (d : DiskState). put_at d.bytes 0 (OPEN_GATE ∷ [])) (after_write is.blank is.closed is.boot 0 (with_closed_gate header) is.writes)
        ∙ ap (λ (d : DiskState). put_at (put_at d.bytes 0 (with_closed_gate header)) 0 (OPEN_GATE ∷ [])) (after_sync is.zeroed is.blank is.boot is.syncs_zeros) in
        held is.opened new is.boot is.syncs_gate
        (ap (take size) bytes ∙ laid_over header long open_gate size (state is.zeroed).bytes room (zeros_written is.boot 0 size is.attached is.zeroed is.clears refl))

    -- the first bytes that were told stand there, and nothing was changed
    first_told : (old new : D) (bytes : List ℕ) → HasToldFirst gives old bytes new → (state new ≡ state old) × ((state old).bytes ≡ bytes ++ drop HEADER_LENGTH (state old).bytes)
    first_told old new bytes t =
        let attached = after_attach old t.attached t.boot t.boots in
        let told = is_told t.attached new t.boot 0 HEADER_LENGTH bytes t.tells in
        let first : bytes ≡ take HEADER_LENGTH (state old).bytes = told ∙ ap (λ (d : DiskState). take HEADER_LENGTH d.bytes) attached in (
          after_read t.attached new t.boot 0 HEADER_LENGTH bytes t.tells ∙ attached,
          sym (take-append-drop HEADER_LENGTH (state old).bytes) ∙ ap (λ (l : List ℕ). l ++ drop HEADER_LENGTH (state old).bytes) (sym first),
        )

    -- a gate that is opened over such bytes
    gate_opened : (looked new : D) (first rest : List ℕ) → OpensFound gives looked new → (state looked).bytes ≡ first ++ rest → slice_set first 0 OPEN_GATE ≡ header → (state new).bytes ≡ header ++ rest
    gate_opened looked new first rest o is right =
        ap (λ (d : DiskState). d.bytes) (after_sync o.opened new o.boot o.syncs)
        ∙ ap (λ (d : DiskState). d.bytes) (after_write o.attached o.opened o.boot 0 (OPEN_GATE ∷ []) o.opens)
        ∙ ap (λ (d : DiskState). put_at d.bytes 0 (OPEN_GATE ∷ [])) (after_attach looked o.attached o.boot o.attaches)
        ∙ ap (λ (l : List ℕ). put_at l 0 (OPEN_GATE ∷ [])) is
        ∙ opened_over header long open_gate first rest right

    finished : (old told looked new : D) (bytes : List ℕ) → HasToldFirst gives old bytes told → slice_set bytes 0 OPEN_GATE ≡ header → HasReadZeros gives size told looked → OpensFound gives looked new →
        HoldsSurely (header ++ zeros (size - HEADER_LENGTH)) (state new)
    finished old told looked new bytes first right read o =
        let shown = first_told old told bytes first in
        let seen = zeros_read read.boot HEADER_LENGTH size read.attached looked read.reads in
        let same : state looked ≡ state old = seen.0 ∙ after_attach told read.attached read.boot read.attaches ∙ shown.0 in
        let rest : List ℕ = drop HEADER_LENGTH (state old).bytes in
        let kept : state read.attached ≡ state old = after_attach told read.attached read.boot read.attaches ∙ shown.0 in
        let rest_zeros : AreZeros (size - HEADER_LENGTH) rest = subst (λ (d : DiskState). AreZeros (size - HEADER_LENGTH) (drop HEADER_LENGTH d.bytes)) kept seen.2 in
        let is = gate_opened looked new bytes rest o (ap (λ (d : DiskState). d.bytes) same ∙ shown.1) right in
        held o.opened new o.boot o.syncs (ap (take size) is ∙ image_of header long open_gate size rest room rest_zeros)

    stays_open : (old looked new : D) (bytes : List ℕ) → HasToldFirst gives old bytes looked → bytes ≡ header → OpensFound gives looked new → HoldsSurely header (state new) × ((state new).bytes ≡ (state old).bytes)
    stays_open old looked new bytes first right o =
        let shown = first_told old looked bytes first in
        let rest : List ℕ = drop HEADER_LENGTH (state old).bytes in
        let gate : slice_set bytes 0 OPEN_GATE ≡ header = ap (λ (l : List ℕ). slice_set l 0 OPEN_GATE) (right ∙ open_gate) ∙ sym open_gate in
        let is = gate_opened looked new bytes rest o (ap (λ (d : DiskState). d.bytes) shown.0 ∙ shown.1) gate in (
          held_after_sync header o.opened new o.boot o.syncs (ap (take (length header)) is ∙ take-append_seam header rest),
          is ∙ ap (λ (l : List ℕ). l ++ rest) (sym right) ∙ sym shown.1,
        )

-- A SET

module _ {D : Type 0} (gives : D → Call → Answer → D → Type 0) (state : D → DiskState) where
  length-for : (set : Wanted) (disk : ℕ) → length (header_for set disk) ≡ HEADER_LENGTH
  length-for set disk = length-by set.kind disk set.config set.cluster

  pub laid_out_is_new : LaidOutIsNew gives state
  laid_out_is_new steps set disk old new is =
      laid gives state steps (size_for set) (header_for set disk) (length-for set disk) (begins_open set disk) (room_for_header set) old new is

  pub finished_is_new : FinishedIsNew gives state
  finished_is_new steps set disk old looked new (bytes, told, first, header, zeros_behind) o =
      finished gives state steps (size_for set) (header_for set disk) (length-for set disk) (begins_open set disk) (room_for_header set) old told looked new bytes first header.right zeros_behind o

  pub open_stays : OpenStays gives state
  open_stays steps set disk old looked new (bytes, first, is) o =
      stays_open gives state steps (size_for set) (header_for set disk) (length-for set disk) (begins_open set disk) (room_for_header set) old looked new bytes first is o
