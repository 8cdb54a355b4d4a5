-- Zeros that are written from the first position on, and a header that is written over them.
use Rattle.std.proofs.Common.{◌≡◌, ◌+◌, ◌-◌, ◌≤◌, ℕ, zero, suc, false, List, [], ◌∷◌, ◌++◌, length, take, drop, replicate, refl, sym, subst, ap, ◌∙◌, length-drop, arith}
use Rattle.std.proofs.lemmas.List.{length-replicate, replicate-append-replicate, take_at, drop-take}
use Rattle.std.proofs.lemmas.Slice.{drop-append-drop}
use Rattle.disk.specs.Disk.{DiskState, Call, Attach, Write, Sync, Answer, Booted, Done, Step, put_at, written, synced}
use Rattle.disk.specs.Simulated.{fresh_disk}
use Rattle.disk.proofs.CrashLemmas.{length-put}
use Rattle.disk.proofs.StepLemmas.{step_keeps}
use Rattle.torn_block.specs.Layout.{cluster_version}
use Rattle.torn_block.specs.declared.layout.TheConstants.{HEADER_LENGTH}
use Rattle.torn_block.specs.declared.block.TheConstants.{OPEN_GATE}
use Rattle.paxos_block.specs.declared.header.Header.{Header}
use Rattle.paxos_block.specs.Headers.{header_saying}
use Rattle.paxos_block.specs.Places.{image_length}
use Rattle.migration.proofs.Lengths.{length-header}
use Rattle.folders.specs.Layout.{WritesZeros, none, more, IsLaidOut, closed_header}
use Rattle.folder_migration.specs.Gates.{IsCleared}
use Rattle.at_once.specs.Beginnings.{IsFresh, ClearedIsFresh, LaidOutIsBlank, LaidOutSaysHeader, SaysHeader}
use Rattle.at_once.specs.Disks.{MakesSteps}
use Rattle.at_once.specs.Images.{headed, HoldsNothing}
use Rattle.at_once.proofs.Headless.{same_headed, take_same}

-- a disk that is there under boot number 1
abbrev pub IsFine : DiskState → Type 0
IsFine disk = (disk.boot ≡ 1) × (disk.gone ≡ false)

pub fine_stays : (old new : DiskState) (call : Call) (answer : Answer) → IsFine old → Step old call answer new → IsFine new
fine_stays old new call answer fine step =
    step_keeps IsFine old new call answer (record { writes = λ boot at from left is as_many. fine; syncs = fine; stays = fine }) step

-- ZEROS

-- so many of its first bytes are zeros
abbrev AreZeros : ℕ → DiskState → Type 0
AreZeros n disk = take n disk.bytes ≡ replicate n 0

zeros_more : (n len : ℕ) (bytes : List ℕ) → take n bytes ≡ replicate n 0 → take (n + len) (put_at bytes n (replicate len 0)) ≡ replicate (n + len) 0
zeros_more n len bytes are =
    let more : List ℕ = replicate len 0 in
    let rest : List ℕ = drop (n + length more) bytes in
    ap (λ (l : List ℕ). take (n + len) (l ++ more ++ rest)) are
    ∙ ap (λ (l : List ℕ). take (n + len) (l ++ rest)) (replicate-append-replicate n len 0)
    ∙ take_at (replicate (n + len) 0) rest (n + len) (length-replicate (n + len) 0)

reaches : {A : Type 0} (n : ℕ) (old : List A) → length (take n old) ≡ n → n ≤ length old
reaches zero old is = omega arith
reaches (suc n) [] is = absurd (omega (arith, is))
reaches (suc n) (y ∷ old) is = omega (arith, reaches n old (omega (arith, is)))

long_zeros : (n : ℕ) (bytes : List ℕ) → take n bytes ≡ replicate n 0 → n ≤ length bytes
long_zeros n bytes are = reaches n bytes (ap length are ∙ length-replicate n 0)

-- UNDER A HEADER

-- what is put before a place leaves what is behind it
put_before : (place : ℕ) (old items : List ℕ) → length items ≤ place → drop place (put_at old 0 items) ≡ drop place old
put_before place old items fits = drop-append-drop (0 + length items) old items place (omega (arith, fits)) (omega arith)

same_headed_so : {A : Type 0} (x : A) (h n : ℕ) (one other : List A) → h ≤ n → drop h one ≡ drop h other → headed h x (take n one) ≡ headed h x (take n other)
unfolding headed
same_headed_so {A} x h n one other fits same =
    let m = n - h in
    let sum : n ≡ h + m = omega (arith, fits) in
    ap (λ (k : ℕ). replicate h x ++ drop h (take k one)) sum
    ∙ ap (λ (l : List A). replicate h x ++ l) (drop-take h m one ∙ ap (take m) same ∙ sym (drop-take h m other))
    ∙ ap (λ (k : ℕ). replicate h x ++ drop h (take k other)) (sym sum)

-- the bytes that a header leaves, and then a gate
module _ (bytes header : List ℕ) (long : length header ≡ HEADER_LENGTH) where
  abbrev first : List ℕ
  first = put_at bytes 0 header

  abbrev last : List ℕ
  last = put_at first 0 (OPEN_GATE ∷ [])

  behind : drop HEADER_LENGTH last ≡ drop HEADER_LENGTH bytes
  behind = put_before HEADER_LENGTH first (OPEN_GATE ∷ []) (omega arith) ∙ put_before HEADER_LENGTH bytes header (omega (arith, long))

  as_long : HEADER_LENGTH ≤ length bytes → length last ≡ length bytes
  as_long fits =
      let one = length-put bytes 0 header (omega (arith, long, fits)) 0 in
      length-put first 0 (OPEN_GATE ∷ []) (omega (arith, one, fits)) 0 ∙ one

  zeros_behind : (n : ℕ) → HEADER_LENGTH ≤ n → take n bytes ≡ replicate n 0 → headed HEADER_LENGTH 0 (take n last) ≡ replicate n 0
  zeros_behind n reaches are =
      same_headed_so 0 HEADER_LENGTH n last bytes reaches behind
      ∙ ap (headed HEADER_LENGTH 0) are
      ∙ same_headed 0 HEADER_LENGTH n reaches

-- DISKS OF ANY TYPE

module _ {D : Type 0} (gives : D → Call → Answer → D → Type 0) (state : D → DiskState) (steps : MakesSteps gives state) where
  fine_then : (old new : D) (call : Call) (answer : Answer) → IsFine (state old) → gives old call answer new → IsFine (state new)
  fine_then old new call answer fine gave = fine_stays (state old) (state new) call answer fine (steps old new call answer gave)

  fine_attached : (old new : D) (boot : ℕ) → (state old).boot ≡ 1 → gives old Attach (Booted boot) new → IsFine (state new)
  fine_attached old new boot one gave = fine_then old new Attach (Booted boot) (one, (steps old new Attach (Booted boot) gave).0) gave

  after_write : (old new : D) (boot at : ℕ) (from : List ℕ) → gives old (Write boot at from) Done new → state new ≡ written (state old) at from
  after_write old new boot at from gave = (steps old new (Write boot at from) Done gave).2.1

  after_sync : (old new : D) (boot : ℕ) → gives old (Sync boot) Done new → state new ≡ synced (state old)
  after_sync old new boot gave = (steps old new (Sync boot) Done gave).2.1

  zeros_written : (boot from to : ℕ) (old new : D) → WritesZeros gives boot from to old new → from ≡ 0 → IsFine (state old) → IsFine (state new) × AreZeros to (state new)
  zeros_written boot from to old new (none at disk) start fine = (fine, subst (λ (n : ℕ). AreZeros n (state disk)) (sym start) refl)
  zeros_written boot from to old new (more first n end before between after writes len gave is) start fine =
      let so = zeros_written boot first n before between writes start fine in (
        fine_then between after (Write boot n (replicate len 0)) Done so.0 gave,
        subst (λ (m : ℕ). AreZeros m (state after)) (sym is)
            (subst (AreZeros (n + len)) (sym (after_write between after boot n (replicate len 0) gave)) (zeros_more n len (state between).bytes so.1)),
      )

  -- nothing is unsynced
  flags_synced : (n : ℕ) (old new : DiskState) → new ≡ synced old → n ≤ length old.bytes → take n new.unsynced ≡ replicate n false
  flags_synced n old new is long = ap (λ (d : DiskState). take n d.unsynced) is ∙ take_same false n (length old.bytes) long

  cleared : (size : ℕ) (old new : D) → (state old).boot ≡ 1 → IsCleared gives size old new → IsFresh size (state new)
  unfolding fresh_disk
  cleared size old new one is =
      let so = zeros_written is.boot 0 size is.attached is.zeroed is.clears refl (fine_attached old is.attached is.boot one is.attaches) in
      let fine = fine_then is.zeroed new (Sync is.boot) Done so.0 is.syncs in
      let sync = after_sync is.zeroed new is.boot is.syncs in
      λ i. record {
        bytes = (ap (λ (d : DiskState). take size d.bytes) sync ∙ so.1) i;
        unsynced = flags_synced size (state is.zeroed) (state new) sync (long_zeros size (state is.zeroed).bytes so.1) i;
        boot = fine.0 i;
        gone = fine.1 i;
      }

  length-closed : (header : Header) → length (closed_header header) ≡ HEADER_LENGTH
  length-closed header = omega (arith, length-drop 1 (header_saying cluster_version header), length-header header)

  bytes_laid : (header : Header) (old new : D) → (is : IsLaidOut gives old header new) → (state new).bytes ≡ last (state is.zeroed).bytes (closed_header header) (length-closed header)
  bytes_laid header old new is =
      let spelled = closed_header header in
      ap (λ (d : DiskState). d.bytes) (after_sync is.opened new is.boot is.syncs_gate)
      ∙ ap (λ (d : DiskState). d.bytes) (after_write is.ready is.opened is.boot 0 (OPEN_GATE ∷ []) is.opens)
      ∙ ap (λ (d : DiskState). put_at d.bytes 0 (OPEN_GATE ∷ [])) (after_sync is.closed is.ready is.boot is.syncs_header)
      ∙ ap (λ (d : DiskState). put_at d.bytes 0 (OPEN_GATE ∷ [])) (after_write is.blank is.closed is.boot 0 spelled is.writes)
      ∙ ap (λ (d : DiskState). put_at (put_at d.bytes 0 spelled) 0 (OPEN_GATE ∷ [])) (after_sync is.zeroed is.blank is.boot is.syncs_zeros)

  -- none of its bytes is unsynced, as far as it was made zeros
  flags_laid : (header : Header) (old new : D) → (state old).boot ≡ 1 → IsLaidOut gives old header new → (n : ℕ) → n ≤ image_length cluster_version header.slots → take n (state new).unsynced ≡ replicate n false
  flags_laid header old new one is n within =
      let zeros = (state is.zeroed).bytes in
      let spelled = closed_header header in
      let so = zeros_written is.boot 0 (image_length cluster_version header.slots) is.attached is.zeroed is.clears refl (fine_attached old is.attached is.boot one is.attaches) in
      let reach = long_zeros (image_length cluster_version header.slots) zeros so.1 in
      let sync = after_sync is.opened new is.boot is.syncs_gate in
      let bytes : (state is.opened).bytes ≡ last zeros spelled (length-closed header) = sym (ap (λ (d : DiskState). d.bytes) sync) ∙ bytes_laid header old new is in
      let size : length (state is.opened).bytes ≡ length zeros = ap length bytes ∙ as_long zeros spelled (length-closed header) (omega (arith, reach)) in
      flags_synced n (state is.opened) (state new) sync (omega (arith, size, reach, within))

  gated : (header : Header) → header_saying cluster_version header ≡ OPEN_GATE ∷ drop 1 (header_saying cluster_version header)
  unfolding header_saying
  gated header = refl

  laid_out_header : (header : Header) (old new : D) → (state old).boot ≡ 1 → IsLaidOut gives old header new → SaysHeader header (state new)
  laid_out_header header old new one is =
      let rest = drop (0 + length (closed_header header)) (state is.zeroed).bytes in (
        ap (take HEADER_LENGTH) (bytes_laid header old new is)
            ∙ ap (λ (l : List ℕ). take HEADER_LENGTH (l ++ rest)) (sym (gated header))
            ∙ take_at (header_saying cluster_version header) rest HEADER_LENGTH (length-header header),
        flags_laid header old new one is HEADER_LENGTH (omega arith),
      )

  laid_out : (header : Header) (old new : D) → (state old).boot ≡ 1 → IsLaidOut gives old header new → HoldsNothing header.slots (state new)
  unfolding fresh_disk
  laid_out header old new one is =
      let n = image_length cluster_version header.slots in
      let so = zeros_written is.boot 0 n is.attached is.zeroed is.clears refl (fine_attached old is.attached is.boot one is.attaches) in
      let zeros = (state is.zeroed).bytes in
      let spelled = closed_header header in
      let long = length-closed header in
      let blank = fine_then is.zeroed is.blank (Sync is.boot) Done so.0 is.syncs_zeros in
      let closed = fine_then is.blank is.closed (Write is.boot 0 spelled) Done blank is.writes in
      let ready = fine_then is.closed is.ready (Sync is.boot) Done closed is.syncs_header in
      let opened = fine_then is.ready is.opened (Write is.boot 0 (OPEN_GATE ∷ [])) Done ready is.opens in
      let fine = fine_then is.opened new (Sync is.boot) Done opened is.syncs_gate in
      let bytes_new = bytes_laid header old new is in
      let flags = flags_laid header old new one is n (omega arith) in
      λ i. record {
        bytes = (ap (λ (l : List ℕ). headed HEADER_LENGTH 0 (take n l)) bytes_new ∙ zeros_behind zeros spelled long n (omega arith) so.1) i;
        unsynced = (ap (headed HEADER_LENGTH false) flags ∙ same_headed false HEADER_LENGTH n (omega arith)) i;
        boot = fine.0 i;
        gone = fine.1 i;
      }

pub cleared_is_fresh : {D : Type 0} (gives : D → Call → Answer → D → Type 0) (state : D → DiskState) → ClearedIsFresh gives state
cleared_is_fresh gives state steps size old new one is = cleared gives state steps size old new one is

pub laid_out_is_blank : {D : Type 0} (gives : D → Call → Answer → D → Type 0) (state : D → DiskState) → LaidOutIsBlank gives state
laid_out_is_blank gives state steps header old new one is = laid_out gives state steps header old new one is

pub laid_out_says_header : {D : Type 0} (gives : D → Call → Answer → D → Type 0) (state : D → DiskState) → LaidOutSaysHeader gives state
laid_out_says_header gives state steps header old new one is = laid_out_header gives state steps header old new one is
