-- What a number on a disk of epochs may be, whatever a crash leaves: calls keep it as it was, or write the next one of their host.
use Rattle.std.specs.Prelude.{◌⊎◌, ◌%◌}
use Rattle.std.proofs.Common.{ℕ, zero, suc, ◌≡◌, ◌+◌, ◌≤◌, ◌<◌, List, [], ◌∷◌, ◌++◌, length, sym, ◌∙◌, ap, subst, inl, inr, arith}
use Rattle.std.proofs.lemmas.List.{append_assoc}
use Rattle.disk.specs.declared.fault.DiskFault.TheVariants.{Reset, Failed, Gone}
use Rattle.disk.specs.Disk.{DiskState, Call, Attach, Read, Write, Sync, Answer, Booted, Told, Done, Fault, Step, Crashes, IsUnder, written, synced, lost}
use Rattle.disk.specs.Crash.{IsWhole, MayLeave}
use Rattle.disk.specs.Steps.{WritesOn}
use Rattle.disk.proofs.CrashLemmas.{may_leave_now, may_leave_synced, may_leave_crashed, may_leave_written}
use Rattle.disk.proofs.StepLemmas.{step_keeps}
use Rattle.torn_block.specs.Layout.{cluster_version}
use Rattle.torn_block.specs.Damage.{block_of}
use Rattle.torn_block.specs.declared.write_steps.WriteCall.{WriteCall}
use Rattle.torn_block.specs.declared.write_steps.WriteCall.TheVariants.{CloseGate, SyncClosed, PutBody, SyncBody, OpenGate, SyncOpened}
use Rattle.torn_block.specs.Register.{IsOutside, LiesOn, LeavesBlock}
use Rattle.torn_block.specs.Stage.{call_of, IsPlaced, IsDue}
use Rattle.torn_block.proofs.PlaceLaws.{block_elsewhere}
use Rattle.heartbeat.specs.Beat.{beat_body, counter_of}
use Rattle.standings.specs.declared.epoch.Epoch.{Epoch}
use Rattle.standings.specs.Epochs.{base_of, number_place, number_at}
use Rattle.standings.specs.Reading.{moved, numbers_in}
use Rattle.standings.specs.Past.{Made, Past, reading, block_at, IsRow, number_write, WritesNumber, MayCall, MayCallIn}
use Rattle.at_once.specs.Power.{LosesPower}
use Rattle.epochs.specs.Acts.{IsModelCrash}
use Rattle.epochs.proofs.Blocks.{blocks_apart, lies_on, off_area, InBlock, write_in}
use Rattle.epochs.proofs.Numbers.{tried}
use Rattle.epochs.proofs.Pasts.{Lives, block_fits, due_is}
use Rattle.epoch_runs.proofs.Lists.{last_same}
use Rattle.epoch_runs.proofs.Places.{split_last}

-- ONE NUMBER

-- whatever a crash leaves, the number of the block at this place is such a one
abbrev pub IsAlways : (place : ℕ) → (ℕ → Type 0) → DiskState → Type 0
IsAlways place Q disk = (bytes : List ℕ) → MayLeave disk bytes → Q (number_at place bytes)

pub always_as : (place : ℕ) (Q R : ℕ → Type 0) (disk : DiskState) → ((number : ℕ) → Q number → R number) → IsAlways place Q disk → IsAlways place R disk
always_as place Q R disk leads is bytes may = leads (number_at place bytes) (is bytes may)

pub always_same : (place : ℕ) (Q : ℕ → Type 0) (disk new : DiskState) → new ≡ disk → IsAlways place Q disk → IsAlways place Q new
always_same place Q disk new same is = subst (IsAlways place Q) (sym same) is

module _ (place : ℕ) (Q : ℕ → Type 0) (disk new : DiskState) (whole : IsWhole disk) (lies : LiesOn cluster_version place disk) (is : IsAlways place Q disk) where
  written_elsewhere : (at : ℕ) (from : List ℕ) → at + length from ≤ length disk.bytes → IsOutside cluster_version place at (length from) → IsAlways place Q (written disk at from)
  written_elsewhere at from fits off bytes may =
      let a = may_leave_written disk at from bytes whole fits may in
      let many = a.1.as_many in
      let same = block_elsewhere cluster_version place at (length from) a.0 bytes (omega (arith, many, lies)) a.2 off in
      subst Q (sym (ap counter_of same)) (is a.0 a.1)

  all_synced : IsAlways place Q (synced disk)
  all_synced bytes may = subst Q (sym (ap (number_at place) (may_leave_synced disk bytes may))) (is disk.bytes (may_leave_now disk))

  pub always_elsewhere : (call : Call) (answer : Answer) → WritesOn disk call → LeavesBlock cluster_version place call → Step disk call answer new → IsAlways place Q new
  always_elsewhere call answer writes leaves step =
      step_keeps (IsAlways place Q) disk new call answer
      (record {
        writes =
            λ boot at from left same as_many.
            (let fits : at + length from ≤ length disk.bytes = subst (WritesOn disk) same writes in
            let off : IsOutside cluster_version place at (length from) = subst (LeavesBlock cluster_version place) same leaves in
            written_elsewhere at left (omega (arith, fits, as_many)) (subst (IsOutside cluster_version place at) (sym as_many) off));
        syncs = all_synced;
        stays = is;
      })
      step

pub always_lost : (place : ℕ) (Q : ℕ → Type 0) (disk : DiskState) → IsAlways place Q disk → IsAlways place Q (lost disk)
always_lost place Q disk is bytes may = is bytes (record { as_many = may.as_many; same = may.same })

-- A crash leaves what it may leave, and that is sure.
abbrev pub Settles : (DiskState → DiskState → Type 0) → Type 0
Settles IsCrash = (old new : DiskState) → IsCrash old new → MayLeave old new.bytes × ((bytes : List ℕ) → MayLeave new bytes → bytes ≡ new.bytes)

pub model_settles : Settles IsModelCrash
model_settles old new crash = (crash.1.bytes, λ bytes may. may_leave_crashed old new bytes crash.1 may)

-- as a crash of the same disk under an earlier boot number
pub power_settles : Settles LosesPower
power_settles old new crash =
    let earlier : DiskState = record { bytes = old.bytes; unsynced = old.unsynced; boot = 0; gone = old.gone } in
    let same : Crashes earlier new = record { bytes = record { as_many = crash.bytes.as_many; same = crash.bytes.same }; unsynced = crash.unsynced; boot = crash.after; gone = crash.gone } in
    (crash.bytes, λ bytes may. may_leave_crashed earlier new bytes same may)

pub always_crashed : (IsCrash : DiskState → DiskState → Type 0) → Settles IsCrash → (place : ℕ) (Q : ℕ → Type 0) (old new : DiskState) → IsCrash old new → IsAlways place Q old → IsAlways place Q new
always_crashed IsCrash settles place Q old new crash is bytes may =
    let left = settles old new crash in
    subst Q (sym (ap (number_at place) (left.1 bytes may))) (is new.bytes left.0)

-- CALLS

-- the call writes on the disk, and in no block of standings
pub record IsHarmless (n : ℕ) (disk : DiskState) (call : Call) : Type 0 where
  pub writes : WritesOn disk call
  pub leaves : (area g : ℕ) → area < 2 → g < 16 → LeavesBlock cluster_version (number_place n area g) call

pub read_harmless : (n : ℕ) (disk : DiskState) (boot at len : ℕ) → IsHarmless n disk (Read boot at len)
read_harmless n disk boot at len = record { writes = tt; leaves = λ area g is_area is_g. tt }

off_standings : (n area g at len : ℕ) → area < 2 → g < 16 → (at + len ≤ n) ⊎ (n + 4096 + 4096 ≤ at) → (at + len ≤ number_place n area g) ⊎ (number_place n area g + 256 ≤ at)
off_standings n area g at len is_area is_g (inl before) = inl (omega (arith, before))
off_standings n area g at len is_area is_g (inr behind) = inr (omega (arith, behind, is_area, is_g))

clears_off : (n area host row at len : ℕ) → area < 2 → host < 16 → IsRow n row → block_at n area host row ≤ at → at + len ≤ block_at n area host row + 256 → (at + len ≤ n) ⊎ (n + 4096 + 4096 ≤ at)
clears_off n zero host row at len is_area is_host is_row low high = let ends = is_row.1 in inl (omega (arith, is_host, ends, high))
clears_off n (suc area) host row at len is_area is_host is_row low high = let first = is_row.0 in inr (omega (arith, first, low))

area_fits : (n area at len size : ℕ) → area < 2 → at + len ≤ n → 4096 + n + n ≤ size → base_of n area + at + len ≤ size
area_fits n zero at len size is_area ends room = omega (arith, ends, room)
area_fits n (suc area) at len size is_area ends room = omega (arith, ends, room)

module _ (n : ℕ) (disk : DiskState) (room : 4096 + n + n ≤ length disk.bytes) (host : ℕ) (is_host : host < 16) (past : Past) where
  pub call_kind : (call : Call) → MayCall n host past call → IsHarmless n disk call ⊎ WritesNumber n host past call
  call_kind Attach may = inl (record { writes = tt; leaves = λ area g is_area is_g. tt })
  call_kind (Read boot at len) may = inl (read_harmless n disk boot at len)
  call_kind (Sync boot) may = inl (record { writes = tt; leaves = λ area g is_area is_g. tt })
  call_kind (Write boot at from) (inr writes) = inr writes
  call_kind (Write boot at from) (inl clears) =
      let low = clears.within.0 in
      let high = clears.within.1 in
      let within = block_fits n clears.area host clears.row (length disk.bytes) clears.is_area is_host clears.is_row room in
      inl (record {
        writes = omega (arith, high, within);
        leaves = λ area g is_area is_g. off_standings n area g at (length from) is_area is_g (clears_off n clears.area host clears.row at (length from) clears.is_area is_host clears.is_row low high);
      })

  pub in_harmless : (e : Epoch) (call : Call) → e.area < 2 → MayCallIn n e host past call → IsHarmless n disk (moved (base_of n e.area) call)
  in_harmless e Attach is_area may = record { writes = tt; leaves = λ area g one two. tt }
  in_harmless e (Read boot at len) is_area may = record { writes = tt; leaves = λ area g one two. tt }
  in_harmless e (Sync boot) is_area may = record { writes = tt; leaves = λ area g one two. tt }
  in_harmless e (Write boot at from) is_area may =
      let low = may.within.0 in
      let high = may.within.1 in
      let first = may.is_row.0 in
      let ends = may.is_row.1 in
      let from_there : 4096 ≤ at = omega (arith, first, low) in
      let within : at + length from ≤ n = omega (arith, ends, high, is_host) in
      record {
        writes = area_fits n e.area at (length from) (length disk.bytes) is_area within room;
        leaves = λ area g one two. off_standings n area g (base_of n e.area + at) (length from) one two (off_area n e.area at (length from) is_area from_there within);
      }

-- THE OWN NUMBER

-- one of the six calls was made, or failed, or it changed nothing
under_of : (due : WriteCall) (n area host boot : ℕ) (row : List ℕ) (b : ℕ) → IsUnder (call_of due (number_write n area host row) boot) b → boot ≡ b
under_of CloseGate n area host boot row b is = is
under_of SyncClosed n area host boot row b is = is
under_of PutBody n area host boot row b is = is
under_of SyncBody n area host boot row b is = is
under_of OpenGate n area host boot row b is = is
under_of SyncOpened n area host boot row b is = is

not_booted : (due : WriteCall) (n area host boot : ℕ) (row : List ℕ) (old new : DiskState) (b : ℕ) → Step old (call_of due (number_write n area host row) boot) (Booted b) new → ⊥
not_booted CloseGate n area host boot row old new b step = let clash : Booted b ≡ Done = step.2.0 in absurd (cc)
not_booted SyncClosed n area host boot row old new b step = let clash : Booted b ≡ Done = step.2.0 in absurd (cc)
not_booted PutBody n area host boot row old new b step = let clash : Booted b ≡ Done = step.2.0 in absurd (cc)
not_booted SyncBody n area host boot row old new b step = let clash : Booted b ≡ Done = step.2.0 in absurd (cc)
not_booted OpenGate n area host boot row old new b step = let clash : Booted b ≡ Done = step.2.0 in absurd (cc)
not_booted SyncOpened n area host boot row old new b step = let clash : Booted b ≡ Done = step.2.0 in absurd (cc)

not_told : (due : WriteCall) (n area host boot : ℕ) (row : List ℕ) (old new : DiskState) (bytes : List ℕ) → Step old (call_of due (number_write n area host row) boot) (Told bytes) new → ⊥
not_told CloseGate n area host boot row old new bytes step = let clash : Told bytes ≡ Done = step.2.0 in absurd (cc)
not_told SyncClosed n area host boot row old new bytes step = let clash : Told bytes ≡ Done = step.2.0 in absurd (cc)
not_told PutBody n area host boot row old new bytes step = let clash : Told bytes ≡ Done = step.2.0 in absurd (cc)
not_told SyncBody n area host boot row old new bytes step = let clash : Told bytes ≡ Done = step.2.0 in absurd (cc)
not_told OpenGate n area host boot row old new bytes step = let clash : Told bytes ≡ Done = step.2.0 in absurd (cc)
not_told SyncOpened n area host boot row old new bytes step = let clash : Told bytes ≡ Done = step.2.0 in absurd (cc)

module _ (n : ℕ) (row_fits : 4096 ≤ n) (rows : n % 4096 ≡ 0) (host : ℕ) (is_host : host < 16) (past : Past) (old new : DiskState) (room : 4096 + n + n ≤ length old.bytes) (marked : IsWhole old) (room_new : 4096 + n + n ≤ length new.bytes) (marked_new : IsWhole new)
    (lives : (first : DiskState) × Lives n host first past old) where
  module _ (Q : ℕ → ℕ → Type 0) (call : Call) (answer : Answer) (step : Step old call answer new) (writes : WritesNumber n host past call) (now : Q writes.area (numbers_in writes.row host)) (next : Q writes.area (numbers_in writes.row host + 1)) where
    abbrev due_call : Call
    due_call = call_of writes.due (number_write n writes.area host writes.row) writes.boot

    step_due : Step old due_call answer new
    step_due = subst (λ (x : Call). Step old x answer new) writes.is step

    either : (bytes : List ℕ) → (number_at (number_place n writes.area host) bytes ≡ counter_of (block_of cluster_version host writes.row)) ⊎ (number_at (number_place n writes.area host) bytes ≡ counter_of (block_of cluster_version host writes.row) + 1)
        → Q writes.area (number_at (number_place n writes.area host) bytes)
    either bytes (inl is) = subst (Q writes.area) (sym is) now
    either bytes (inr is) = subst (Q writes.area) (sym is) next

    placed_due : writes.boot ≡ old.boot → IsPlaced (number_write n writes.area host writes.row) old × IsDue writes.due (number_write n writes.area host writes.row) old
    placed_due under = due_is n row_fits rows host is_host writes.area writes.is_area old room writes.boot writes.row writes.due past lives.0 writes.beats marked lives.1 under

    placed_new : IsPlaced (number_write n writes.area host writes.row) old → IsPlaced (number_write n writes.area host writes.row) new
    placed_new placed = record { whole = marked_new; within = lies_on n writes.area host new writes.is_area is_host row_fits room_new; block = placed.block; body = placed.body; fits = placed.fits }

    own_by : (told : Answer) → Step old due_call told new → IsAlways (number_place n writes.area host) (Q writes.area) old → IsAlways (number_place n writes.area host) (Q writes.area) new
    own_by Done made_it is bytes may =
        let due = placed_due (under_of writes.due n writes.area host writes.boot writes.row old.boot made_it.1) in
        either bytes
        (tried (number_place n writes.area host) (block_of cluster_version host writes.row) beat_body new old due.0 (placed_new due.0) writes.due writes.boot Done due.1 tt made_it bytes may)
    own_by (Fault Failed) made_it is bytes may =
        let due = placed_due (under_of writes.due n writes.area host writes.boot writes.row old.boot made_it.1) in
        either bytes
        (tried (number_place n writes.area host) (block_of cluster_version host writes.row) beat_body new old due.0 (placed_new due.0) writes.due writes.boot (Fault Failed) due.1 tt made_it bytes may)
    own_by (Fault Reset) made_it is bytes may = always_same (number_place n writes.area host) (Q writes.area) old new made_it.2 is bytes may
    own_by (Fault Gone) made_it is bytes may = always_same (number_place n writes.area host) (Q writes.area) old new made_it.1 is bytes may
    own_by (Booted b) made_it is bytes may = absurd (not_booted writes.due n writes.area host writes.boot writes.row old new b made_it)
    own_by (Told read) made_it is bytes may = absurd (not_told writes.due n writes.area host writes.boot writes.row old new read made_it)

    -- it writes in no other block of standings
    leaves_by : (area g : ℕ) (x : Call) → InBlock (number_place n writes.area host) x → (number_place n area g + 256 ≤ number_place n writes.area host) ⊎ (number_place n writes.area host + 256 ≤ number_place n area g) → LeavesBlock cluster_version (number_place n area g) x
    unfolding InBlock
    leaves_by area g Attach inside off = tt
    leaves_by area g (Read boot at len) inside off = tt
    leaves_by area g (Sync boot) inside off = tt
    leaves_by area g (Write boot at from) inside (inl before) = let low = inside.0 in inr (omega (arith, before, low))
    leaves_by area g (Write boot at from) inside (inr behind) = let high = inside.1 in inl (omega (arith, behind, high))

    writes_by : (x : Call) → InBlock (number_place n writes.area host) x → number_place n writes.area host + 256 ≤ length old.bytes → WritesOn old x
    unfolding InBlock
    writes_by Attach inside lies = tt
    writes_by (Read boot at len) inside lies = tt
    writes_by (Sync boot) inside lies = tt
    writes_by (Write boot at from) inside lies = let high = inside.1 in omega (arith, high, lies)

    inside : InBlock (number_place n writes.area host) due_call
    inside = write_in n writes.area host (block_of cluster_version host writes.row) writes.boot writes.due

    pub number_kept : (area g : ℕ) → area < 2 → g < 16 → IsAlways (number_place n area g) (Q area) old → IsAlways (number_place n area g) (Q area) new
    number_kept area g is_area is_g is =
        elim (blocks_apart n area g writes.area host is_area is_g writes.is_area is_host) [
          | inl same ↦
              subst (λ (a : ℕ). IsAlways (number_place n a g) (Q a) new) (sym same.0)
              (subst (λ (x : ℕ). IsAlways (number_place n writes.area x) (Q writes.area) new) (sym same.1)
              (own_by answer step_due
              (subst (λ (x : ℕ). IsAlways (number_place n writes.area x) (Q writes.area) old) same.1 (subst (λ (a : ℕ). IsAlways (number_place n a g) (Q a) old) same.0 is))))
          | inr off ↦
              always_elsewhere (number_place n area g) (Q area) old new marked (lies_on n area g old is_area is_g row_fits room) is due_call answer
              (writes_by due_call inside (lies_on n writes.area host old writes.is_area is_host row_fits room)) (leaves_by area g due_call inside off) step_due
        ]

-- READINGS

-- what readings of rows of standings in a past showed are such numbers
abbrev pub AllRead : (n : ℕ) → (ℕ → ℕ → Type 0) → Past → Type 0
AllRead n Q past = (area boot : ℕ) (row : List ℕ) (early later : Past) → area < 2 → past ≡ early ++ reading n area boot row ∷ later → (g : ℕ) → g < 16 → Q area (numbers_in row g)

pub all_read_more : (n : ℕ) (Q : ℕ → ℕ → Type 0) (past : Past) (m : Made) → AllRead n Q past → ((area boot : ℕ) (row : List ℕ) → area < 2 → m ≡ reading n area boot row → (g : ℕ) → g < 16 → Q area (numbers_in row g)) → AllRead n Q (past ++ m ∷ [])
all_read_more n Q past m all last area boot row early later is_area is g is_g =
    elim (split_last (early ++ reading n area boot row ∷ []) later past m (is ∙ sym (append_assoc early (reading n area boot row ∷ []) later))) [
      | inl whole ↦ last area boot row is_area (sym (last_same early past (reading n area boot row) m whole)) g is_g
      | inr less ↦ all area boot row early less.0 is_area (less.1 ∙ append_assoc early (reading n area boot row ∷ []) less.0) g is_g
    ]
