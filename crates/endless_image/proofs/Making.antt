-- What a disk may be left with while an image is made endless in place, call by call.
use Rattle.std.specs.Prelude.{◌≡◌, ◌≢◌, ◌⊎◌, ◌+◌, ◌≤◌, ◌<◌, ℕ, Bool, true, false, List, [], ◌∷◌, length, replicate, slice_index, slice_index_or}
use Rattle.std.proofs.Common.{refl, sym, ◌∙◌, ap, subst, inl, inr, arith, get_or}
use Rattle.std.proofs.lemmas.Bool.{cases_eq, cases_lt}
use Rattle.std.proofs.lemmas.List.{ext_get_or, get_or-replicate, get_or_past, length-replicate}
use Rattle.disk.specs.declared.fault.DiskFault.{DiskFault}
use Rattle.disk.specs.Disk.{DiskState, Call, Attach, Read, Write, Sync, Answer, Done, Fault, Step, Crashes, written, synced, put_at}
use Rattle.disk.specs.Crash.{IsWhole, MayLeave}
use Rattle.disk.proofs.CrashLemmas.{length-put, put-below, put-inside, put-above, may_leave_synced, may_leave_crashed}
use Rattle.disk.proofs.StepLemmas.{step_keeps}
use Rattle.endless_image.specs.InPlace.{AllDone, EndsWithin, StopsBy, IsPatched, IsNew, IsLeft, IsReady, IsBegun, Leaves, making, finishing}

-- where a write is made
abbrev place_of : Call → ℕ
place_of Attach = 0
place_of (Read boot at len) = 0
place_of (Write boot at from) = at
place_of (Sync boot) = 0

abbrev bytes_of : Call → List ℕ
bytes_of Attach = []
bytes_of (Read boot at len) = []
bytes_of (Write boot at from) = from
bytes_of (Sync boot) = []

abbrev is_write : Call → Bool
is_write Attach = false
is_write (Read boot at len) = false
is_write (Write boot at from) = true
is_write (Sync boot) = false

no_write : (boot b at : ℕ) (from : List ℕ) → Sync boot ≡ Write b at from → ⊥
no_write boot b at from is = absurd (let f : false ≡ true = ap is_write is in cc f)

module _ (old : List ℕ) (header : 1024 ≤ length old) where
  -- The image on a disk, with these two bytes; positions that may be unsynced are this one.
  record Stands (version mark loose : ℕ) (disk : DiskState) : Type 0 where
    pub patched : IsPatched version mark old disk.bytes
    pub whole : IsWhole disk
    pub flags : (p : ℕ) → (slice_index_or disk.unsynced p false ≡ false) ⊎ (p ≡ loose)

  abbrev Rests : (version mark : ℕ) → DiskState → Type 0
  Rests version mark disk = (loose : ℕ) → Stands version mark loose disk

  -- WHAT A CRASH LEAVES

  may_mark : (version mark : ℕ) (disk : DiskState) → Stands version mark 24 disk → (bytes : List ℕ) → MayLeave disk bytes → (other : ℕ) × IsPatched version other old bytes
  may_mark version mark disk is bytes left = (
    slice_index bytes 24,
    record {
      as_many = left.as_many ∙ is.patched.as_many;
      at_version = elim (is.flags 1) [ inl synced ↦ left.same 1 synced ∙ is.patched.at_version | inr loose ↦ absurd (omega (arith, loose)) ];
      at_mark = refl;
      others = λ p one two. elim (is.flags p) [ inl synced ↦ left.same p synced ∙ is.patched.others p one two | inr loose ↦ absurd (two loose) ];
    },
  )

  may_turn : (version mark : ℕ) (disk : DiskState) → Stands version mark 1 disk → (bytes : List ℕ) → MayLeave disk bytes → (other : ℕ) × IsPatched other mark old bytes
  may_turn version mark disk is bytes left = (
    slice_index bytes 1,
    record {
      as_many = left.as_many ∙ is.patched.as_many;
      at_version = refl;
      at_mark = elim (is.flags 24) [ inl synced ↦ left.same 24 synced ∙ is.patched.at_mark | inr loose ↦ absurd (omega (arith, loose)) ];
      others = λ p one two. elim (is.flags p) [ inl synced ↦ left.same p synced ∙ is.patched.others p one two | inr loose ↦ absurd (one loose) ];
    },
  )

  -- WHAT A CALL LEAVES

  synced_flag : (n p : ℕ) → slice_index_or (replicate n false) p false ≡ false
  synced_flag n p =
      elim (cases_lt p n) [
        | inl below ↦ get_or-replicate n p false false below
        | inr past ↦ get_or_past (replicate n false) p false (omega (arith, past, length-replicate n false))
      ]

  rests_synced : (version mark : ℕ) (disk : DiskState) → IsPatched version mark old disk.bytes → Rests version mark (synced disk)
  rests_synced version mark disk is loose =
      record { patched = is; whole = length-replicate (length disk.bytes) false; flags = λ p. inl (synced_flag (length disk.bytes) p) }

  module _ (version mark : ℕ) (disk : DiskState) (rests : Rests version mark disk) (left : List ℕ) (one : length left ≡ 1) where
    room : length disk.bytes ≡ length old
    room = (rests 0).patched.as_many

    -- a byte at one place, and what was there at all others
    byte_at : (at : ℕ) → at < 1024 → slice_index (written disk at left).bytes at ≡ slice_index left 0
    byte_at at below =
        let inside = put-inside disk.bytes at left (omega (arith, one, room, header)) 0 0 (omega (arith, one)) in
        ap (λ (n : ℕ). get_or (put_at disk.bytes at left) n 0) (let e : at ≡ at + 0 = omega arith in e) ∙ inside

    byte_off : {X : Type 0} (l items : List X) (at p : ℕ) (d : X) → length items ≡ 1 → at + 1 ≤ length l → p ≢ at → get_or (put_at l at items) p d ≡ get_or l p d
    byte_off l items at p d single within off =
        elim (cases_lt p at) [
          | inl below ↦ put-below l at items (omega (arith, single, within)) d p below
          | inr from ↦ put-above l at items (omega (arith, single, within)) d p (omega (arith, single, from, off))
        ]

    flags_off : (at p : ℕ) → at < 1024 → (slice_index_or (written disk at left).unsynced p false ≡ false) ⊎ (p ≡ at)
    flags_off at p below =
        elim (cases_eq p at) [
          | inl same ↦ inr same
          | inr off ↦
              elim ((rests at).flags p) [
                | inl synced ↦ inl (byte_off disk.unsynced (replicate (length left) true) at p false (length-replicate (length left) true ∙ one) (omega (arith, (rests 0).whole, room, header)) off ∙ synced)
                | inr same ↦ absurd (off same)
              ]
        ]

    whole_after : (at : ℕ) → at < 1024 → IsWhole (written disk at left)
    whole_after at below =
        let bytes = length-put disk.bytes at left (omega (arith, one, room, header)) 0 in
        let flags = length-put disk.unsynced at (replicate (length left) true) (omega (arith, one, length-replicate (length left) true, (rests 0).whole, room, header)) false in
        flags ∙ (rests 0).whole ∙ sym bytes

    many_after : (at : ℕ) → at < 1024 → length (written disk at left).bytes ≡ length old
    many_after at below = length-put disk.bytes at left (omega (arith, one, room, header)) 0 ∙ room

    off_after : (at p : ℕ) → at < 1024 → p ≢ at → slice_index (written disk at left).bytes p ≡ slice_index disk.bytes p
    off_after at p below off = byte_off disk.bytes left at p 0 one (omega (arith, room, header)) off

    wrote_mark : Stands version (slice_index left 0) 24 (written disk 24 left)
    wrote_mark =
        record {
          patched =
              record {
                as_many = many_after 24 (omega arith);
                at_version = off_after 24 1 (omega arith) (λ same. absurd (omega (arith, same))) ∙ (rests 0).patched.at_version;
                at_mark = byte_at 24 (omega arith);
                others = λ p not_one not_two. off_after 24 p (omega arith) not_two ∙ (rests 0).patched.others p not_one not_two;
              };
          whole = whole_after 24 (omega arith);
          flags = λ p. flags_off 24 p (omega arith);
        }

    wrote_version : Stands (slice_index left 0) mark 1 (written disk 1 left)
    wrote_version =
        record {
          patched =
              record {
                as_many = many_after 1 (omega arith);
                at_version = byte_at 1 (omega arith);
                at_mark = off_after 1 24 (omega arith) (λ same. absurd (omega (arith, same))) ∙ (rests 0).patched.at_mark;
                others = λ p not_one not_two. off_after 1 p (omega arith) not_one ∙ (rests 0).patched.others p not_one not_two;
              };
          whole = whole_after 1 (omega arith);
          flags = λ p. flags_off 1 p (omega arith);
        }

  -- whatever a write of the mark, or of the version, is answered
  any_mark : (version mark boot byte : ℕ) (disk new : DiskState) (answer : Answer) → Rests version mark disk → Step disk (Write boot 24 (byte ∷ [])) answer new → (other : ℕ) × Stands version other 24 new
  any_mark version mark boot byte disk new answer rests step =
      let P : DiskState → Type 0 = λ d. (other : ℕ) × Stands version other 24 d in
      step_keeps P disk new (Write boot 24 (byte ∷ [])) answer
      (record {
        writes =
            λ b at from left is as_many.
            (let place : 24 ≡ at = ap place_of is in
            let many : length left ≡ 1 = as_many ∙ sym (ap (λ (c : Call). length (bytes_of c)) is) in
            subst (λ (n : ℕ). P (written disk n left)) place (slice_index left 0, wrote_mark version mark disk rests left many));
        syncs = (mark, rests_synced version mark disk (rests 0).patched 24);
        stays = (mark, rests 24);
      })
      step

  any_version : (version mark boot byte : ℕ) (disk new : DiskState) (answer : Answer) → Rests version mark disk → Step disk (Write boot 1 (byte ∷ [])) answer new → (other : ℕ) × Stands other mark 1 new
  any_version version mark boot byte disk new answer rests step =
      let P : DiskState → Type 0 = λ d. (other : ℕ) × Stands other mark 1 d in
      step_keeps P disk new (Write boot 1 (byte ∷ [])) answer
      (record {
        writes =
            λ b at from left is as_many.
            (let place : 1 ≡ at = ap place_of is in
            let many : length left ≡ 1 = as_many ∙ sym (ap (λ (c : Call). length (bytes_of c)) is) in
            subst (λ (n : ℕ). P (written disk n left)) place (slice_index left 0, wrote_version version mark disk rests left many));
        syncs = (version, rests_synced version mark disk (rests 0).patched 1);
        stays = (version, rests 1);
      })
      step

  any_sync : (version mark loose boot : ℕ) (disk new : DiskState) (answer : Answer) → Stands version mark loose disk → Step disk (Sync boot) answer new → Stands version mark loose new
  any_sync version mark loose boot disk new answer stands step =
      step_keeps (Stands version mark loose) disk new (Sync boot) answer
      (record {
        writes = λ b at from left is as_many. absurd (no_write boot b at from is);
        syncs = rests_synced version mark disk stands.patched loose;
        stays = stands;
      })
      step

  -- and where they are answered well
  done_mark : (version mark boot byte : ℕ) (disk new : DiskState) → Rests version mark disk → Step disk (Write boot 24 (byte ∷ [])) Done new → Stands version byte 24 new
  done_mark version mark boot byte disk new rests step =
      subst (Stands version byte 24) (sym step.2.1) (wrote_mark version mark disk rests (byte ∷ []) refl)

  done_version : (version mark boot byte : ℕ) (disk new : DiskState) → Rests version mark disk → Step disk (Write boot 1 (byte ∷ [])) Done new → Stands byte mark 1 new
  done_version version mark boot byte disk new rests step =
      subst (Stands byte mark 1) (sym step.2.1) (wrote_version version mark disk rests (byte ∷ []) refl)

  done_sync : (version mark loose boot : ℕ) (disk new : DiskState) → Stands version mark loose disk → Step disk (Sync boot) Done new → Rests version mark new
  done_sync version mark loose boot disk new stands step =
      subst (Rests version mark) (sym step.2.1) (rests_synced version mark disk stands.patched)

  -- WHICH OF THE THREE IT IS

  unmarked : slice_index old 1 ≡ 2 → slice_index old 24 ≡ 0 → (bytes : List ℕ) → IsPatched 2 0 old bytes → bytes ≡ old
  unmarked version mark bytes is =
      ext_get_or 0 bytes old is.as_many
      (λ p inside.
      elim (cases_eq p 1) [
        | inl one ↦ ap (slice_index bytes) one ∙ is.at_version ∙ sym version ∙ ap (slice_index old) (sym one)
        | inr not_one ↦
            elim (cases_eq p 24) [
              | inl two ↦ ap (slice_index bytes) two ∙ is.at_mark ∙ sym mark ∙ ap (slice_index old) (sym two)
              | inr not_two ↦ is.others p not_one not_two
            ]
      ])

  left_new : (mark : ℕ) (disk : DiskState) → Stands 4 mark 24 disk → Leaves old disk
  left_new mark disk is bytes left =
      let other = may_mark 4 mark disk is bytes left in
      elim (cases_eq other.0 0) [
        | inl none ↦ inr (inr (subst (λ (m : ℕ). IsPatched 4 m old bytes) none other.1))
        | inr some ↦ inr (inl (4, other.0, some, other.1))
      ]

  left_old : slice_index old 1 ≡ 2 → slice_index old 24 ≡ 0 → (mark : ℕ) (disk : DiskState) → Stands 2 mark 24 disk → Leaves old disk
  left_old version unmark mark disk is bytes left =
      let other = may_mark 2 mark disk is bytes left in
      elim (cases_eq other.0 0) [
        | inl none ↦ inl (unmarked version unmark bytes (subst (λ (m : ℕ). IsPatched 2 m old bytes) none other.1))
        | inr some ↦ inr (inl (2, other.0, some, other.1))
      ]

  left_marked : (version mark : ℕ) (disk : DiskState) → mark ≢ 0 → Stands version mark 1 disk → Leaves old disk
  left_marked version mark disk some is bytes left = let other = may_turn version mark disk is bytes left in inr (inl (other.0, mark, some, other.1))

  -- THE CALLS, FROM THE LAST ONE ON

  abbrev last_calls : ℕ → List Call
  last_calls boot = Write boot 24 (0 ∷ []) ∷ Sync boot ∷ []

  abbrev version_calls : ℕ → List Call
  version_calls boot = Write boot 1 (4 ∷ []) ∷ Sync boot ∷ last_calls boot

  at_last : (mark boot : ℕ) (start new : DiskState) → mark ≢ 0 → Rests 4 mark start → EndsWithin Step (last_calls boot) start new → Leaves old new
  at_last mark boot start new some rests (inl same) = subst (Leaves old) (sym same) (left_new mark start (rests 24))
  at_last mark boot start new some rests (inr (inl step)) = let is = any_mark 4 mark boot 0 start new step.0 rests step.1 in left_new is.0 new is.1
  at_last mark boot start new some rests (inr (inr (between, step, inl same))) =
      subst (Leaves old) (sym same) (left_new 0 between (done_mark 4 mark boot 0 start between rests step))
  at_last mark boot start new some rests (inr (inr (between, step, inr (inl sync)))) =
      left_new 0 new (any_sync 4 0 24 boot between new sync.0 (done_mark 4 mark boot 0 start between rests step) sync.1)
  at_last mark boot start new some rests (inr (inr (between, step, inr (inr (end, sync, same))))) =
      subst (Leaves old) (sym same) (left_new 0 end (done_sync 4 0 24 boot between end (done_mark 4 mark boot 0 start between rests step) sync 24))

  at_version : (version mark boot : ℕ) (start new : DiskState) → mark ≢ 0 → Rests version mark start → EndsWithin Step (version_calls boot) start new → Leaves old new
  at_version version mark boot start new some rests (inl same) = subst (Leaves old) (sym same) (left_marked version mark start some (rests 1))
  at_version version mark boot start new some rests (inr (inl step)) =
      let is = any_version version mark boot 4 start new step.0 rests step.1 in left_marked is.0 mark new some is.1
  at_version version mark boot start new some rests (inr (inr (between, step, inl same))) =
      subst (Leaves old) (sym same) (left_marked 4 mark between some (done_version version mark boot 4 start between rests step))
  at_version version mark boot start new some rests (inr (inr (between, step, inr (inl sync)))) =
      left_marked 4 mark new some (any_sync 4 mark 1 boot between new sync.0 (done_version version mark boot 4 start between rests step) sync.1)
  at_version version mark boot start new some rests (inr (inr (between, step, inr (inr (next, sync, ends))))) =
      at_last mark boot next new some (done_sync 4 mark 1 boot between next (done_version version mark boot 4 start between rests step) sync) ends

  ready : (start : DiskState) → IsReady old start → Rests 2 0 start
  ready start is loose =
      record {
        patched =
            record {
              as_many = ap length is.bytes;
              at_version = ap (λ (l : List ℕ). slice_index l 1) is.bytes ∙ is.version;
              at_mark = ap (λ (l : List ℕ). slice_index l 24) is.bytes ∙ is.mark;
              others = λ p one two. ap (λ (l : List ℕ). slice_index l p) is.bytes;
            };
        whole = is.whole;
        flags = λ p. inl (is.synced p);
      }

  pub moments_from : (boot : ℕ) (start new : DiskState) → IsReady old start → EndsWithin Step (making boot) start new → Leaves old new
  moments_from boot start new is (inl same) = subst (Leaves old) (sym same) (left_old is.version is.mark 0 start (ready start is 24))
  moments_from boot start new is (inr (inl step)) =
      let stands = any_mark 2 0 boot 1 start new step.0 (ready start is) step.1 in left_old is.version is.mark stands.0 new stands.1
  moments_from boot start new is (inr (inr (between, step, inl same))) =
      subst (Leaves old) (sym same) (left_old is.version is.mark 1 between (done_mark 2 0 boot 1 start between (ready start is) step))
  moments_from boot start new is (inr (inr (between, step, inr (inl sync)))) =
      left_old is.version is.mark 1 new (any_sync 2 1 24 boot between new sync.0 (done_mark 2 0 boot 1 start between (ready start is) step) sync.1)
  moments_from boot start new is (inr (inr (between, step, inr (inr (next, sync, ends))))) =
      at_version 2 1 boot next new (λ none. absurd (omega (arith, none))) (done_sync 2 1 24 boot between next (done_mark 2 0 boot 1 start between (ready start is) step) sync) ends

  -- a mark that is there, and whatever else was left
  pub again_from : (boot : ℕ) (start new : DiskState) → IsBegun old start → EndsWithin Step (finishing boot) start new → Leaves old new
  again_from boot start new begun (inl same) = subst (Leaves old) (sym same) begun.leaves
  again_from boot start new begun (inr (inl sync)) =
      step_keeps (Leaves old) start new (Sync boot) sync.0
      (record {
        writes = λ b at from left is as_many. absurd (no_write boot b at from is);
        syncs = λ bytes left. subst (IsLeft old) (sym (may_leave_synced start bytes left)) (inr (inl begun.marked));
        stays = begun.leaves;
      })
      sync.1
  again_from boot start new begun (inr (inr (between, sync, ends))) =
      let is = begun.marked in
      at_version is.0 is.1 boot between new is.2 (subst (Rests is.0 is.1) (sym sync.2.1) (rests_synced is.0 is.1 start is.3)) ends

  -- where all are answered well
  all_done : (version mark boot : ℕ) (start new : DiskState) → Rests version mark start → AllDone Step (version_calls boot) start new → (bytes : List ℕ) → MayLeave new bytes → IsNew old bytes
  all_done version mark boot start new rests made bytes left =
      let wrote = done_version version mark boot 4 start made.0 rests made.1 in
      let sure = done_sync 4 mark 1 boot made.0 made.2.0 wrote made.2.1 in
      let took = done_mark 4 mark boot 0 made.2.0 made.2.2.0 sure made.2.2.1 in
      let done = done_sync 4 0 24 boot made.2.2.0 made.2.2.2.0 took made.2.2.2.1 in
      let there : Rests 4 0 new = subst (Rests 4 0) (sym made.2.2.2.2) done in
      let version_is = may_mark 4 0 new (there 24) bytes left in
      let mark_is = may_turn 4 0 new (there 1) bytes left in
      record { as_many = version_is.1.as_many; at_version = version_is.1.at_version; at_mark = mark_is.1.at_mark; others = mark_is.1.others }

  pub finished_from : (boot : ℕ) (start new : DiskState) → IsBegun old start → AllDone Step (finishing boot) start new → (bytes : List ℕ) → MayLeave new bytes → IsNew old bytes
  finished_from boot start new begun made =
      let is = begun.marked in
      all_done is.0 is.1 boot made.0 new (subst (Rests is.0 is.1) (sym made.1.2.1) (rests_synced is.0 is.1 start is.3)) made.2

  pub made_from : (boot : ℕ) (start new : DiskState) → IsReady old start → AllDone Step (making boot) start new → (bytes : List ℕ) → MayLeave new bytes → IsNew old bytes
  made_from boot start new is made =
      let wrote = done_mark 2 0 boot 1 start made.0 (ready start is) made.1 in
      all_done 2 1 boot made.2.0 new (done_sync 2 1 24 boot made.0 made.2.0 wrote made.2.1) made.2.2

-- a run that stops by a fault ends within its calls
pub stops_within : (calls : List Call) (fault : DiskFault) (old new : DiskState) → StopsBy Step calls fault old new → EndsWithin Step calls old new
stops_within [] fault old new stops = absurd stops
stops_within (call ∷ calls) fault old new (inl step) = inr (inl (Fault fault, step))
stops_within (call ∷ calls) fault old new (inr (between, step, stops)) = inr (inr (between, step, stops_within calls fault between new stops))

-- so it is after a crash
pub leaves_crashed : (old : List ℕ) (disk new : DiskState) → Leaves old disk → Crashes disk new → Leaves old new
leaves_crashed old disk new leaves crash bytes left = subst (IsLeft old) (sym (may_leave_crashed disk new bytes crash left)) (leaves new.bytes crash.bytes)
