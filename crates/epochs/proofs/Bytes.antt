-- Numbers in rows of standings through what is done once to a disk: what is told of its bytes alone is an act.
use Rattle.std.specs.Prelude.{◌⊎◌, ◌%◌, ◌&&◌, if◌then◌else◌, replicate}
use Rattle.std.proofs.Common.{ℕ, ◌≡◌, ◌+◌, ◌≤◌, ◌<◌, ◌==◌, Bool, true, false, true≢false, List, [], ◌∷◌, length, get_or, refl, sym, ◌∙◌, ap, subst, inl, inr, arith}
use Rattle.std.proofs.lemmas.Bool.{cases_lt, eq-eqb}
use Rattle.std.proofs.lemmas.List.{get_or-replicate, length-replicate, ext_get_or}
use Rattle.disk.specs.declared.fault.DiskFault.TheVariants.{Reset, Failed, Gone}
use Rattle.disk.specs.Disk.{DiskState, Call, Attach, Read, Write, Sync, Answer, Booted, Told, Done, Fault, Step, FailureLeaves, KeepsSynced, written, synced, lost, done_by}
use Rattle.disk.specs.Crash.{MayLeave}
use Rattle.disk.specs.Steps.{HasShape}
use Rattle.disk.proofs.CrashLemmas.{length-put, put-below, put-above, may_leave_now, may_leave_synced, may_leave_written}
use Rattle.disk.proofs.StepLemmas.{shape_written}
use Rattle.torn_block.specs.Layout.{cluster_version}
use Rattle.torn_block.specs.declared.write_steps.WriteCall.{WriteCall}
use Rattle.torn_block.specs.declared.write_steps.WriteCall.TheVariants.{CloseGate, SyncClosed, PutBody, SyncBody, OpenGate, SyncOpened}
use Rattle.torn_block.specs.Block.{is_open, copy_of, target_of, next_sequence}
use Rattle.torn_block.specs.Place.{offset_of}
use Rattle.torn_block.specs.Register.{IsOutside}
use Rattle.torn_block.specs.Stage.{Write128, gate_of, closing, new_tail, call_of, IsPlaced, IsDue}
use Rattle.torn_block.proofs.PlaceLaws.{block_elsewhere, offset_fits, length-tail_with}
use Rattle.torn_block.proofs.StageLaws.{reads_closed, reads_same}
use Rattle.heartbeat.specs.Beat.{beat_body, counter_at, counter_of}
use Rattle.paxos_block.specs.Shape.{Shape}
use Rattle.world.specs.Entry.{Filled, Start, Stop, Begin, Called, Crashed, Lost, Migrated}
use Rattle.world.specs.Entry as entries
use Rattle.epochs.specs.Showing.{host_at, moved, masked_in, IsCleared}
use Rattle.epochs.specs.Numbers.{write_over, IsTried}
use Rattle.epochs.specs.Acts.{Epoch, base_of, Shared, Act, In, Beside, Turns, Ends, Replaced, sure_by, IsShown, IsInside, MayMake, WritesBeside, IsTurned, IsTurning, GoesBy}
use Rattle.epochs.specs.Bytes.{number_place, number_of, IsSurely, AreShown, AreInside, MayCall, IsAnswered, IsUntold, IsCutOff, HappensIn, IsBeat, IsApart, IsNew, GoesTo}
use Rattle.epochs.proofs.Numbers.{tried}
use Rattle.epochs.proofs.Standings.{cleared_written, cleared_lost}
use Rattle.epochs.proofs.Blocks.{body_fits, blocks_apart, lies_on, area_room, few_at, off_rows, off_area, within_area}
use Rattle.epochs.proofs.Ties.{numbers, numbers_is, no_area, no_host, same_at, same_numbers, kept_written, IsReady, IsOutcome, Ties, shared}

-- DISKS THAT ARE WRITTEN

module _ (n : ℕ) (whole : DiskState) (kept : List ℕ) (ties : Ties n whole kept) where
  -- no byte of the host's blocks in its area is in the range
  LeavesHost : (area host at len : ℕ) → Type 0
  LeavesHost area host at len = (p : ℕ) → 4096 ≤ p → p < n → host_at p ≡ host → (base_of n area + p < at) ⊎ (at + len ≤ base_of n area + p)

  module _ (at : ℕ) (from : List ℕ) (fits : at + length from ≤ length whole.bytes) where
    shape_new : HasShape (length whole.bytes) (written whole at from)
    shape_new = shape_written (length whole.bytes) whole at from fits (ties.marked, refl)

    room_new : 4096 + n + n ≤ length (written whole at from).bytes
    room_new = omega (arith, ties.room, shape_new.1)

    -- of a host whose block of standings is outside
    module _ (area host : ℕ) (is_area : area < 2) (is_host : host < 16) (off : IsOutside cluster_version (number_place n area host) at (length from)) where
      number_now : number_of n area host (written whole at from).bytes ≡ number_of n area host whole.bytes
      number_now =
          ap counter_of
          (block_elsewhere cluster_version (number_place n area host) at (length from) whole.bytes (written whole at from).bytes (lies_on n area host whole is_area is_host ties.row ties.room)
          (record {
            as_many = length-put whole.bytes at from fits 0;
            below = λ p below. put-below whole.bytes at from fits 0 p below;
            above = λ p above. put-above whole.bytes at from fits 0 p above;
          })
          off)

      outcome_by : (bytes old : List ℕ) → number_of n area host bytes ≡ number_of n area host old → (IsReady n area host whole kept → number_of n area host old ≡ number_of n area host whole.bytes + 1 → IsReady n area host (written whole at from) kept) →
          IsOutcome n area host whole kept old → IsOutcome n area host (written whole at from) kept bytes
      unfolding IsOutcome
      outcome_by bytes old same ready (inl was) = inl (same ∙ was)
      outcome_by bytes old same ready (inr (inl was)) = inr (inl (same ∙ was ∙ sym number_now))
      outcome_by bytes old same ready (inr (inr next)) = inr (inr (same ∙ next.0 ∙ ap (λ (m : ℕ). m + 1) (sym number_now), ready next.1 next.0))

      outcome_apart : ((old : List ℕ) → MayLeave whole old → number_of n area host old ≡ number_of n area host whole.bytes + 1 → LeavesHost area host at (length from)) →
          (bytes : List ℕ) → MayLeave (written whole at from) bytes → IsOutcome n area host (written whole at from) kept bytes
      unfolding IsReady LeavesHost
      outcome_apart leaves bytes may =
          let a = may_leave_written whole at from bytes ties.marked fits may in
          let many = a.1.as_many in
          let same : number_of n area host bytes ≡ number_of n area host a.0 =
          ap counter_of (block_elsewhere cluster_version (number_place n area host) at (length from) a.0 bytes (omega (arith, is_area, is_host, ties.row, ties.room, many)) a.2 off) in
          outcome_by bytes a.0 same (λ ready next. (
            number_now ∙ ready.0,
            λ odd. cleared_written n (base_of n area) host whole (area_room n area (length whole.bytes) is_area ties.room) ties.marked (ready.1 odd) at from fits (leaves a.0 a.1 next),
          ))
          (ties.left area host is_area is_host a.0 a.1)

    -- A write in no row of standings, of blocks of hosts whose numbers are sure.
    AreSure : Type 0
    AreSure = (area p : ℕ) → area < 2 → 4096 ≤ p → p < n → at ≤ base_of n area + p → base_of n area + p < at + length from → (number : ℕ) × IsSurely n area (host_at p) number whole

    module _ (off : (at + length from ≤ n) ⊎ (n + 4096 + 4096 ≤ at)) (sure : AreSure) where
      off_block : (area host : ℕ) → area < 2 → host < 16 → IsOutside cluster_version (number_place n area host) at (length from)
      off_block area host is_area is_host = elim off [ inl before ↦ inl (omega (arith, before)) | inr behind ↦ inr (omega (arith, behind, is_area, is_host)) ]

      leaves_ready : (area host : ℕ) → area < 2 → (old : List ℕ) → MayLeave whole old → number_of n area host old ≡ number_of n area host whole.bytes + 1 → LeavesHost area host at (length from)
      unfolding LeavesHost AreSure
      leaves_ready area host is_area old may next p high below own =
          elim (cases_lt (base_of n area + p) at) [
            | inl before ↦ inl before
            | inr from_there ↦
                elim (cases_lt (base_of n area + p) (at + length from)) [
                  | inl within ↦
                      (let is = sure area p is_area high below from_there within in
                      let surely : IsSurely n area host is.0 whole = subst (λ (g : ℕ). IsSurely n area g is.0 whole) own is.1 in
                      let before = surely old may in
                      let now = surely whole.bytes (may_leave_now whole) in
                      absurd (omega (arith, before, now, next)))
                  | inr behind ↦ inr behind
                ]
          ]

      written_apart : Ties n (written whole at from) kept × (numbers n (written whole at from).bytes ≡ numbers n whole.bytes)
      written_apart = (
        record {
          row = ties.row;
          room = room_new;
          marked = shape_new.0;
          may = kept_written whole kept at from ties.marked fits ties.may;
          left = λ area host is_area is_host. outcome_apart area host is_area is_host (off_block area host is_area is_host) (leaves_ready area host is_area);
        },
        same_numbers n (written whole at from).bytes whole.bytes (λ area host is_area is_host. number_now area host is_area is_host (off_block area host is_area is_host)),
      )

  -- ONE CALL

  -- after a call numbers are seen as before, and a sync that succeeds makes them sure
  record Keeps (call : Call) (answer : Answer) (new : DiskState) : Type 0 where
    kept_new : List ℕ
    ties_new : Ties n new kept_new
    seen_new : numbers n new.bytes ≡ numbers n whole.bytes
    sure_new : numbers n kept_new ≡ sure_by call answer (shared n whole kept)

  keeps_all : (call : Call) (answer : Answer) (new : DiskState) → numbers n kept ≡ sure_by call answer (shared n whole kept) → new ≡ whole → Keeps call answer new
  keeps_all call answer new same is =
      record {
        kept_new = kept;
        ties_new = subst (λ (d : DiskState). Ties n d kept) (sym is) ties;
        seen_new = ap (λ (d : DiskState). numbers n d.bytes) is;
        sure_new = same;
      }

  ties_synced : Ties n (synced whole) whole.bytes
  unfolding IsOutcome
  ties_synced =
      record {
        row = ties.row;
        room = ties.room;
        marked = length-replicate (length whole.bytes) false;
        may = record { as_many = refl; same = λ p flag. refl };
        left = λ area host is_area is_host bytes may. inl (ap (number_of n area host) (may_leave_synced whole bytes may));
      }

  -- a call that leaves the disk where it succeeds, and where it fails
  same_by : (call : Call) (new : DiskState) → done_by whole call ≡ whole → (FailureLeaves call whole new → new ≡ whole) → (answer : Answer) → Step whole call answer new → new ≡ whole
  same_by call new done failed (Booted boot) step = step.2.1 ∙ done
  same_by call new done failed (Told bytes) step = step.2.1 ∙ done
  same_by call new done failed Done step = step.2.1 ∙ done
  same_by call new done failed (Fault Gone) step = step.1
  same_by call new done failed (Fault Reset) step = step.2
  same_by call new done failed (Fault Failed) step = failed step.2

  -- what a write leaves: the disk as it was, or some bytes in its range, and then it was tried
  record Leaves (boot at : ℕ) (from : List ℕ) (answer : Answer) (new : DiskState) : Type 0 where
    left : List ℕ
    as_many : length left ≡ length from
    is : new ≡ written whole at left
    tried_it : IsTried answer
    under : boot ≡ whole.boot

  leaves_by : (boot at : ℕ) (from : List ℕ) (answer : Answer) (new : DiskState) → Step whole (Write boot at from) answer new → (new ≡ whole) ⊎ Leaves boot at from answer new
  leaves_by boot at from (Booted b) new step = absurd (let clash : Booted b ≡ Done = step.2.0 in cc)
  leaves_by boot at from (Told bytes) new step = absurd (let clash : Told bytes ≡ Done = step.2.0 in cc)
  leaves_by boot at from Done new step = inr (record { left = from; as_many = refl; is = step.2.1; tried_it = tt; under = step.1 })
  leaves_by boot at from (Fault Gone) new step = inl step.1
  leaves_by boot at from (Fault Reset) new step = inl step.2
  leaves_by boot at from (Fault Failed) new step = inr (record { left = step.2.left; as_many = step.2.as_many; is = step.2.leaves; tried_it = tt; under = step.1 })

  sync_by : (boot : ℕ) (answer : Answer) (new : DiskState) → Step whole (Sync boot) answer new → Keeps (Sync boot) answer new
  unfolding shared
  sync_by boot (Booted b) new step = absurd (let clash : Booted b ≡ Done = step.2.0 in cc)
  sync_by boot (Told bytes) new step = absurd (let clash : Told bytes ≡ Done = step.2.0 in cc)
  sync_by boot Done new step =
      record {
        kept_new = whole.bytes;
        ties_new = subst (λ (d : DiskState). Ties n d whole.bytes) (sym step.2.1) ties_synced;
        seen_new = ap (λ (d : DiskState). numbers n d.bytes) step.2.1;
        sure_new = refl;
      }
  sync_by boot (Fault Gone) new step = keeps_all (Sync boot) (Fault Gone) new refl step.1
  sync_by boot (Fault Reset) new step = keeps_all (Sync boot) (Fault Reset) new refl step.2
  sync_by boot (Fault Failed) new step = keeps_all (Sync boot) (Fault Failed) new refl step.2

  -- a call in no row of standings, which writes of an area blocks of hosts whose numbers are sure
  IsOff : Call → Type 0
  IsOff Attach = Unit {0}
  IsOff (Read boot at len) = Unit {0}
  IsOff (Write boot at from) =
      (at + length from ≤ length whole.bytes) × ((at + length from ≤ n) ⊎ (n + 4096 + 4096 ≤ at))
      × ((area p : ℕ) → area < 2 → 4096 ≤ p → p < n → at ≤ base_of n area + p → base_of n area + p < at + length from → (number : ℕ) × IsSurely n area (host_at p) number whole)
  IsOff (Sync boot) = Unit {0}

  keeps_by : (call : Call) (answer : Answer) (new : DiskState) → IsOff call → Step whole call answer new → Keeps call answer new
  unfolding IsOff AreSure shared
  keeps_by Attach answer new off step = keeps_all Attach answer new refl (same_by Attach new refl (λ same. same) answer step)
  keeps_by (Read boot at len) answer new off step = keeps_all (Read boot at len) answer new refl (same_by (Read boot at len) new refl (λ same. same) answer step)
  keeps_by (Write boot at from) answer new off step =
      elim (leaves_by boot at from answer new step) [
        | inl same ↦ keeps_all (Write boot at from) answer new refl same
        | inr leaves ↦
            (let many = leaves.as_many in
            let fits = off.0 in
            let by =
            written_apart at leaves.left (omega (arith, many, fits))
            (elim off.1 [ inl before ↦ inl (omega (arith, many, before)) | inr behind ↦ inr behind ])
            (λ area p is_area high below from_there within. off.2 area p is_area high below from_there (omega (arith, many, within))) in
            record {
              kept_new = kept;
              ties_new = subst (λ (d : DiskState). Ties n d kept) (sym leaves.is) by.0;
              seen_new = ap (λ (d : DiskState). numbers n d.bytes) leaves.is ∙ by.1;
              sure_new = refl;
            })
      ]
  keeps_by (Sync boot) answer new off step = sync_by boot answer new step

  -- ACTS

  module _ (IsCrash : DiskState → DiskState → Type 0) (c : Shape) (k : ℕ) where
    -- the act, perhaps behind the turn of a number
    unfoldable pub GoesOver : Act → Shared → Type 0
    GoesOver act new =
        GoesBy IsCrash c k n (shared n whole kept) act new
        ⊎ ((mid : Shared) × (area : ℕ) × (host : ℕ) × GoesBy IsCrash c k n (shared n whole kept) (Turns area host) mid × GoesBy IsCrash c k n mid act new)

    pub record Follows (act : Act) (new : DiskState) : Type 0 where
      pub kept_then : List ℕ
      pub ties_then : Ties n new kept_then
      pub goes : GoesOver act (shared n new kept_then)

    -- AN EPOCH'S

    module _ (e : Epoch) (e_area : e.area < 2) (e_even : e.number % 2 ≡ 0) (shown : ℕ → Bool) where
      sure_here : (host : ℕ) → host < 16 → IsSurely n e.area host e.number whole → (numbers n kept e.area host ≡ e.number) × (numbers n whole.bytes e.area host ≡ e.number)
      sure_here host is_host surely = (
        numbers_is n kept e.area host e_area is_host ∙ surely kept ties.may,
        numbers_is n whole.bytes e.area host e_area is_host ∙ surely whole.bytes (may_leave_now whole),
      )

      is_shown : AreShown n e shown whole.bytes → IsShown e shown (shared n whole kept)
      unfolding shared
      is_shown given host is_host =
          let is = numbers_is n whole.bytes e.area host e_area is_host in
          elim (given host is_host) [
            | inl with_it ↦ inl (with_it.0, is ∙ with_it.1)
            | inr without ↦ (let less = without.1 in inr (without.0, omega (arith, is, less)))
          ]

      is_inside : (at len : ℕ) → AreInside n e at len whole → IsInside n e at len (shared n whole kept)
      unfolding shared
      is_inside at len inside = (inside.0, inside.1, λ p from_there within. sure_here (host_at p) (few_at p) (inside.2 p from_there within))

      may_make : (call : Call) → MayCall n e shown whole call → MayMake n e shown (shared n whole kept) call
      may_make Attach may = tt
      may_make (Read boot at len) may = (may.0, may.1, may.2, is_shown may.3)
      may_make (Write boot at from) may = is_inside at (length from) may
      may_make (Sync boot) may = tt

      -- its bytes are of hosts that are surely inside
      inside_off : (at len : ℕ) → AreInside n e at len whole → (area p : ℕ) → area < 2 → 4096 ≤ p → p < n → base_of n e.area + at ≤ base_of n area + p → base_of n area + p < base_of n e.area + at + len →
          (number : ℕ) × IsSurely n area (host_at p) number whole
      inside_off at len inside area p is_area high below from_there within =
          let is = within_area n e.area at len area p e_area is_area inside.0 inside.1 high below from_there within in
          (e.number, subst (λ (a : ℕ). IsSurely n a (host_at p) e.number whole) (sym is.0) (inside.2 p is.1 is.2))

      fits_here : (at len : ℕ) → AreInside n e at len whole → base_of n e.area + at + len ≤ length whole.bytes
      fits_here at len inside =
          let ends = inside.1 in
          let room = area_room n e.area (length whole.bytes) e_area ties.room in
          omega (arith, ends, room)

      is_off : (call : Call) → MayCall n e shown whole call → IsOff (moved (base_of n e.area) call)
      unfolding IsOff
      is_off Attach may = tt
      is_off (Read boot at len) may = tt
      is_off (Write boot at from) may = (fits_here at (length from) may, off_area n e.area at (length from) e_area may.0 may.1, inside_off at (length from) may)
      is_off (Sync boot) may = tt

      -- the mask leaves what a sync answers
      sure_masked : (s : Shared) (call : Call) (told : Answer) → sure_by (moved (base_of n e.area) call) told s ≡ sure_by call (masked_in shown told) s
      sure_masked s Attach told = refl
      sure_masked s (Read boot at len) told = refl
      sure_masked s (Write boot at from) told = refl
      sure_masked s (Sync boot) (Booted b) = refl
      sure_masked s (Sync boot) (Told bytes) = refl
      sure_masked s (Sync boot) Done = refl
      sure_masked s (Sync boot) (Fault fault) = refl

      answered : (h d : ℕ) (call : Call) (answer : Answer) (left : List ℕ) (new : DiskState) → IsAnswered n e shown whole new call answer → Follows (In e shown (Called h d call answer left)) new
      unfolding shared GoesOver
      answered h d call answer left new is =
          let by = keeps_by (moved (base_of n e.area) call) is.told new (is_off call is.may) is.step in
          record {
            kept_then = by.kept_new;
            ties_then = by.ties_new;
            goes = inl (
              e_area,
              e_even,
              inl (record {
                told = is.told;
                may = may_make call is.may;
                step = is.step;
                given = is.given;
                seen = by.seen_new;
                sure = by.sure_new ∙ sure_masked (shared n whole kept) call is.told ∙ ap (λ (a : Answer). sure_by call a (shared n whole kept)) (sym is.given);
              }),
            );
          }

      untold : (h d : ℕ) (call : Call) (answer : Answer) (left : List ℕ) (new : DiskState) → IsUntold whole new call answer → Follows (In e shown (Called h d call answer left)) new
      unfolding shared GoesOver
      untold h d call answer left new is =
          let same = same_by (Read is.boot is.at is.len) new refl (λ same. same) (Fault is.fault) is.step in
          record {
            kept_then = kept;
            ties_then = subst (λ (d : DiskState). Ties n d kept) (sym same) ties;
            goes = inl (
              e_area,
              e_even,
              inr (record {
                boot = is.boot;
                at = is.at;
                len = is.len;
                fault = is.fault;
                is = is.is;
                given = is.given;
                step = subst (Step whole (Read is.boot is.at is.len) (Fault is.fault)) same is.step;
                same = ap (λ (d : DiskState). shared n d kept) same;
              }),
            );
          }

      cut_off : (h d boot at : ℕ) (from left : List ℕ) (new : DiskState) → IsCutOff n e whole new (Write boot at from) → Follows (In e shown (entries.Torn h d (Write boot at from) left)) new
      unfolding shared GoesOver
      cut_off h d boot at from left new is =
          let by = keeps_by (moved (base_of n e.area) (Write boot at from)) (Fault Failed) new (is_off (Write boot at from) is.0) (is.1.0, is.1.1, is.1.2) in
          record {
            kept_then = by.kept_new;
            ties_then = by.ties_new;
            goes = inl (e_area, e_even, (is_inside at (length from) is.0, is.1, by.seen_new, by.sure_new));
          }

      happens : (entry : Filled) (new : DiskState) → HappensIn n e shown whole entry new → Follows (In e shown entry) new
      happens (Called h d call answer left) new (inl is) = answered h d call answer left new is
      happens (Called h d call answer left) new (inr is) = untold h d call answer left new is
      happens (entries.Torn h d Attach left) new is = absurd is
      happens (entries.Torn h d (Read boot at len) left) new is = absurd is
      happens (entries.Torn h d (Write boot at from) left) new is = cut_off h d boot at from left new is
      happens (entries.Torn h d (Sync boot) left) new is = absurd is
      happens (Start h) new is = absurd is
      happens (Stop h) new is = absurd is
      happens (Begin h task) new is = absurd is
      happens (Crashed d left) new is = absurd is
      happens (Lost d) new is = absurd is
      happens (Migrated disks log) new is = absurd is

    -- BESIDE, IN NO ROW OF STANDINGS

    -- a host that clears has a number that is odd, sure and seen
    clears : (call : Call) → IsApart n whole call → WritesBeside n (shared n whole kept) call
    unfolding shared
    clears Attach apart = tt
    clears (Read boot at len) apart = tt
    clears (Write boot at from) apart = (
      apart.0,
      λ area p is_area high below from_there within.
          let is = apart.2 area p is_area high below from_there within in
          let odd = is.1 in
          let sure = numbers_is n kept area (host_at p) is_area (few_at p) ∙ is.2 kept ties.may in
          let seen = numbers_is n whole.bytes area (host_at p) is_area (few_at p) ∙ is.2 whole.bytes (may_leave_now whole) in
          (ap (λ (m : ℕ). m % 2) sure ∙ odd, seen ∙ sym sure),
    )
    clears (Sync boot) apart = tt

    apart_off : (call : Call) → IsApart n whole call → IsOff call
    unfolding IsOff
    apart_off Attach apart = tt
    apart_off (Read boot at len) apart = tt
    apart_off (Write boot at from) apart =
        (apart.0, apart.1, λ area p is_area high below from_there within. (let is = apart.2 area p is_area high below from_there within in (is.0, is.2)))
    apart_off (Sync boot) apart = tt

    goes_apart : (call : Call) (answer : Answer) (new : DiskState) → IsApart n whole call → Step whole call answer new → Follows (Beside call answer) new
    unfolding shared GoesOver
    goes_apart call answer new apart step =
        let by = keeps_by call answer new (apart_off call apart) step in
        record {
          kept_then = by.kept_new;
          ties_then = by.ties_new;
          goes = inl (record { writes = clears call apart; step = step; seen = by.seen_new; sure = by.sure_new });
        }

    -- A BEAT

    goes_synced : (boot : ℕ) (answer : Answer) (new : DiskState) → Step whole (Sync boot) answer new → Follows (Beside (Sync boot) answer) new
    unfolding shared GoesOver
    goes_synced boot answer new step =
        let by = sync_by boot answer new step in
        record { kept_then = by.kept_new; ties_then = by.ties_new; goes = inl (record { writes = tt; step = step; seen = by.seen_new; sure = by.sure_new }) }

    module _ (area host : ℕ) (is_area : area < 2) (is_host : host < 16) (block : List ℕ) where
      abbrev w : Write128
      w = write_over (number_place n area host) block beat_body

      module _ (write : WriteCall) (boot at : ℕ) (from : List ℕ) (is : call_of write w boot ≡ Write boot at from) (low : number_place n area host ≤ at) (high : at + length from ≤ number_place n area host + 256) where
        fits : at + length from ≤ length whole.bytes
        fits = let within = lies_on n area host whole is_area is_host ties.row ties.room in omega (arith, high, within)

        in_no_area : (a p : ℕ) → a < 2 → 4096 ≤ p → p < n → (base_of n a + p < at) ⊎ (at + length from ≤ base_of n a + p)
        in_no_area a p is_a p_high below = off_rows n a at (length from) p is_a (omega (arith, low)) (omega (arith, high, is_area, is_host)) p_high below

        writes_none : (seen sure : ℕ → ℕ → ℕ) → WritesBeside n (record { whole = whole; seen = seen; sure = sure }) (Write boot at from)
        writes_none seen sure = (
          fits,
          λ a p is_a p_high below from_there within. absurd (elim (in_no_area a p is_a p_high below) [ inl before ↦ omega (arith, before, from_there) | inr behind ↦ omega (arith, behind, within) ]),
        )

        -- the write, or what it leaves where it fails
        module _ (placed : IsPlaced w whole) (cleared : counter_of block % 2 ≡ 1 → IsCleared n (base_of n area) host whole) (due : IsDue write w whole) (old : (bytes : List ℕ) → MayLeave whole bytes → number_of n area host bytes ≡ counter_of block)
            (left : List ℕ) (many : length left ≡ length from) (answer : Answer) (tried_it : IsTried answer) (step : Step whole (Write boot at from) answer (written whole at left)) where
          fits_left : at + length left ≤ length whole.bytes
          fits_left = omega (arith, fits, many)

          placed_new : IsPlaced w (written whole at left)
          placed_new =
              let size = (shape_new at left fits_left).1 in
              let within = placed.within in
              record { whole = (shape_new at left fits_left).0; within = omega (arith, within, size); block = placed.block; body = placed.body; fits = placed.fits }

          either : (bytes : List ℕ) → MayLeave (written whole at left) bytes → (number_of n area host bytes ≡ counter_of block) ⊎ (number_of n area host bytes ≡ counter_of block + 1)
          either =
              tried (number_place n area host) block beat_body (written whole at left) whole placed placed_new write boot answer due tried_it (subst (λ (x : Call). Step whole x answer (written whole at left)) (sym is) step)

          now : (number_of n area host (written whole at left).bytes ≡ counter_of block) ⊎ (number_of n area host (written whole at left).bytes ≡ counter_of block + 1)
          now = either (written whole at left).bytes (may_leave_now (written whole at left))

          leaves_all : (a g : ℕ) → a < 2 → LeavesHost a g at (length left)
          unfolding LeavesHost
          leaves_all a g is_a p p_high below own =
              elim (in_no_area a p is_a p_high below) [ inl before ↦ inl before | inr behind ↦ inr (omega (arith, behind, many)) ]

          cleared_new : number_of n area host kept % 2 ≡ 1 → IsCleared n (base_of n area) host (written whole at left)
          unfolding LeavesHost
          cleared_new odd =
              cleared_written n (base_of n area) host whole (area_room n area (length whole.bytes) is_area ties.room) ties.marked
              (cleared (ap (λ (m : ℕ). m % 2) (sym (old kept ties.may)) ∙ odd)) at left fits_left (leaves_all area host is_area)

          outcome_own : (bytes : List ℕ) → MayLeave (written whole at left) bytes → IsOutcome n area host (written whole at left) kept bytes
          unfolding IsOutcome IsReady
          outcome_own bytes may =
              elim (either bytes may) [
                | inl was ↦ inl (was ∙ sym (old kept ties.may))
                | inr next ↦
                    elim now [
                      | inl still ↦ inr (inr (next ∙ ap (λ (m : ℕ). m + 1) (sym still), (still ∙ sym (old kept ties.may), cleared_new)))
                      | inr already ↦ inr (inl (next ∙ sym already))
                    ]
              ]

          own_or_off : (a g : ℕ) → a < 2 → g < 16 → ((a ≡ area) × (g ≡ host)) ⊎ IsOutside cluster_version (number_place n a g) at (length left)
          own_or_off a g is_a is_g =
              elim (blocks_apart n a g area host is_a is_g is_area is_host) [
                | inl own ↦ inl own
                | inr (inl before) ↦ inr (inr (omega (arith, before, low)))
                | inr (inr behind) ↦ inr (inl (omega (arith, behind, high, many)))
              ]

          outcome_of : (a g : ℕ) → a < 2 → g < 16 → ((a ≡ area) × (g ≡ host)) ⊎ IsOutside cluster_version (number_place n a g) at (length left) → (bytes : List ℕ) → MayLeave (written whole at left) bytes → IsOutcome n a g (written whole at left) kept bytes
          outcome_of a g is_a is_g (inl own) bytes may =
              subst (λ (x : ℕ). IsOutcome n x g (written whole at left) kept bytes) (sym own.0)
              (subst (λ (y : ℕ). IsOutcome n area y (written whole at left) kept bytes) (sym own.1) (outcome_own bytes may))
          outcome_of a g is_a is_g (inr off) bytes may = outcome_apart at left fits_left a g is_a is_g off (λ before may_before next. leaves_all a g is_a) bytes may

          ties_beat : Ties n (written whole at left) kept
          ties_beat =
              record {
                row = ties.row;
                room = room_new at left fits_left;
                marked = (shape_new at left fits_left).0;
                may = kept_written whole kept at left ties.marked fits_left ties.may;
                left = λ a g is_a is_g. outcome_of a g is_a is_g (own_or_off a g is_a is_g);
              }

          others : (a g : ℕ) → ((a == area) && (g == host)) ≡ false → numbers n (written whole at left).bytes a g ≡ numbers n whole.bytes a g
          others a g differ =
              same_at n (written whole at left).bytes whole.bytes a g (λ is_a is_g. elim (own_or_off a g is_a is_g) [
                | inl own ↦ absurd (let both : ((a == area) && (g == host)) ≡ true = (λ i. eq-eqb a area own.0 i && eq-eqb g host own.1 i) in true≢false (sym both ∙ differ))
                | inr off ↦ number_now at left fits_left a g is_a is_g off
              ])

          -- the number stays
          stays : number_of n area host (written whole at left).bytes ≡ counter_of block → numbers n (written whole at left).bytes ≡ numbers n whole.bytes
          stays still =
              same_numbers n (written whole at left).bytes whole.bytes (λ a g is_a is_g. elim (own_or_off a g is_a is_g) [
                | inl own ↦
                    (let here : number_of n area host (written whole at left).bytes ≡ number_of n area host whole.bytes = still ∙ sym (old whole.bytes (may_leave_now whole)) in
                    subst (λ (x : ℕ). number_of n x g (written whole at left).bytes ≡ number_of n x g whole.bytes) (sym own.0)
                    (subst (λ (y : ℕ). number_of n area y (written whole at left).bytes ≡ number_of n area y whole.bytes) (sym own.1) here))
                | inr off ↦ number_now at left fits_left a g is_a is_g off
              ])

          abbrev mid : Shared
          mid = record { whole = whole; seen = numbers n (written whole at left).bytes; sure = numbers n kept }

          -- or it turns
          turns : number_of n area host (written whole at left).bytes ≡ counter_of block + 1 → IsTurned n (shared n whole kept) mid area host
          unfolding shared
          turns next =
              let seen = numbers_is n whole.bytes area host is_area is_host ∙ old whole.bytes (may_leave_now whole) in
              let sure = numbers_is n kept area host is_area is_host ∙ old kept ties.may in
              record {
                turning = record { rests = seen ∙ sym sure; cleared = λ odd. cleared (ap (λ (m : ℕ). m % 2) (sym sure) ∙ odd) };
                next = numbers_is n (written whole at left).bytes area host is_area is_host ∙ next ∙ ap (λ (m : ℕ). m + 1) (sym seen);
                others = others;
                sure = refl;
                whole = refl;
              }

          goes_tried : Follows (Beside (Write boot at from) answer) (written whole at left)
          unfolding shared GoesOver
          goes_tried =
              record {
                kept_then = kept;
                ties_then = ties_beat;
                goes = elim now [
                  | inl still ↦ inl (record { writes = writes_none (numbers n whole.bytes) (numbers n kept); step = step; seen = stays still; sure = refl })
                  | inr next ↦ inr (
                    mid,
                    area,
                    host,
                    turns next,
                    record { writes = writes_none (numbers n (written whole at left).bytes) (numbers n kept); step = step; seen = refl; sure = refl },
                  )
                ];
              }

        goes_written : (cleared : counter_of block % 2 ≡ 1 → IsCleared n (base_of n area) host whole) → (boot ≡ whole.boot → IsPlaced w whole × IsDue write w whole) →
            (IsDue write w whole → (bytes : List ℕ) → MayLeave whole bytes → number_of n area host bytes ≡ counter_of block) → (answer : Answer) (new : DiskState) → Step whole (Write boot at from) answer new → Follows (Beside (Write boot at from) answer) new
        unfolding shared GoesOver
        goes_written cleared stands old answer new step =
            elim (leaves_by boot at from answer new step) [
              | inl same ↦
                  (let by = keeps_all (Write boot at from) answer new refl same in
                  record {
                    kept_then = by.kept_new;
                    ties_then = by.ties_new;
                    goes = inl (record { writes = writes_none (numbers n whole.bytes) (numbers n kept); step = step; seen = by.seen_new; sure = by.sure_new });
                  })
              | inr leaves ↦
                  (let is_so = stands leaves.under in
                  subst (Follows (Beside (Write boot at from) answer)) (sym leaves.is)
                  (goes_tried is_so.0 cleared is_so.1 (old is_so.1) leaves.left leaves.as_many answer leaves.tried_it (subst (Step whole (Write boot at from) answer) leaves.is step)))
            ]

      closing_length : (opened : Bool) → length {A = ℕ} (if opened then 0 ∷ [] else []) ≤ 1
      closing_length true = omega arith
      closing_length false = omega arith

      within_block : offset_of cluster_version (target_of cluster_version block) + 128 ≤ 256
      within_block = offset_fits cluster_version (target_of cluster_version block)

      beats : (cleared : counter_of block % 2 ≡ 1 → IsCleared n (base_of n area) host whole) (write : WriteCall) (boot : ℕ) (answer : Answer) (new : DiskState) →
          (boot ≡ whole.boot → IsPlaced w whole × IsDue write w whole) → Step whole (call_of write w boot) answer new → Follows (Beside (call_of write w boot) answer) new
      beats cleared CloseGate boot answer new stands step =
          let short = closing_length (is_open (copy_of cluster_version (target_of cluster_version block) block)) in
          goes_written CloseGate boot (gate_of w) (closing w) refl (omega arith) (omega (arith, short, within_block)) cleared stands (λ due bytes may. ap counter_at (reads_same w bytes (due.left bytes may))) answer new step
      beats cleared SyncClosed boot answer new stands step = goes_synced boot answer new step
      beats cleared PutBody boot answer new stands step =
          let long = length-tail_with cluster_version (next_sequence cluster_version block) beat_body body_fits in
          goes_written PutBody boot (gate_of w + 1) (new_tail w) refl (omega arith) (omega (arith, long, within_block)) cleared stands (λ due bytes may. ap counter_at (reads_closed w bytes (due.left bytes may))) answer new step
      beats cleared SyncBody boot answer new stands step = goes_synced boot answer new step
      beats cleared OpenGate boot answer new stands step =
          goes_written OpenGate boot (gate_of w) (165 ∷ []) refl (omega arith) (omega (arith, within_block)) cleared stands
          (λ due bytes may. (let c = due.left bytes may in ap counter_at (reads_closed w bytes (record { kept = c.kept; target = c.target.0 })))) answer new step
      beats cleared SyncOpened boot answer new stands step = goes_synced boot answer new step

    goes_beat : (call : Call) (answer : Answer) (new : DiskState) → IsBeat n whole call → Step whole call answer new → Follows (Beside call answer) new
    goes_beat call answer new beat step =
        subst (λ (x : Call). Follows (Beside x answer) new) (sym beat.is)
        (beats beat.area beat.host beat.is_area beat.is_host beat.block beat.cleared beat.write beat.boot answer new beat.due (subst (λ (x : Call). Step whole x answer new) beat.is step))

    -- CRASHES AND LOSSES

    module _ (new : DiskState) (keeps : KeepsSynced whole.unsynced whole.bytes new.bytes) (flags : new.unsynced ≡ replicate (length whole.bytes) false) where
      only_left : (bytes : List ℕ) → MayLeave new bytes → bytes ≡ new.bytes
      only_left bytes may =
          let many = may.as_many in
          let size = keeps.as_many in
          ext_get_or 0 bytes new.bytes many (λ p within.
          may.same p (ap (λ (l : List Bool). get_or l p false) flags ∙ get_or-replicate (length whole.bytes) p false false (omega (arith, within, many, size))))

      ties_crashed : Ties n new new.bytes
      unfolding IsOutcome
      ties_crashed =
          let size = keeps.as_many in
          record {
            row = ties.row;
            room = (let room = ties.room in omega (arith, room, size));
            marked = ap (λ (l : List Bool). length l) flags ∙ length-replicate (length whole.bytes) false ∙ sym size;
            may = may_leave_now new;
            left = λ area host is_area is_host bytes may. inl (ap (number_of n area host) (only_left bytes may));
          }

      numbers_left : (area host : ℕ) →
          (numbers n new.bytes area host ≡ numbers n kept area host) ⊎ (numbers n new.bytes area host ≡ numbers n whole.bytes area host) ⊎ ((numbers n new.bytes area host ≡ numbers n whole.bytes area host + 1) × IsTurning n (shared n whole kept) area host)
      unfolding IsOutcome IsReady shared
      numbers_left area host =
          elim (cases_lt area 2) [
            | inl is_area ↦
                elim (cases_lt host 16) [
                  | inl is_host ↦
                      (let after = numbers_is n new.bytes area host is_area is_host in
                      let sure = numbers_is n kept area host is_area is_host in
                      let seen = numbers_is n whole.bytes area host is_area is_host in
                      elim (ties.left area host is_area is_host new.bytes keeps) [
                        | inl was_sure ↦ inl (after ∙ was_sure ∙ sym sure)
                        | inr (inl was_seen) ↦ inr (inl (after ∙ was_seen ∙ sym seen))
                        | inr (inr next) ↦ inr (inr (
                          after ∙ next.0 ∙ ap (λ (m : ℕ). m + 1) (sym seen),
                          record { rests = seen ∙ next.1.0 ∙ sym sure; cleared = λ odd. next.1.1 (ap (λ (m : ℕ). m % 2) (sym sure) ∙ odd) },
                        ))
                      ])
                  | inr above ↦ inl (no_host n new.bytes area host is_area above ∙ sym (no_host n kept area host is_area above))
                ]
            | inr above ↦ inl (no_area n new.bytes area host above ∙ sym (no_area n kept area host above))
          ]

      crashes : (d : ℕ) (left : List ℕ) → k < c.disks → whole.gone ≡ false → IsCrash whole new → Follows (Ends (Crashed d left)) new
      unfolding shared GoesOver
      crashes d left inside there crash =
          record {
            kept_then = new.bytes;
            ties_then = ties_crashed;
            goes = inl (record { inside = inside; there = there; crashes = crash; seen = numbers_left; sure = refl });
          }

    lost_outcome : (area host : ℕ) → area < 2 → (bytes : List ℕ) → IsOutcome n area host whole kept bytes → IsOutcome n area host (lost whole) kept bytes
    unfolding IsOutcome IsReady
    lost_outcome area host is_area bytes (inl was) = inl was
    lost_outcome area host is_area bytes (inr (inl was)) = inr (inl was)
    lost_outcome area host is_area bytes (inr (inr next)) =
        inr (inr (
          next.0,
          (next.1.0, λ odd. cleared_lost n (base_of n area) host whole (area_room n area (length whole.bytes) is_area ties.room) ties.marked (next.1.1 odd)),
        ))

    ties_lost : Ties n (lost whole) kept
    ties_lost =
        record {
          row = ties.row;
          room = ties.room;
          marked = ties.marked;
          may = record { as_many = ties.may.as_many; same = ties.may.same };
          left = λ area host is_area is_host bytes may. lost_outcome area host is_area bytes (ties.left area host is_area is_host bytes (record { as_many = may.as_many; same = may.same }));
        }

    goes_lost : (d : ℕ) (new : DiskState) → k < c.disks → whole.gone ≡ false → new ≡ lost whole → Follows (Ends (Lost d)) new
    unfolding shared GoesOver
    goes_lost d new inside there is =
        record {
          kept_then = kept;
          ties_then = subst (λ (d : DiskState). Ties n d kept) (sym is) ties_lost;
          goes = inl (record { inside = inside; there = there; whole = is; seen = ap (λ (d : DiskState). numbers n d.bytes) is; sure = refl });
        }

    -- A NEW DISK

    goes_replaced : (first : ℕ) (new : DiskState) → k < c.disks → IsNew n first whole new → Follows (Replaced first) new
    unfolding shared GoesOver IsOutcome
    goes_replaced first new inside is =
        record {
          kept_then = new.bytes;
          ties_then = record {
            row = ties.row;
            room = is.room;
            marked = ap (λ (l : List Bool). length l) is.synced ∙ length-replicate (length new.bytes) false;
            may = may_leave_now new;
            left = λ area host is_area is_host bytes may. inl (ap (number_of n area host) (only_there bytes may));
          };
          goes = inl (record {
            inside = inside;
            there = is.there;
            gone = is.gone;
            boot = is.boot;
            room = is.room;
            marked = ap (λ (l : List Bool). length l) is.synced ∙ length-replicate (length new.bytes) false;
            sure = refl;
            before = λ e host e_area takes.
                elim (cases_lt host 16) [
                  | inl is_host ↦ (let same = numbers_is n new.bytes e.area host e_area is_host in let less = is.before e host e_area takes is_host in omega (arith, same, less))
                  | inr above ↦ (let same = no_host n new.bytes e.area host e_area above in let less = is.before e 0 e_area takes (omega arith) in omega (arith, same, less))
                ];
          });
        }
      where
        only_there : (bytes : List ℕ) → MayLeave new bytes → bytes ≡ new.bytes
        only_there bytes may =
            let many = may.as_many in
            ext_get_or 0 bytes new.bytes many (λ p within.
            may.same p (ap (λ (l : List Bool). get_or l p false) is.synced ∙ get_or-replicate (length new.bytes) p false false (omega (arith, within, many))))

    -- ONE ACT

    module _ (leaves : (new : DiskState) → IsCrash whole new → KeepsSynced whole.unsynced whole.bytes new.bytes × (new.unsynced ≡ replicate (length whole.bytes) false)) where
      pub goes_to : (act : Act) (new : DiskState) → GoesTo IsCrash c k n whole act new → Follows act new
      goes_to (In e shown entry) new goes = happens e goes.0 goes.1 shown entry new goes.2
      goes_to (Beside call answer) new goes = elim goes.0 [ inl beat ↦ goes_beat call answer new beat goes.1 | inr apart ↦ goes_apart call answer new apart goes.1 ]
      goes_to (Turns area host) new goes = absurd goes
      goes_to (Ends (Crashed d left)) new goes = (let by = leaves new goes.2 in crashes new by.0 by.1 d left goes.0 goes.1 goes.2)
      goes_to (Ends (Lost d)) new goes = goes_lost d new goes.0 goes.1 goes.2
      goes_to (Ends (Start h)) new goes = absurd goes
      goes_to (Ends (Stop h)) new goes = absurd goes
      goes_to (Ends (Begin h task)) new goes = absurd goes
      goes_to (Ends (Called h d call answer left)) new goes = absurd goes
      goes_to (Ends (entries.Torn h d call left)) new goes = absurd goes
      goes_to (Ends (Migrated disks log)) new goes = absurd goes
      goes_to (Replaced first) new goes = goes_replaced first new goes.0 goes.1
