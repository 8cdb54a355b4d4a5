-- How what is kept goes on with a call and its answer.
use Rattle.std.proofs.Common.{ℕ, ◌+◌, ◌*◌, ◌<◌, ◌≤◌, ◌≡◌, Bool, true, false, Option, Some, None, List, [], ◌∷◌, ◌++◌, map, inl, inr, refl, sym, subst, ap, ◌∙◌, arith, append_assoc, below_more, eq-eqb}
use Rattle.std.specs.Prelude.{◌%◌, ◌==◌, nat_le, if◌then◌else◌, ◌↔◌, slice_index, slice_range, IfSome, IsTrue, is_some}
use Rattle.std.proofs.lemmas.Bool.{leb-true, leb-false}
use Rattle.std.proofs.lemmas.List.{length-replicate}
use Rattle.disk.specs.declared.fault.DiskFault.{DiskFault}
use Rattle.disk.specs.declared.boot.Boot.{Boot}
use Rattle.disk.specs.Disk.{Call, Attach, Read, Write, Sync, Answer, Booted, Told, Done, Fault}
use Rattle.torn_block.specs.Layout.{cluster_version}
use Rattle.torn_block.specs.declared.layout.TheConstants.{BLOCK_LENGTH, HOSTS, ROW_LENGTH, LAST_SEQUENCE}
use Rattle.torn_block.specs.declared.block.Block128.{Block128}
use Rattle.torn_block.specs.declared.write_steps.WriteCall.{WriteCall}
use Rattle.torn_block.specs.declared.write_steps.WriteCall.TheVariants.{CloseGate, SyncClosed, PutBody, SyncBody, OpenGate, SyncOpened}
use Rattle.torn_block.specs.Block.{next_number}
use Rattle.torn_block.specs.Damage.{block_of}
use Rattle.torn_block.specs.Plan.{Plan, IsReading, plan_by, told_number, need_at, device_call, next_after}
use Rattle.torn_block.specs.Stage.{call_of, next_call}
use Rattle.torn_block.proofs.PlanLaws.{plan_calls}
use Rattle.heartbeat.specs.Beat.{beat_body}
use Rattle.paxos_block.specs.Row.{DecodedBlock}
use Rattle.attempt.specs.Heard.{Fits}
use Rattle.attempt.specs.Heard as answers
use Rattle.attempt.specs.DeviceCalls.{device_answer, heard_of}
use Rattle.attempt.specs.WriteCalls.{write_due}
use Rattle.attempt.specs.declared.heard.Heard as code_heard
use Rattle.attempt.specs.declared.heard.Heard.TheVariants as code_answer
use Rattle.standings.specs.Epochs.{base_of, standings_place, number_place}
use Rattle.standings.specs.Reading.{zero_block, numbers_in, HasPassed}
use Rattle.standings.specs.Past.{Made, Past, made, reading, Spares, block_at, IsRow, number_write, calls_before, IsSureOf, IsZeros, HasCleared, IsBeating, MayCall}
use Rattle.rounds.specs.Kept as rounds
use Rattle.rounds.specs.declared.end.End as over_end
use Rattle.rounds.specs.declared.end.End.TheVariants as over
use Rattle.rounds.specs.declared.round.Round.{Round}
use Rattle.rounds.specs.declared.round.Stage.{Stage as RoundStage}
use Rattle.rounds.specs.declared.round.Stage.TheVariants as call
use Rattle.coming.specs.declared.end.End.{End}
use Rattle.coming.specs.declared.end.End.TheVariants as end
use Rattle.coming.specs.declared.notes.Notes.{Notes}
use Rattle.coming.specs.declared.notes.Stage.{Stage}
use Rattle.coming.specs.declared.notes.Stage.TheVariants as stage
use Rattle.coming.specs.Coming.{image_of, call_at, call_due, IsSound, IsStage, IsWriting, IsInRound, IsOfClearing, ClearsBelow, IsAt, HasRead, HasEnded, Stands, IsKept, Knows, IsDoneDue, stage_after}
use Rattle.coming.proofs.Pasts.{sure_more, zeros_more, cleared_more, beat_spares, clearing_spares_number, clearing_spares_rows}

-- the call of a plan is that of the block that was read
need_same : (p : Plan) (d : Option WriteCall) (call : WriteCall) → need_at (record p { due = d }) call ≡ need_at p call
need_same p d CloseGate = refl
need_same p d SyncClosed = refl
need_same p d PutBody = refl
need_same p d SyncBody = refl
need_same p d OpenGate = refl
need_same p d SyncOpened = refl

module _ (n area host boot : ℕ) (row : List ℕ) where
  -- a beat, up to this call
  abbrev so_far : WriteCall → Past
  so_far due = made Attach (Booted boot) ∷ made (Sync boot) Done ∷ reading n area boot row ∷ map (λ (k : WriteCall). made (call_of k (number_write n area host row) boot) Done) (calls_before due)

  abbrev done : WriteCall → Made
  done due = made (call_of due (number_write n area host row) boot) Done

  one_more : (due next : WriteCall) (past : Past) → so_far due ++ done due ∷ [] ≡ so_far next → IsBeating n area host boot row due past → IsBeating n area host boot row next (past ++ done due ∷ [])
  one_more due next past same is =
      record {
        before = is.before;
        is = ap (λ (p : Past). p ++ done due ∷ []) is.is ∙ append_assoc is.before (so_far due) (done due ∷ []) ∙ ap (λ (p : Past). is.before ++ p) same;
        room = is.room;
      }

  -- after a call of a beat the next one is due, if there is one
  abbrev BeatsOn : Option WriteCall → Past → Type 0
  BeatsOn None past = Unit {0}
  BeatsOn (Some due) past = IsBeating n area host boot row due past

  beat_goes_on : (due : WriteCall) (past : Past) → IsBeating n area host boot row due past → BeatsOn (next_call due) (past ++ done due ∷ [])
  beat_goes_on CloseGate past is = one_more CloseGate SyncClosed past refl is
  beat_goes_on SyncClosed past is = one_more SyncClosed PutBody past refl is
  beat_goes_on PutBody past is = one_more PutBody SyncBody past refl is
  beat_goes_on SyncBody past is = one_more SyncBody OpenGate past refl is
  beat_goes_on OpenGate past is = one_more OpenGate SyncOpened past refl is
  beat_goes_on SyncOpened past is = tt

none_of : (o : Option over_end.End) → is_some o ≡ false → o ≡ None
none_of None off = refl
none_of (Some e) off = absurd (cc)

some_not : (o : Option over_end.End) → is_some o ≡ true → o ≡ None → ⊥
some_not o on none = (let not : false ≡ true = ap (is_some {T = over_end.End}) (sym none) ∙ on in absurd (cc))

-- Of one disk a round is over once that disk is done with.
one_disk : (c : Notes) → IsSound c → c.round.disk + 1 ≡ c.round.disks
one_disk c sound = (let one = sound.one_disk in let below = sound.round.visits_one in omega arith)

is_over : (r : Round) (lost held : ℕ) → r.disk + 1 ≡ r.disks → (rounds.goes_on r lost held).end ≡ None → ⊥
is_over r lost held last none = by (nat_le r.disks (2 * lost)) refl (r.disk + 1 == r.disks) refl none
  where
    by : (a : Bool) → nat_le r.disks (2 * lost) ≡ a → (b : Bool) → (r.disk + 1 == r.disks) ≡ b →
        (if a then record r { end = Some over.NoMajority } else if b then record r { end = Some (over.Over held) } else record r { disk = r.disk + 1; lost = lost; held = held; stage = call.Attaching }).end ≡ None → ⊥
    by true few b is end_is = absurd (cc)
    by false enough true is end_is = absurd (cc)
    by false enough false is end_is = absurd (cc (is, eq-eqb (r.disk + 1) r.disks last))

-- the rows of an image
pub row_is : (c : Notes) (row : ℕ) → 1 ≤ row → row ≤ c.slots + 1 → IsRow (image_of c) row
row_is c row from to = (from, omega arith)

pub row_below : (c : Notes) (row : ℕ) → IsRow (image_of c) row → row < c.slots + 2
row_below c row is = (let from = is.0 in let to = is.1 in omega arith)

module _ (c : Notes) where
  abbrev n : ℕ
  n = image_of c

  abbrev area : ℕ
  area = c.epoch.area

  abbrev boot : ℕ
  boot = c.round.boot.number

  -- the call of a beat that is under way
  pub writing_call : (past : Past) (w : IsWriting c past) → write_due (number_place n area c.host) boot c.round.steps c.round.steps.due ≡ call_of w.due (number_write n area c.host w.row) boot
  writing_call past w =
      ap (λ (p : Plan). write_due (number_place n area c.host) boot p p.due) w.plan
      ∙ ap (device_call (number_place n area c.host) boot) (need_same (plan_by cluster_version w.block beat_body) (Some w.due) w.due)
      ∙ plan_calls (number_write n area c.host w.row) w.block w.reads w.due boot

  module _ (sound : IsSound c) (going : c.end ≡ None) (past : Past) (kept : IsKept c past) where
    here : IsAt c.stage c past
    here = subst (λ o. Stands o c past) going kept.stands

    pub at : (s : Stage) → c.stage ≡ s → IsAt s c past
    at s is = subst (λ (q : Stage). IsAt q c past) is here

    pub in_round : (s : RoundStage) → c.stage ≡ stage.Beating → c.round.stage ≡ s → IsInRound s c past
    in_round s is due = subst (λ (q : RoundStage). IsInRound q c past) due (at stage.Beating is)

    -- no call that is due writes a block that is cleared
    spares_due : c.is_cleared ≡ true → (row : ℕ) → IsRow n row → (s : Stage) → c.stage ≡ s → (r : RoundStage) → c.round.stage ≡ r → Spares (block_at n area c.host row) BLOCK_LENGTH (call_at s (record c { round = record c.round { stage = r } }))
    spares_due so row is_row stage.Beating st call.Attaching rst = tt
    spares_due so row is_row stage.Beating st call.Syncing rst = tt
    spares_due so row is_row stage.Beating st call.Reading rst = tt
    spares_due so row is_row stage.Beating st call.Writing rst =
        let w = in_round call.Writing st rst in
        subst (Spares (block_at n area c.host row) BLOCK_LENGTH) (sym (writing_call past w)) (beat_spares n area c.host row w.row boot w.due sound.is_area sound.is_host is_row)
    spares_due so row is_row (stage.Looking r) st rs rst = tt
    spares_due so row is_row (stage.Clearing r) st rs rst = (let not = subst (λ (q : Stage). IsStage q c.slots c.is_cleared) st sound.stage in absurd (cc (so, not.0)))
    spares_due so row is_row stage.Settling st rs rst = tt

    -- so they stay so
    pub cleared_still : (answer : Answer) → c.is_cleared ≡ true → HasCleared n area c.host (past ++ made (call_due c) answer ∷ [])
    cleared_still answer so = cleared_more n area c.host past (made (call_due c) answer) (kept.cleared so) (λ row is_row. spares_due so row is_row c.stage refl c.round.stage refl)

    -- with one call more it has ended
    pub fails : (fault : DiskFault) → IsKept (record c { end = Some end.Failed }) (past ++ made (call_due c) (Fault fault) ∷ [])
    fails fault = record { cleared = cleared_still (Fault fault); stands = inl (record { before = past; call = call_due c; fault = fault; is = refl }) }

    -- A CALL OF THE ROUND

    module _ (st : c.stage ≡ stage.Beating) where
      round_due : (s : RoundStage) → c.round.stage ≡ s → call_due c ≡ rounds.call_at s (standings_place n area) (number_place n area c.host) c.round
      round_due s is = ap (λ (q : Stage). call_at q c) st ∙ ap (λ (q : RoundStage). rounds.call_at q (standings_place n area) (number_place n area c.host) c.round) is

      -- the round goes on
      round_kept : (answer : Answer) (round : Round) → IsInRound round.stage (record c { round = round }) (past ++ made (call_due c) answer ∷ []) → IsKept (record c { round = round }) (past ++ made (call_due c) answer ∷ [])
      round_kept answer round in_it =
          let later : Notes = record c { round = round } in
          let after = past ++ made (call_due c) answer ∷ [] in
          record {
            cleared = cleared_still answer;
            stands = subst (λ o. Stands o later after) (sym going) (subst (λ (q : Stage). IsAt q later after) (sym st) in_it);
          }

      pub attaches : (b : Boot) → c.round.stage ≡ call.Attaching → IsKept (record c { round = record c.round { boot = b; stage = call.Syncing } }) (past ++ made (call_due c) (Booted b.number) ∷ [])
      attaches b rst =
          round_kept (Booted b.number) (record c.round { boot = b; stage = call.Syncing }) (past, ap (λ (k : Call). past ++ made k (Booted b.number) ∷ []) (round_due call.Attaching rst))

      pub syncs : c.round.stage ≡ call.Syncing → IsKept (record c { round = record c.round { stage = call.Reading } }) (past ++ made (call_due c) Done ∷ [])
      syncs rst =
          let was = in_round call.Syncing st rst in
          round_kept Done (record c.round { stage = call.Reading }) (
            was.0,
            ap (λ (k : Call). past ++ made k Done ∷ []) (round_due call.Syncing rst)
                ∙ ap (λ (p : Past). p ++ made (Sync boot) Done ∷ []) was.1
                ∙ append_assoc was.0 (made Attach (Booted boot) ∷ []) (made (Sync boot) Done ∷ []),
          )

      -- a call of a beat succeeded, and this one comes next
      pub writes : (w : IsWriting c past) (next : WriteCall) → next_call w.due ≡ Some next → c.round.stage ≡ call.Writing →
          IsKept (record c { round = record c.round { steps = record c.round.steps { due = Some next } } }) (past ++ made (call_due c) Done ∷ [])
      writes w next is rst =
          let due = round_due call.Writing rst ∙ writing_call past w in
          let new : Round = record c.round { steps = record c.round.steps { due = Some next } } in
          let later : Notes = record c { round = new } in
          let after = past ++ made (call_due c) Done ∷ [] in
          let beats = subst (λ o. BeatsOn n area c.host boot w.row o (past ++ made (call_of w.due (number_write n area c.host w.row) boot) Done ∷ [])) is (beat_goes_on n area c.host boot w.row w.due past w.beats) in
          round_kept Done new
          (subst (λ (q : RoundStage). IsInRound q later after) (sym rst)
          (record {
            row = w.row;
            block = w.block;
            due = next;
            reads = w.reads;
            plan = ap (λ (p : Plan). record p { due = Some next }) w.plan;
            beats = subst (λ (k : Call). IsBeating n area c.host boot w.row next (past ++ made k Done ∷ [])) (sym due) beats;
            smaller = w.smaller;
            cleared = w.cleared;
          }))

      -- THE ROW OF STANDINGS WAS READ

      module _ (rst : c.round.stage ≡ call.Reading) (bytes : List ℕ) where
        abbrev after : Past
        after = past ++ made (call_due c) (Told bytes) ∷ []

        is_reading : after ≡ past ++ reading n area boot bytes ∷ []
        is_reading = ap (λ (k : Call). past ++ made k (Told bytes) ∷ []) (round_due call.Reading rst)

        pub read : HasRead n c.epoch bytes after
        read = record { boot = boot; before = past; is = is_reading }

        was : IsInRound call.Reading c past
        was = in_round call.Reading st rst

        -- by it the number is sure
        pub sure_now : (number : ℕ) → numbers_in bytes c.host ≡ number → IsSureOf n area c.host number after
        sure_now number is =
            record {
              boot = boot;
              row = bytes;
              before = was.0 ++ made Attach (Booted boot) ∷ [];
              between = [];
              behind = [];
              is =
                  is_reading
                  ∙ ap (λ (p : Past). p ++ reading n area boot bytes ∷ []) (was.1 ∙ sym (append_assoc was.0 (made Attach (Booted boot) ∷ []) (made (Sync boot) Done ∷ [])));
              read = is;
              still = tt;
            }

        -- it ends by what was read
        pub ends : (round : Round) (e : End) → HasEnded n c.host c.epoch after e → IsKept (record c { round = round; end = Some e }) after
        ends round e so = record { cleared = cleared_still (Told bytes); stands = so }

        -- by the numbers that were read
        module _ (numbers : List ℕ) (are : (h : ℕ) → h < HOSTS → slice_index numbers h ≡ numbers_in bytes h) where
          pub has_passed : HasPassed c.epoch (slice_index numbers) → IsKept (record c { end = Some end.Passed }) after
          has_passed so =
              ends c.round end.Passed (record { row = bytes; last = read; passed = (so.0, so.1, subst (λ (k : ℕ). c.epoch.number < k) (are so.0 so.1) so.2) })

          pub has_come : (passed : Bool) → IsTrue passed ↔ HasPassed c.epoch (slice_index numbers) → passed ≡ false → numbers_in bytes c.host ≡ c.epoch.number → IsKept (record c { end = Some end.Come }) after
          has_come passed tells off is =
              ends c.round end.Come
              (record {
                row = bytes;
                last = read;
                sure = sure_now c.epoch.number is;
                newest = λ so. (let on = tells.1 (so.0, so.1, subst (λ (k : ℕ). c.epoch.number < k) (sym (are so.0 so.1)) so.2) in absurd (cc (on, off)));
              })

        -- a beat begins, with a sequence number left
        pub begins : (block : Block128) → IsReading cluster_version (block_of cluster_version c.host bytes) block → next_number (told_number block) ≤ LAST_SEQUENCE → numbers_in bytes c.host < c.epoch.number → (numbers_in bytes c.host % 2 ≡ 1 → c.is_cleared ≡ true) →
            IsKept (record c { round = record c.round { steps = plan_by cluster_version block beat_body; stage = call.Writing } }) after
        begins block reads room smaller cleared =
            round_kept (Told bytes) (record c.round { steps = plan_by cluster_version block beat_body; stage = call.Writing })
            (record {
              row = bytes;
              block = block;
              due = CloseGate;
              reads = reads;
              plan = refl;
              beats = record {
                before = was.0;
                is =
                    is_reading
                    ∙ ap (λ (p : Past). p ++ reading n area boot bytes ∷ []) was.1
                    ∙ append_assoc was.0 (made Attach (Booted boot) ∷ made (Sync boot) Done ∷ []) (reading n area boot bytes ∷ []);
                room = subst (λ (k : ℕ). k ≤ LAST_SEQUENCE) (ap next_number reads.number) room;
              };
              smaller = smaller;
              cleared = cleared;
            })

        -- the host's blocks are to be cleared first
        pub is_to_clear : numbers_in bytes c.host % 2 ≡ 1 → IsKept (record c { stage = stage.Looking 1 }) after
        is_to_clear odd =
            let later : Notes = record c { stage = stage.Looking 1 } in
            record {
              cleared = cleared_still (Told bytes);
              stands = subst (λ o. Stands o later after) (sym going)
                  (record {
                    number = numbers_in bytes c.host;
                    sure = sure_now (numbers_in bytes c.host) refl;
                    odd = odd;
                    zeros = λ r is_row less. absurd (omega (arith, is_row.0));
                    ends = record { before = past; last = reading n area boot bytes; is = is_reading; clears = tt };
                  });
            }

        -- a beat is to be made
        pub beats : (block : Block128) → IsReading cluster_version (block_of cluster_version c.host bytes) block → numbers_in bytes c.host < c.epoch.number → (numbers_in bytes c.host % 2 ≡ 1 → c.is_cleared ≡ true) → (round : Round) → round ≡ rounds.begins c.round block beat_body → is_some round.end ≡ false →
            IsKept (record c { round = round }) after
        beats block reads smaller cleared round is off = by (nat_le (next_number (told_number block)) LAST_SEQUENCE) refl is
          where
            by : (b : Bool) → nat_le (next_number (told_number block)) LAST_SEQUENCE ≡ b →
                round ≡ (if b then record c.round { steps = plan_by cluster_version block beat_body; stage = call.Writing } else rounds.drops c.round) → IsKept (record c { round = round }) after
            by true fits same = subst (λ (r : Round). IsKept (record c { round = r }) after) (sym same) (begins block reads (leb-true (next_number (told_number block)) LAST_SEQUENCE fits) smaller cleared)
            by false fits same = absurd (is_over c.round (c.round.lost + 1) c.round.held (one_disk c sound) (ap (λ (r : Round). r.end) (sym same) ∙ none_of round.end off))

        -- but its block has no sequence number left
        pub is_spent : (block : Block128) → IsReading cluster_version (block_of cluster_version c.host bytes) block → (round : Round) → round ≡ rounds.begins c.round block beat_body → is_some round.end ≡ true →
            IsKept (record c { round = round; end = Some end.Failed }) after
        is_spent block reads round is some = by (nat_le (next_number (told_number block)) LAST_SEQUENCE) refl is
          where
            by : (b : Bool) → nat_le (next_number (told_number block)) LAST_SEQUENCE ≡ b →
                round ≡ (if b then record c.round { steps = plan_by cluster_version block beat_body; stage = call.Writing } else rounds.drops c.round) → IsKept (record c { round = round; end = Some end.Failed }) after
            by true fits same = absurd (some_not round.end some (ap (λ (r : Round). r.end) same ∙ sound.going going))
            by false not same =
                let above = leb-false (next_number (told_number block)) LAST_SEQUENCE not in
                ends round end.Failed
                (inr (record { row = bytes; last = read; why = inr (subst (λ (k : ℕ). LAST_SEQUENCE < k) (ap next_number reads.number) above) }))

    -- a call of the round succeeded, and it goes on
    pub goes_on : c.stage ≡ stage.Beating → IsDoneDue stage.Beating c.round.stage → (round : Round) → round ≡ rounds.succeeds c.round.stage c.round → is_some round.end ≡ false → IsKept (record c { round = round }) (past ++ made (call_due c) Done ∷ [])
    goes_on st due round is off = by c.round.stage refl due is
      where
        beat : (w : IsWriting c past) → c.round.stage ≡ call.Writing → (o : Option WriteCall) → next_call w.due ≡ o → round ≡ rounds.writes_on c.round o → IsKept (record c { round = round }) (past ++ made (call_due c) Done ∷ [])
        beat w rst None last same = absurd (is_over (record c.round { steps = record c.round.steps { due = None } }) c.round.lost (c.round.held + 1) (one_disk c sound) (ap (λ (r : Round). r.end) (sym same) ∙ none_of round.end off))
        beat w rst (Some next) more same = subst (λ (r : Round). IsKept (record c { round = r }) (past ++ made (call_due c) Done ∷ [])) (sym same) (writes st w next more rst)

        by : (r : RoundStage) → c.round.stage ≡ r → IsDoneDue stage.Beating r → round ≡ rounds.succeeds r c.round → IsKept (record c { round = round }) (past ++ made (call_due c) Done ∷ [])
        by call.Attaching rst due same = absurd due
        by call.Syncing rst due same = subst (λ (r : Round). IsKept (record c { round = r }) (past ++ made (call_due c) Done ∷ [])) (sym same) (syncs st rst)
        by call.Reading rst due same = absurd due
        by call.Writing rst due same =
            let w = in_round call.Writing st rst in
            let after : next_after c.round.steps.due ≡ next_call w.due = ap (λ (p : Plan). next_after p.due) w.plan in
            beat w rst (next_call w.due) refl (same ∙ ap (rounds.writes_on c.round) after)

    -- all begins again
    pub begins_anew : (answer : Answer) (round : Round) → IsKept (record c { round = rounds.at_start 1 round; stage = stage.Beating }) (past ++ made (call_due c) answer ∷ [])
    begins_anew answer round =
        let later : Notes = record c { round = rounds.at_start 1 round; stage = stage.Beating } in
        record { cleared = cleared_still answer; stands = subst (λ o. Stands o later (past ++ made (call_due c) answer ∷ [])) (sym going) tt }

    -- CLEARING

    -- the host's block in this row is zeros
    goes_below : (row : ℕ) → 1 ≤ row → row ≤ c.slots + 1 → (m : Made) → ClearsBelow c row past → IsZeros boot (block_at n area c.host row) (past ++ m ∷ []) → IsOfClearing m.call → Spares (number_place n area c.host) BLOCK_LENGTH m.call →
        ((r : ℕ) → r < row → Spares (block_at n area c.host r) BLOCK_LENGTH m.call) → ClearsBelow c (row + 1) (past ++ m ∷ [])
    goes_below row from to m was blank clears number below =
        record {
          number = was.number;
          sure = sure_more n area c.host was.number past m was.sure number;
          odd = was.odd;
          zeros = λ r is_row less. below_more (λ (k : ℕ). IsRow n k → IsZeros boot (block_at n area c.host k) (past ++ m ∷ [])) row
              (λ k under is. zeros_more boot (block_at n area c.host k) past m (was.zeros k is under) (below k under)) (λ is. blank) r less is_row;
          ends = record { before = past; last = m; is = refl; clears = clears };
        }

    next_row : (row : ℕ) → row ≤ c.slots + 1 → c.is_cleared ≡ false → (answer : Answer) → ClearsBelow c (row + 1) (past ++ made (call_due c) answer ∷ []) → IsKept (record c { stage = stage_after c.slots row }) (past ++ made (call_due c) answer ∷ [])
    next_row row to none answer now =
        let later : Notes = record c { stage = stage_after c.slots row } in
        let after = past ++ made (call_due c) answer ∷ [] in
        record { cleared = cleared_still answer; stands = subst (λ o. Stands o later after) (sym going) (by (nat_le row c.slots) refl) }
      where
        by : (b : Bool) → nat_le row c.slots ≡ b → IsAt (if b then stage.Looking (row + 1) else stage.Settling) (record c { stage = stage_after c.slots row }) (past ++ made (call_due c) answer ∷ [])
        by true more = now
        by false last = (let above = leb-false row c.slots last in let same : row + 1 ≡ c.slots + 2 = omega arith in subst (λ (k : ℕ). ClearsBelow c k (past ++ made (call_due c) answer ∷ [])) same now)

    module _ (row : ℕ) (st : c.stage ≡ stage.Looking row) (bytes : List ℕ) where
      looked : ClearsBelow c row past
      looked = at (stage.Looking row) st

      in_area : (c.is_cleared ≡ false) × (1 ≤ row) × (row ≤ c.slots + 1)
      in_area = subst (λ (q : Stage). IsStage q c.slots c.is_cleared) st sound.stage

      look_due : call_due c ≡ Read boot (base_of n area + ROW_LENGTH * row) ROW_LENGTH
      look_due = ap (λ (q : Stage). call_at q c) st

      -- it was zeros when it was read
      pub shows : block_of cluster_version c.host bytes ≡ zero_block → IsKept (record c { stage = stage_after c.slots row }) (past ++ made (call_due c) (Told bytes) ∷ [])
      shows zeros =
          let is_host = sound.is_host in
          let blank : IsZeros boot (block_at n area c.host row) (past ++ made (Read boot (base_of n area + ROW_LENGTH * row) ROW_LENGTH) (Told bytes) ∷ []) = record {
            before = past;
            last = made (Read boot (base_of n area + ROW_LENGTH * row) ROW_LENGTH) (Told bytes);
            behind = [];
            is = refl;
            shows = inl (
              base_of n area + ROW_LENGTH * row,
              bytes,
              refl,
              omega arith,
              omega arith,
              λ from is. (let same : from ≡ BLOCK_LENGTH * c.host = omega arith in subst (λ (k : ℕ). slice_range bytes k (k + BLOCK_LENGTH) ≡ zero_block) (sym same) zeros),
            );
            still = tt;
          } in
          next_row row in_area.2 in_area.0 (Told bytes)
          (subst (λ (k : Call). ClearsBelow c (row + 1) (past ++ made k (Told bytes) ∷ [])) (sym look_due)
          (goes_below row in_area.1 in_area.2 (made (Read boot (base_of n area + ROW_LENGTH * row) ROW_LENGTH) (Told bytes)) looked blank tt tt (λ r less. tt)))

      -- it was not, and zeros are to be written
      pub is_to_write : IsKept (record c { stage = stage.Clearing row }) (past ++ made (call_due c) (Told bytes) ∷ [])
      is_to_write =
          let later : Notes = record c { stage = stage.Clearing row } in
          let m = made (call_due c) (Told bytes) in
          let spares : (place : ℕ) → Spares place BLOCK_LENGTH (call_due c) = λ place. subst (Spares place BLOCK_LENGTH) (sym look_due) tt in
          record {
            cleared = cleared_still (Told bytes);
            stands = subst (λ o. Stands o later (past ++ m ∷ [])) (sym going)
                (record {
                  number = looked.number;
                  sure = sure_more n area c.host looked.number past m looked.sure (spares (number_place n area c.host));
                  odd = looked.odd;
                  zeros = λ r is_row less. zeros_more boot (block_at n area c.host r) past m (looked.zeros r is_row less) (spares (block_at n area c.host r));
                  ends = record { before = past; last = m; is = refl; clears = subst IsOfClearing (sym look_due) tt };
                });
          }

    -- the zeros were written
    pub clears : (row : ℕ) → c.stage ≡ stage.Clearing row → IsKept (record c { stage = stage_after c.slots row }) (past ++ made (call_due c) Done ∷ [])
    clears row st =
        let in_area = subst (λ (q : Stage). IsStage q c.slots c.is_cleared) st sound.stage in
        let is_row = row_is c row in_area.1 in_area.2 in
        let write : Call = Write boot (block_at n area c.host row) zero_block in
        let due : call_due c ≡ write = ap (λ (q : Stage). call_at q c) st in
        let blank : IsZeros boot (block_at n area c.host row) (past ++ made write Done ∷ []) = record { before = past; last = made write Done; behind = []; is = refl; shows = inr refl; still = tt } in
        next_row row in_area.2 in_area.0 Done
        (subst (λ (k : Call). ClearsBelow c (row + 1) (past ++ made k Done ∷ [])) (sym due)
        (goes_below row in_area.1 in_area.2 (made write Done) (at (stage.Clearing row) st) blank (length-replicate {A = ℕ} BLOCK_LENGTH 0) (clearing_spares_number n area c.host row boot sound.is_area sound.is_host is_row) (λ r less. clearing_spares_rows n area c.host row r boot less)))

    -- all was synced
    pub settles : c.stage ≡ stage.Settling → (round : Round) → IsKept (record c { is_cleared = true; round = rounds.at_start 1 round; stage = stage.Beating }) (past ++ made (call_due c) Done ∷ [])
    settles st round =
        let later : Notes = record c { is_cleared = true; round = rounds.at_start 1 round; stage = stage.Beating } in
        let was = at stage.Settling st in
        record {
          cleared = λ so. record {
            boot = boot;
            before = past;
            behind = [];
            is = ap (λ (k : Call). past ++ made k Done ∷ []) (ap (λ (q : Stage). call_at q c) st);
            zeros = λ row is_row. was.zeros row is_row (row_below c row is_row);
            still = λ row is_row. tt;
          };
          stands = subst (λ o. Stands o later (past ++ made (call_due c) Done ∷ [])) (sym going) tt;
        }

    -- THE CALL THAT IS DUE MAY BE MADE

    pub may : MayCall n c.host past (call_due c)
    may = by c.stage refl c.round.stage refl
      where
        beats : (w : IsWriting c past) → (due : WriteCall) → IsBeating n area c.host boot w.row due past → MayCall n c.host past (call_of due (number_write n area c.host w.row) boot)
        beats w CloseGate b = inr (record { area = area; boot = boot; row = w.row; due = CloseGate; is_area = sound.is_area; is = refl; beats = b; cleared = λ odd. kept.cleared (w.cleared odd) })
        beats w SyncClosed b = tt
        beats w PutBody b = inr (record { area = area; boot = boot; row = w.row; due = PutBody; is_area = sound.is_area; is = refl; beats = b; cleared = λ odd. kept.cleared (w.cleared odd) })
        beats w SyncBody b = tt
        beats w OpenGate b = inr (record { area = area; boot = boot; row = w.row; due = OpenGate; is_area = sound.is_area; is = refl; beats = b; cleared = λ odd. kept.cleared (w.cleared odd) })
        beats w SyncOpened b = tt

        by : (s : Stage) → c.stage ≡ s → (r : RoundStage) → c.round.stage ≡ r → MayCall n c.host past (call_at s (record c { round = record c.round { stage = r } }))
        by stage.Beating st call.Attaching rst = tt
        by stage.Beating st call.Syncing rst = tt
        by stage.Beating st call.Reading rst = tt
        by stage.Beating st call.Writing rst = (let w = in_round call.Writing st rst in subst (MayCall n c.host past) (sym (writing_call past w)) (beats w w.due w.beats))
        by (stage.Looking row) st r rst = tt
        by (stage.Clearing row) st r rst =
            let in_area = subst (λ (q : Stage). IsStage q c.slots c.is_cleared) st sound.stage in
            let was = at (stage.Clearing row) st in
            inl (record { area = area; row = row; number = was.number; is_area = sound.is_area; is_row = row_is c row in_area.1 in_area.2; within = (omega arith, omega arith); sure = was.sure; odd = was.odd })
        by stage.Settling st r rst = tt

-- WHICH CALL IS DUE, BY ITS ANSWER

-- no call of a write is an attach
no_boot : (place b number : ℕ) (p : Plan) (due : Option WriteCall) → Fits {A = List DecodedBlock} (write_due place b p due) (answers.Booted number) → ⊥
no_boot place b number p None fits = fits
no_boot place b number p (Some CloseGate) fits = fits
no_boot place b number p (Some SyncClosed) fits = fits
no_boot place b number p (Some PutBody) fits = fits
no_boot place b number p (Some SyncBody) fits = fits
no_boot place b number p (Some OpenGate) fits = fits
no_boot place b number p (Some SyncOpened) fits = fits

module _ (c : Notes) where
  abbrev call_in : Stage → RoundStage → Call
  call_in s r = call_at s (record c { round = record c.round { stage = r } })

  -- an attach
  pub boot_due : (number : ℕ) → Fits {A = List DecodedBlock} (call_due c) (answers.Booted number) → (c.stage ≡ stage.Beating) × (c.round.stage ≡ call.Attaching)
  boot_due number fits = by c.stage c.round.stage fits
    where
      by : (s : Stage) (r : RoundStage) → Fits {A = List DecodedBlock} (call_in s r) (answers.Booted number) → (s ≡ stage.Beating) × (r ≡ call.Attaching)
      by stage.Beating call.Attaching fits = (refl, refl)
      by stage.Beating call.Syncing fits = absurd fits
      by stage.Beating call.Reading fits = absurd fits
      by stage.Beating call.Writing fits = absurd (no_boot _ _ number c.round.steps c.round.steps.due fits)
      by (stage.Looking row) r fits = absurd fits
      by (stage.Clearing row) r fits = absurd fits
      by stage.Settling r fits = absurd fits

  module _ (sound : IsSound c) (going : c.end ≡ None) (past : Past) (kept : IsKept c past) (heard : code_heard.Heard (List ℕ)) where
    pub hears_boot : (b : Boot) → heard ≡ code_answer.Booted b → Fits (call_due c) (heard_of cluster_version heard) → (round : Round) → round ≡ rounds.hears c.round heard → IsKept (record c { round = round }) (past ++ made (call_due c) (device_answer heard) ∷ [])
    hears_boot b is fits round step =
        let due = boot_due b.number (subst (λ (h : code_heard.Heard (List ℕ)). Fits (call_due c) (heard_of cluster_version h)) is fits) in
        subst (λ (h : code_heard.Heard (List ℕ)). IsKept (record c { round = round }) (past ++ made (call_due c) (device_answer h) ∷ [])) (sym is)
        (subst (λ (r : Round). IsKept (record c { round = r }) (past ++ made (call_due c) (Booted b.number) ∷ [])) (sym (step ∙ ap (rounds.hears c.round) is)) (attaches c sound going past kept due.0 b due.1))

    pub hears_fault : (fault : DiskFault) → heard ≡ code_answer.Fault fault → IsKept (record c { end = Some end.Failed }) (past ++ made (call_due c) (device_answer heard) ∷ [])
    hears_fault fault is = subst (λ (h : code_heard.Heard (List ℕ)). IsKept (record c { end = Some end.Failed }) (past ++ made (call_due c) (device_answer h) ∷ [])) (sym is) (fails c sound going past kept fault)

-- ALL PASTS

-- of the same host and image
pub known : (old new : Notes) (past longer : Past) (n host : ℕ) → (IsKept old past → IsKept new longer) → image_of new ≡ image_of old → new.host ≡ old.host → Knows n host past old → Knows n host longer new
known old new past longer n host goes image own knows = record { image = image ∙ knows.image; own = own ∙ knows.own; kept = goes knows.kept }

-- how it ended, told of every past that leads there
pub ended : (c : Notes) (n host : ℕ) (past : Past) → Knows n host past c → IfSome c.end (HasEnded n host c.epoch past)
ended c n host past knows =
    subst (λ (k : ℕ). IfSome c.end (HasEnded k host c.epoch past)) knows.image (subst (λ (h : ℕ). IfSome c.end (HasEnded (image_of c) h c.epoch past)) knows.own (by c.end knows.kept.stands))
  where
    by : (o : Option End) → Stands o c past → IfSome o (HasEnded (image_of c) c.host c.epoch past)
    by None stands = tt
    by (Some e) stands = stands

-- the call that is due may be made, by every past that leads there
pub may_by : (c : Notes) → IsSound c → c.end ≡ None → (n host : ℕ) (past : Past) → Knows n host past c → MayCall n host past (call_due c)
may_by c sound going n host past knows =
    subst (λ (k : ℕ). MayCall k host past (call_due c)) knows.image (subst (λ (h : ℕ). MayCall (image_of c) h past (call_due c)) knows.own (may c sound going past knows.kept))
