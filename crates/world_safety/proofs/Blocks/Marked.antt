-- What a marking knows of its own block stays, whatever others do there; and what its calls leave.
use Rattle.std.specs.Prelude.{nat_le, slice_get}
use Rattle.std.proofs.Common.{ℕ, zero, suc, ◌+◌, ◌<◌, ◌≤◌, ◌≡◌, ◌≢◌, ◌⊎◌, inl, inr, true, false, true≢false, not, Option, Some, None, List, [], ◌∷◌, ◌++◌, length, refl, sym, subst, ap, ◌∙◌, arith}
use Rattle.std.proofs.lemmas.Bool.{and_parts, cases_lt}
use Rattle.std.proofs.lemmas.Slice.Eq.{bytes_eq-Decides}
use Rattle.disk.specs.declared.fault.DiskFault.TheVariants.{Reset, Failed, Gone}
use Rattle.disk.specs.Crash.{MayLeave}
use Rattle.disk.specs.Disk.{DiskState, Attach, Sync, Answer, Booted, Told, Done, Fault, IsUnder, Step, Crashes}
use Rattle.disk.proofs.CrashLemmas.{may_leave_now}
use Rattle.torn_block.specs.Layout.{cluster_version}
use Rattle.torn_block.specs.declared.layout.TheConstants.{HOSTS, BLOCK_LENGTH, ROW_LENGTH, LAST_SEQUENCE}
use Rattle.torn_block.specs.declared.write_steps.WriteCall.{WriteCall}
use Rattle.torn_block.specs.declared.write_steps.WriteCall.TheVariants.{CloseGate, SyncClosed, PutBody, SyncBody, OpenGate, SyncOpened}
use Rattle.torn_block.specs.Block.{value_of}
use Rattle.torn_block.specs.Damage.{IsSoundBlock}
use Rattle.torn_block.specs.Place.{block_in}
use Rattle.torn_block.specs.Register.{Value, IsAtRest}
use Rattle.torn_block.specs.Stage.{Write128, call_of, next_call, old_value, new_value, IsDue, IsPlaced, Stands as Next}
use Rattle.torn_block.proofs.PlaceLaws.{length-block_in}
use Rattle.torn_block.proofs.RegisterLaws.{known_synced}
use Rattle.torn_block.proofs.StageLaws.{done_leads_on, settled_begins}
use Rattle.paxos_block.specs.Saying.{Said as PBlock, MaySay, body_saying}
use Rattle.paxos_block.specs.Places.{VoteOf, row_place, row_of, IsImage, IsSoundAt}
use Rattle.paxos_block.specs.Row.{IsSound, IsSaid, DecodedBlock, seen_in, says_of, sequence_or_zero}
use Rattle.paxos_block.proofs.Outcomes.{Outcomes, rests_by, calm_outcomes, same_outcomes}
use Rattle.paxos_block.proofs.PlaceLemmas.{spot_fits, block_of-row_of}
use Rattle.paxos_block.proofs.RowLemmas.{said_sees, sound_says}
use Rattle.paxos_block.proofs.SayingLemmas.{claims_back}
use Rattle.paxos_block.proofs.WriteLemmas.{sound_while_due, sound_when_failed}
use Rattle.attempt.specs.Calls.{Phase, Opening, Kind, Attaching, Syncing, Reading, Putting, seventeen, goal}
use Rattle.attempt.specs.Answers as answers
use Rattle.attempt.specs.Answers.{Heard, heard_as, is_bad, all_good, boot_of, row_in, told, seen_block}
use Rattle.attempt.specs.History.{Fits}
use Rattle.attempt.proofs.Calls.{Then, next_kind, has_answered}
use Rattle.attempt.proofs.Lists.{get_front, get_last, good_more, boot_more, row_kept, row_last}
use Rattle.attempt.proofs.Replies.{reading_tells, attaching_tells}
use Rattle.attempt.proofs.Votes.{said_long, fills}
use Rattle.agreement.specs.State.{Cell}
use Rattle.agreement.specs.Event.{IsReading}
use Rattle.attempt_safety.specs.Machine.{block_said}
use Rattle.attempt_safety.specs.Registers.{IsNext}
use Rattle.rounds.specs.Marking.Status as mark
use Rattle.rounds.specs.Marking.Status.{own_block, is_value, is_to_mark, with_mark, write_on, call_by}
use Rattle.world_safety.specs.Blocks.{said, Stands}
use Rattle.world_safety.specs.Knows.{CanWrite, IsCurrent}
use Rattle.world_safety.specs.Marking.{marked_place, IsMarking, KnowsMarkFor, KnowsMark}
use Rattle.world_safety.specs.Marks.{AllSay, MaySayOn}
use Rattle.world_safety.proofs.Blocks.Keeping.{Spares}
use Rattle.world_safety.proofs.Blocks.Owned.{not_bad, read_leaves, sync_rests}
use Rattle.world_safety.proofs.Blocks.Owning.{boot_kept, booted_is, boot_at_most, row_told, done_is, under_is, number_fits}
use Rattle.world_safety.proofs.Blocks.Standing.{stands_by}
use Rattle.world_safety.proofs.Blocks.Values.{Adds, ReadsOn, all_say_by, all_say_added, bytes_left, put_adds, put_reads}

-- the write lies on the disk
pub mark_placed : (slots : ℕ) (s : mark.Setup) (a : List Heard) (disk : DiskState) → IsImage cluster_version slots disk → s.slot < slots → s.host < HOSTS → CanWrite s.host (with_mark (own_block s a).says) (write_on s a) → IsPlaced (write_on s a) disk
mark_placed slots s a disk image slot_below host_below can =
    record {
      whole = image.whole;
      within = omega (arith, image.long, spot_fits cluster_version slots (VoteOf s.slot s.host) (slot_below, host_below));
      block = can.long;
      body = can.full;
      fits = (let number = can.is_write.number in omega (arith, number));
    }

-- WHERE ITS BLOCK WAS SPARED

pub mark_spared : (slots : ℕ) (s : mark.Setup) (a : List Heard) (disk new : DiskState) → IsImage cluster_version slots disk → s.slot < slots → s.host < HOSTS → Spares (marked_place s) disk new → KnowsMark disk s a → KnowsMark new s a
mark_spared slots s a disk new image slot_below host_below spares known =
    record {
      boot = (let kept = spares.boot in let before = known.boot in omega arith);
      booted = known.booted;
      next = λ current kind is. by_kind kind (known.next (record { good = current.good; boot = current.boot ∙ spares.boot }) kind is);
    }
  where
    writing : (call : WriteCall) → IsMarking s a call disk → IsMarking s a call new
    writing call now = record { due = spares.due (write_on s a) call refl refl (mark_placed slots s a disk image slot_below host_below now.can) now.due; can = now.can; old = now.old }

    by_kind : (kind : Kind) → KnowsMarkFor kind disk s a → KnowsMarkFor kind new s a
    by_kind Attaching now = tt
    by_kind Syncing now = tt
    by_kind Reading now = rests_by cluster_version disk new (marked_place s) spares.outcomes now
    by_kind (Putting p CloseGate) now = λ bytes may. (let b = spares.outcomes bytes may in ap (seen_in cluster_version) b.2 ∙ now b.0 b.1)
    by_kind (Putting p SyncClosed) now = writing SyncClosed now
    by_kind (Putting p PutBody) now = writing PutBody now
    by_kind (Putting p SyncBody) now = writing SyncBody now
    by_kind (Putting p OpenGate) now = writing OpenGate now
    by_kind (Putting p SyncOpened) now = writing SyncOpened now

-- A crash ends what was known.
pub mark_crashed : (s : mark.Setup) (a : List Heard) (disk new : DiskState) → Crashes disk new → KnowsMark disk s a → KnowsMark new s a
mark_crashed s a disk new crash known =
    record {
      boot = (let rises = crash.boot in let before = known.boot in omega arith);
      booted = known.booted;
      next = λ current kind is. absurd (let rises = crash.boot in let before = known.boot in let now = current.boot in omega arith);
    }

-- A CALL OF IT

-- what holds before it
pub record IsMarkCallOn (slots : ℕ) (s : mark.Setup) (a : List Heard) (kind : Kind) (disk new : DiskState) (answer : Answer) (cell : Cell (List ℕ)) : Type 0 where
  pub image : IsImage cluster_version slots disk
  pub image_then : IsImage cluster_version slots new
  pub slot_below : s.slot < slots
  pub host_below : s.host < HOSTS
  pub good : all_good a ≡ true
  pub knows : KnowsMark disk s a
  pub stands : Stands disk s.slot s.host cell
  pub is : IsNext a kind
  pub short : length a < 9
  pub fits : Fits (call_by s a kind) (heard_as answer)
  pub step : Step disk (call_by s a kind) answer new
  pub to_mark : (p : Phase) (call : WriteCall) → kind ≡ Putting p call → is_to_mark s a ≡ true
  pub unspent : (p : Phase) → kind ≡ Putting p CloseGate → nat_le LAST_SEQUENCE (own_block s a).sequence ≡ false

-- a block that is marked may have said the same before, or says the value that is marked
abbrev pub IsMarkedWith : mark.Setup → DiskState → PBlock → Type 0
IsMarkedWith s disk says = says.mark ≡ true → MaySayOn (marked_place s) disk says ⊎ (says.inp ≡ Some s.value)

-- so it is of what it says before
said_before : (s : mark.Setup) (disk : DiskState) → AllSay (IsMarkedWith s disk) (marked_place s) disk
said_before s disk bytes left marked = inl (bytes, left, refl)

-- the mbal that a block now says
abbrev pub promised : ℕ → DiskState → ℕ
promised place disk = (says_of cluster_version (value_of cluster_version (block_in cluster_version place disk.bytes))).mbal

-- what holds behind it: no other ballot is promised
pub record AfterMark (s : mark.Setup) (a : List Heard) (disk new : DiskState) (cell : Cell (List ℕ)) : Type 0 where
  pub stands : Stands new s.slot s.host cell
  pub knows : KnowsMark new s a
  pub marks : AllSay (IsMarkedWith s disk) (marked_place s) new
  pub promises : promised (marked_place s) new ≡ promised (marked_place s) disk

value_is : (o : Option (List ℕ)) (value : List ℕ) → is_value o value ≡ true → o ≡ Some value
value_is None value is = absurd (cc)
value_is (Some inp) value is = ap Some ((bytes_eq-Decides inp value).0 is)

-- a block that says an input may say it with a mark
may_mark : (host : ℕ) (o : Option (ℕ × List ℕ)) (says : PBlock) (value : List ℕ) → IsSaid cluster_version host o says → says.inp ≡ Some value → MaySay cluster_version host (with_mark says)
may_mark host None says value said inp = absurd (let none = ap (λ (b : PBlock). b.inp) said in cc)
may_mark host (Some v) says value said inp = record { mbal = said.1.mbal; vote = said.1.vote; mark = rw inp refl }

module _ (slots : ℕ) (s : mark.Setup) (a : List Heard) (kind : Kind) (disk new : DiskState) (answer : Answer) (cell : Cell (List ℕ)) (now : IsMarkCallOn slots s a kind disk new answer cell) where
  open now use {image, image_then, slot_below, host_below, good, knows, stands, is, short, fits, step, to_mark, unspent}

  abbrev x : Heard
  x = heard_as answer

  abbrev b : List Heard
  b = a ++ x ∷ []

  abbrev place : ℕ
  place = marked_place s

  -- THE BOOT NUMBER

  boot_then : boot_of b ≤ new.boot
  boot_then =
      let same = boot_kept disk new (call_by s a kind) answer step in
      let most = boot_at_most a x disk.boot knows.boot (λ n told. booted_is disk new (call_by s a kind) answer n step told) in
      omega (arith, same, most)

  good_by : all_good b ≡ true → is_bad x ≡ false
  good_by all = not_bad (is_bad x) (and_parts (all_good a) (not (is_bad x)) (sym (good_more a x) ∙ all)).1

  kind_at : (n : ℕ) (other : Kind) → length a ≡ n → slice_get seventeen n ≡ Some other → kind ≡ other
  kind_at n other at there = let both : Some kind ≡ Some other = sym is ∙ ap (slice_get seventeen) at ∙ there in cc

  fits_as : (other : Kind) → kind ≡ other → Fits (call_by s a other) x
  fits_as other same = subst (λ (k : Kind). Fits (call_by s a k) x) same fits

  booted_then : all_good b ≡ true → 1 ≤ length b → (boot : ℕ) × (slice_get b 0 ≡ Some (answers.Booted boot))
  booted_then all some = elim (cases_lt 0 (length a)) [
    | inl more ↦ (let old = knows.booted good more in (old.0, get_front a x 0 more ∙ old.1))
    | inr none ↦
        (let zero_long : length a ≡ 0 = omega arith in
        let tells = attaching_tells x (fits_as Attaching (kind_at 0 Attaching zero_long refl)) (good_by all) in
        (tells.0, get_last a x 0 (sym zero_long) ∙ ap Some tells.1))
  ]

  current_before : kind ≢ Attaching → IsCurrent new b → IsCurrent disk a
  current_before later current =
      let booted = knows.booted good (has_answered a kind later is) in
      record { good = good; boot = sym (boot_more a x booted.0 booted.1) ∙ current.boot ∙ boot_kept disk new (call_by s a kind) answer step }

  then_is : (next : Kind) → IsNext b next → Then kind next
  then_is next at = next_kind a x kind next is at

  -- what is known then, by the call that is next
  knows_by : (IsCurrent new b → (next : Kind) → IsNext b next → KnowsMarkFor next new s b) → KnowsMark new s b
  knows_by next = record { boot = boot_then; booted = booted_then; next = next }

  knows_none : is_bad x ≡ true → KnowsMark new s b
  knows_none bad = knows_by (λ current. absurd (true≢false (sym bad ∙ good_by current.good)))

  -- a call that writes nothing
  calm : new.bytes ≡ disk.bytes → Outcomes cluster_version disk place new → KnowsMark new s b → AfterMark s b disk new cell
  calm bytes o known =
      record {
        stands = stands_by disk new s.slot s.host cell o stands;
        knows = known;
        marks = all_say_by (IsMarkedWith s disk) place disk new o (said_before s disk);
        promises = ap (λ (l : List ℕ). (says_of cluster_version (value_of cluster_version (block_in cluster_version place l))).mbal) bytes;
      }

  -- THE OPENING CALLS

  step_as : (other : Kind) → kind ≡ other → Step disk (call_by s a other) answer new
  step_as other same = subst (λ (k : Kind). Step disk (call_by s a k) answer new) same step

  then_as : (other next : Kind) → kind ≡ other → IsNext b next → Then other next
  then_as other next same at = subst (λ (k : Kind). Then k next) same (then_is next at)

  attached : kind ≡ Attaching → AfterMark s b disk new cell
  attached same =
      calm (bytes_left disk new Attach answer tt (step_as Attaching same)) (calm_outcomes cluster_version disk new place Attach answer tt (step_as Attaching same))
      (knows_by (λ current next at. subst (λ (k : Kind). KnowsMarkFor k new s b) (sym (then_as Attaching next same at)) tt))

  synced : kind ≡ Syncing → AfterMark s b disk new cell
  synced same =
      calm (bytes_left disk new (Sync (boot_of a)) answer tt (step_as Syncing same)) (calm_outcomes cluster_version disk new place (Sync (boot_of a)) answer tt (step_as Syncing same))
      (knows_by (λ current next at. subst (λ (k : Kind). KnowsMarkFor k new s b) (sym (then_as Syncing next same at))
      (sync_rests place disk new (boot_of a) answer (step_as Syncing same) (good_by current.good))))

  -- the first read is the third call
  third : kind ≡ Reading → length a ≡ 2
  third same = by_number (length a) short (is ∙ ap Some same)
    where
      by_number : (n : ℕ) → n < 9 → slice_get seventeen n ≡ Some Reading → n ≡ 2
      by_number zero l at = absurd (cc)
      by_number (suc zero) l at = absurd (cc)
      by_number (suc (suc zero)) l at = refl
      by_number (suc (suc (suc zero))) l at = absurd (cc)
      by_number (suc (suc (suc (suc zero)))) l at = absurd (cc)
      by_number (suc (suc (suc (suc (suc zero))))) l at = absurd (cc)
      by_number (suc (suc (suc (suc (suc (suc zero)))))) l at = absurd (cc)
      by_number (suc (suc (suc (suc (suc (suc (suc zero))))))) l at = absurd (cc)
      by_number (suc (suc (suc (suc (suc (suc (suc (suc zero)))))))) l at = absurd (cc)
      by_number (suc (suc (suc (suc (suc (suc (suc (suc (suc n))))))))) l at = absurd (omega arith)

  row_settles : (same : kind ≡ Reading) (row : List DecodedBlock) → x ≡ answers.Told (Some row) → IsAtRest cluster_version place disk → (bytes : List ℕ) → MayLeave new bytes → seen_in cluster_version (block_in cluster_version place bytes) ≡ own_block s b
  row_settles same row tells rests bytes left =
      let go = step_as Reading same in
      let before : MayLeave disk bytes = subst (λ (k : DiskState). MayLeave k bytes) (read_leaves disk new (boot_of a) (row_place cluster_version s.slot) ROW_LENGTH answer go) left in
      let said_so = row_told disk new (boot_of a) s.slot answer row go tells in
      let number : length a + 1 ≡ goal Opening = omega (arith, third same) in
      ap (seen_in cluster_version) (rests bytes before)
      ∙ ap (seen_in cluster_version) (sym (block_of-row_of cluster_version s.slot s.host disk.bytes host_below))
      ∙ sym (said_sees cluster_version (row_of cluster_version s.slot disk.bytes) row s.host host_below said_so)
      ∙ ap (λ (r : Option (List DecodedBlock)). seen_block r s.host) (sym (row_last Opening a x number ∙ ap told tells))

  is_read : kind ≡ Reading → AfterMark s b disk new cell
  is_read same =
      calm (bytes_left disk new (call_by s a Reading) answer tt (step_as Reading same)) (calm_outcomes cluster_version disk new place (call_by s a Reading) answer tt (step_as Reading same))
      (knows_by (λ current next at.
      (let row = reading_tells (boot_of a) (row_place cluster_version s.slot) ROW_LENGTH x (fits_as Reading same) (good_by current.good) in
      let rests : IsAtRest cluster_version place disk = subst (λ (k : Kind). KnowsMarkFor k disk s a) same (knows.next (current_before (λ e. absurd (let no : Reading ≡ Attaching = sym same ∙ e in cc)) current) kind is) in
      let behind = then_as Reading next same at in
      subst (λ (k : Kind). KnowsMarkFor k new s b) (sym behind.1) (row_settles same row.0 row.1 rests))))

  -- THE WRITE

  abbrev w : Write128
  w = write_on s a

  -- behind the read the own block is as it was read
  module _ (p : Phase) (behind : 3 ≤ length a) where
    own_then : own_block s b ≡ own_block s a
    own_then = ap (λ (r : Option (List DecodedBlock)). seen_block r s.host) (row_kept Opening a x behind)

    -- the write goes on
    goes_on : (next : WriteCall) → IsMarking s a next new → IsMarking s b next new
    goes_on next it =
        let write : write_on s b ≡ w = ap (λ (o : DecodedBlock). record { version = cluster_version; place = place; block = o.bytes; body = body_saying cluster_version (with_mark o.says) }) own_then in
        record {
          due = subst (λ (v : Write128). IsDue next v new) (sym write) it.due;
          can = subst (λ (o : DecodedBlock). CanWrite s.host (with_mark o.says) (record { version = cluster_version; place = place; block = o.bytes; body = body_saying cluster_version (with_mark o.says) })) (sym own_then) it.can;
          old = subst (λ (o : DecodedBlock). says_of cluster_version (value_of cluster_version o.bytes) ≡ o.says) (sym own_then) it.old;
        }

  -- it has the value
  module _ (marking : is_to_mark s a ≡ true) where
    inp_is : (own_block s a).says.inp ≡ Some s.value
    inp_is = value_is (own_block s a).says.inp s.value (and_parts (not (own_block s a).says.mark) (is_value (own_block s a).says.inp s.value) marking).1

    -- a block over which it may begin
    module _ (settled : KnowsMarkFor (Putting Opening CloseGate) disk s a) (fresh : nat_le LAST_SEQUENCE (own_block s a).sequence ≡ false) where
      seen_now : seen_in cluster_version (block_in cluster_version place disk.bytes) ≡ own_block s a
      seen_now = settled disk.bytes (may_leave_now disk)

      same_bytes : block_in cluster_version place disk.bytes ≡ w.block
      same_bytes = ap (λ (o : DecodedBlock). o.bytes) seen_now

      same_says : says_of cluster_version (value_of cluster_version (block_in cluster_version place disk.bytes)) ≡ (own_block s a).says
      same_says = ap (λ (o : DecodedBlock). o.says) seen_now

      sound_now : IsSoundBlock cluster_version (IsSound cluster_version s.host) (block_in cluster_version place disk.bytes)
      sound_now = stands.sound disk.bytes (may_leave_now disk)

      block_long : length (block_in cluster_version place disk.bytes) ≡ BLOCK_LENGTH
      block_long = length-block_in cluster_version place disk.bytes (omega (arith, image.long, spot_fits cluster_version slots (VoteOf s.slot s.host) (slot_below, host_below)))

      says_so : IsSaid cluster_version s.host (value_of cluster_version (block_in cluster_version place disk.bytes)) (own_block s a).says
      says_so = subst (IsSaid cluster_version s.host (value_of cluster_version (block_in cluster_version place disk.bytes))) same_says (sound_says cluster_version s.host (block_in cluster_version place disk.bytes) block_long sound_now)

      begins : IsMarking s a CloseGate disk
      begins =
          let can : CanWrite s.host (with_mark (own_block s a).says) w = record {
            is_write = record {
              sound = subst (IsSoundBlock cluster_version (IsSound cluster_version s.host)) same_bytes sound_now;
              may_say = may_mark s.host (value_of cluster_version (block_in cluster_version place disk.bytes)) (own_block s a).says s.value says_so inp_is;
              body = refl;
              number = number_fits (value_of cluster_version w.block) (own_block s a).sequence (ap (λ (l : List ℕ). sequence_or_zero (value_of cluster_version l)) (sym same_bytes) ∙ ap (λ (o : DecodedBlock). o.sequence) seen_now) fresh;
            };
            long = ap length (sym same_bytes) ∙ block_long;
            full = fills cluster_version (with_mark (own_block s a).says) (said_long cluster_version s.host (block_in cluster_version place disk.bytes) (own_block s a).says (value_of cluster_version (block_in cluster_version place disk.bytes)) block_long refl says_so);
          } in
          record {
            due = settled_begins w disk (mark_placed slots s a disk image slot_below host_below can) (λ bytes left. ap (λ (o : DecodedBlock). o.bytes) (settled bytes left));
            can = can;
            old = ap (λ (l : List ℕ). says_of cluster_version (value_of cluster_version l)) (sym same_bytes) ∙ same_says;
          }

    -- WHAT A CALL OF IT LEAVES

    module _ (call : WriteCall) (it : IsMarking s a call disk) (go : (answer' : Answer) → answer ≡ answer' → Step disk (call_of call w (boot_of a)) answer' new) where
      placed : IsPlaced w disk
      placed = mark_placed slots s a disk image slot_below host_below it.can

      placed_then : IsPlaced w new
      placed_then = mark_placed slots s a new image_then slot_below host_below it.can

      new_says : says_of cluster_version (new_value w) ≡ with_mark (own_block s a).says
      new_says = claims_back cluster_version (with_mark (own_block s a).says) s.host it.can.is_write.may_say

      -- what it says then, but for the mark, is what it said
      same_said : said (new_value w) ≡ said (old_value w)
      same_said = ap block_said new_says ∙ ap block_said (sym it.old)

      adds : (answer' : Answer) → answer ≡ answer' → Adds (old_value w) (new_value w) place disk new
      adds answer' e = put_adds w disk placed (boot_of a) new placed_then call answer' it.due (go answer' e)

      reads_by : Adds (old_value w) (new_value w) place disk new → (bytes : List ℕ) → MayLeave new bytes → IsReading cell (said (value_of cluster_version (block_in cluster_version place bytes)))
      reads_by added bytes left = elim (added bytes left) [
        | inl before ↦ subst (λ (v : Value). IsReading cell (said v)) (sym before.2) (stands.reads before.0 before.1)
        | inr both ↦ subst (IsReading cell) (sym same_said ∙ ap said (sym both.0)) (subst (λ (v : Value). IsReading cell (said v)) both.1 (stands.reads disk.bytes (may_leave_now disk)))
      ]

      marks_by : Adds (old_value w) (new_value w) place disk new → AllSay (IsMarkedWith s disk) place new
      marks_by added = all_say_added (IsMarkedWith s disk) (old_value w) (new_value w) place disk new added (λ before marked. inr (ap (λ (q : PBlock). q.inp) new_says ∙ inp_is)) (said_before s disk)

      -- both values have one mbal
      promises_by : ReadsOn w disk placed (boot_of a) new placed_then → promised place new ≡ promised place disk
      promises_by reads = elim reads [
        | inl same ↦ ap (λ (v : Value). (says_of cluster_version v).mbal) same
        | inr both ↦ ap (λ (v : Value). (says_of cluster_version v).mbal) both.0 ∙ ap (λ (q : PBlock). q.mbal) new_says ∙ sym (ap (λ (q : PBlock). q.mbal) it.old) ∙ sym (ap (λ (v : Value). (says_of cluster_version v).mbal) both.1)
      ]

      after_by : (answer' : Answer) → answer ≡ answer' → IsSoundAt cluster_version s.host place new → KnowsMark new s b → AfterMark s b disk new cell
      after_by answer' e sound known =
          record {
            stands = record { reads = reads_by (adds answer' e); sound = sound };
            knows = known;
            marks = marks_by (adds answer' e);
            promises = promises_by (put_reads w disk placed (boot_of a) new placed_then call answer' it.due (go answer' e));
          }

      -- a call that failed
      failed : answer ≡ Fault Failed → AfterMark s b disk new cell
      failed e =
          after_by (Fault Failed) e (sound_when_failed s.host w (with_mark (own_block s a).says) disk placed it.can.is_write call (boot_of a) new it.due (go (Fault Failed) e).2)
          (knows_none (ap (λ (q : Answer). is_bad (heard_as q)) e))

      -- with success, but for the sixth
      went : (p : Phase) (next : WriteCall) → 3 ≤ length a → kind ≡ Putting p call → (Next (next_call call) w new → IsDue next w new) → ((k : Kind) → Then (Putting p call) k → k ≡ Putting p next) → (IsMarking s b next new → KnowsMarkFor (Putting p next) new s b)
          → answer ≡ Done → AfterMark s b disk new cell
      went p next behind same leads turn knows_it e =
          let due : IsDue next w new = leads (done_leads_on w disk placed call (boot_of a) new it.due (go Done e)) in
          after_by Done e (sound_while_due s.host w (with_mark (own_block s a).says) new placed_then it.can.is_write next due)
          (knows_by (λ current k at. subst (λ (q : Kind). KnowsMarkFor q new s b) (sym (turn k (then_as (Putting p call) k same at)))
          (knows_it (goes_on p behind next (record { due = due; can = it.can; old = it.old })))))

      -- and the sixth
      marked : (p : Phase) → kind ≡ Putting p SyncOpened → answer ≡ Done → Step disk (Sync (boot_of a)) Done new → AfterMark s b disk new cell
      marked p same e step' =
          calm (bytes_left disk new (Sync (boot_of a)) Done tt step') (calm_outcomes cluster_version disk new place (Sync (boot_of a)) Done tt step')
          (knows_by (λ current k at. subst (λ (q : Kind). KnowsMarkFor q new s b) (sym (then_as (Putting p SyncOpened) k same at)) (known_synced cluster_version place disk new (boot_of a) step').0))

    -- its calls come behind the read
    behind : (p : Phase) (call : WriteCall) → kind ≡ Putting p call → 3 ≤ length a
    behind p call same = by_number (length a) (is ∙ ap Some same)
      where
        by_number : (n : ℕ) → slice_get seventeen n ≡ Some (Putting p call) → 3 ≤ n
        by_number zero at = absurd (cc)
        by_number (suc zero) at = absurd (cc)
        by_number (suc (suc zero)) at = absurd (cc)
        by_number (suc (suc (suc n))) at = omega arith

    -- the write as it stands, where the call was carried out, or failed
    it_is : (p : Phase) (call : WriteCall) → kind ≡ Putting p call → IsUnder (call_of call w (boot_of a)) disk.boot → IsMarking s a call disk
    it_is p call same under = by call same (subst (λ (k : Kind). KnowsMarkFor k disk s a) same (knows.next (record { good = good; boot = under_is call w (boot_of a) disk.boot under }) kind is))
      where
        by : (call : WriteCall) → kind ≡ Putting p call → KnowsMarkFor (Putting p call) disk s a → IsMarking s a call disk
        by CloseGate same known = begins known (unspent p same)
        by SyncClosed same known = known
        by PutBody same known = known
        by SyncBody same known = known
        by OpenGate same known = known
        by SyncOpened same known = known

    put_after : (p : Phase) (call : WriteCall) → kind ≡ Putting p call
        → ((it : IsMarking s a call disk) → answer ≡ Done → ((answer' : Answer) → answer ≡ answer' → Step disk (call_of call w (boot_of a)) answer' new) → AfterMark s b disk new cell)
        → AfterMark s b disk new cell
    put_after p call same done = by answer refl
      where
        go : (answer' : Answer) → answer ≡ answer' → Step disk (call_of call w (boot_of a)) answer' new
        go answer' e = subst (λ (q : Answer). Step disk (call_of call w (boot_of a)) q new) e (step_as (Putting p call) same)

        by : (answer' : Answer) → answer ≡ answer' → AfterMark s b disk new cell
        by (Booted number) e = absurd (let step' = go (Booted number) e in let one = step'.2.0 in let two = done_is call w (boot_of a) disk in cc)
        by (Told bytes) e = absurd (let step' = go (Told bytes) e in let one = step'.2.0 in let two = done_is call w (boot_of a) disk in cc)
        by Done e = done (it_is p call same (go Done e).1) e go
        by (Fault Reset) e = calm (ap (λ (d : DiskState). d.bytes) (go (Fault Reset) e).2) (same_outcomes cluster_version disk new place (go (Fault Reset) e).2) (knows_none (ap (λ (q : Answer). is_bad (heard_as q)) e))
        by (Fault Gone) e = calm (ap (λ (d : DiskState). d.bytes) (go (Fault Gone) e).1) (same_outcomes cluster_version disk new place (go (Fault Gone) e).1) (knows_none (ap (λ (q : Answer). is_bad (heard_as q)) e))
        by (Fault Failed) e = failed call (it_is p call same (go (Fault Failed) e).1) go e

    called : (p : Phase) (call : WriteCall) → kind ≡ Putting p call → AfterMark s b disk new cell
    called p CloseGate same = put_after p CloseGate same (λ it e go. went CloseGate it go p SyncClosed (behind p CloseGate same) same (λ l. l) (λ k t. t) (λ k. k) e)
    called p SyncClosed same = put_after p SyncClosed same (λ it e go. went SyncClosed it go p PutBody (behind p SyncClosed same) same (λ l. l) (λ k t. t) (λ k. k) e)
    called p PutBody same = put_after p PutBody same (λ it e go. went PutBody it go p SyncBody (behind p PutBody same) same (λ l. l) (λ k t. t) (λ k. k) e)
    called p SyncBody same = put_after p SyncBody same (λ it e go. went SyncBody it go p OpenGate (behind p SyncBody same) same (λ l. l) (λ k t. t) (λ k. k) e)
    called p OpenGate same = put_after p OpenGate same (λ it e go. went OpenGate it go p SyncOpened (behind p OpenGate same) same (λ l. l) (λ k t. t) (λ k. k) e)
    called p SyncOpened same = put_after p SyncOpened same (λ it e go. marked SyncOpened it go p same e (go Done e))

  -- ANY CALL OF IT

  pub mark_after : AfterMark s b disk new cell
  mark_after = by kind refl
    where
      by : (other : Kind) → kind ≡ other → AfterMark s b disk new cell
      by Attaching same = attached same
      by Syncing same = synced same
      by Reading same = is_read same
      by (Putting p call) same = called (to_mark p call same) p call same
