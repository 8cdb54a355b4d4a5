-- A call of an attempt's write is answered: what its own block stands for then, and what it knows of it; and so of any call.
use Rattle.world_safety.specs.Cluster.{at_cluster}
use Rattle.std.proofs.Common.{ℕ, ◌≤◌, ◌≡◌, inl, true, false, Some, None, List, length, refl, sym, subst, ap, ◌∙◌}
use Rattle.std.specs.Prelude.{nat_le}
use Rattle.disk.specs.declared.fault.DiskFault.TheVariants.{Reset, Failed, Gone}
use Rattle.disk.specs.Disk.{DiskState, Call, Sync, Answer, Booted, Told, Done, Fault, IsUnder, Step}
use Rattle.torn_block.specs.Layout.{cluster_version}
use Rattle.torn_block.specs.declared.layout.TheConstants.{BODY_LENGTH, LAST_SEQUENCE}
use Rattle.torn_block.specs.declared.write_steps.WriteCall.{WriteCall}
use Rattle.torn_block.specs.declared.write_steps.WriteCall.TheVariants.{CloseGate, SyncClosed, PutBody, SyncBody, OpenGate, SyncOpened}
use Rattle.torn_block.proofs.RegisterLaws.{known_synced}
use Rattle.torn_block.specs.Stage.{Write128, call_of, next_call, old_value, new_value, IsDue, Stands as Next}
use Rattle.torn_block.proofs.StageLaws.{done_reads, done_leads_on}
use Rattle.paxos_block.specs.Saying.{Said as PBlock, MaySay, body_saying}
use Rattle.paxos_block.proofs.WriteLemmas.{sound_when_done}
use Rattle.attempt.specs.Calls.{Phase, Kind, Attaching, Syncing, Reading, Putting}
use Rattle.attempt.specs.Answers as answers
use Rattle.attempt.specs.Answers.{Heard, Answers, heard_as, is_bad, told, last_row, boot_of, more, seen_block}
use Rattle.attempt.specs.Setup.{Setup}
use Rattle.attempt.specs.History.{Fits}
use Rattle.attempt.specs.NextCall.{says_for, write_on, call_by}
use Rattle.agreement.specs.State.{Block, Cell}
use Rattle.attempt_safety.specs.Machine.{block_said}
use Rattle.attempt_safety.specs.Registers.{IsNext}
use Rattle.attempt_safety.specs.Leads.{IsSameBlock, IsBegun, IsConfirmed, OwnBlock}
use Rattle.world_safety.specs.Blocks.{said, Stands}
use Rattle.world_safety.specs.Knows.{own_place, CanWrite, IsWriting, Writes, KnowsFor, IsCurrent, Knows}
use Rattle.attempt.proofs.Calls.{Then}
use Rattle.world_safety.proofs.Blocks.Standing.{stands_same}
use Rattle.world_safety.proofs.Blocks.Owned.{After, IsOwnCall, then_is, boot_then, knows_none, says_then, write_then, attached, synced, read}
use Rattle.world_safety.proofs.Blocks.Owning.{done_is, under_is, stands_more, placed, new_says, due_stands, failed_stands, can_begin, begins_due, old_is}

module _ (slots : ℕ) (any : Setup) (p : Phase) (d : ℕ) (f : Answers) (disk new : DiskState) (answer : Answer) (old cell : Cell (List ℕ)) (own : IsOwnCall slots (at_cluster any) p d f disk new old) where
  abbrev s : Setup
  s = at_cluster any

  open own use {image, image_then, slot_below, host_below, good, stands, knows}

  abbrev x : Heard
  x = heard_as answer

  abbrev g : Answers
  g = more f d x

  -- what holds behind any call

  then_behind : (kind next : Kind) → IsNext (f d) kind → IsNext (g d) next → Then kind next
  then_behind = then_is slots s p d f disk new answer old cell own

  boot_behind : (call : Call) → Step disk call answer new → boot_of (g d) ≤ new.boot
  boot_behind = boot_then slots s p d f disk new answer old cell own

  none_behind : (call : Call) → Step disk call answer new → is_bad x ≡ true → Knows new s g d cell
  none_behind = knows_none slots s p d f disk new answer old cell own

  -- THE WRITE

  abbrev w : Write128
  w = write_on s p d f

  abbrev boot : ℕ
  boot = boot_of (f d)

  -- the disk was left as it was
  unchanged : (same : new ≡ disk) → Stands disk s.slot s.host cell → Stands new s.slot s.host cell
  unchanged same is = subst (λ (k : DiskState). Stands k s.slot s.host cell) (sym same) is

  -- goes on, with the value in writing
  goes_on : (next : WriteCall) → told x ≡ None → IsWriting s.host (says_for s p f) w next new cell → Writes s p d g next new cell
  goes_on next none is =
      subst (λ (k : Write128). IsWriting s.host (says_for s p g) k next new cell) (sym (write_then slots s p d f disk new answer old cell own none))
      (subst (λ (b : PBlock). IsWriting s.host b w next new cell) (sym (says_then slots s p d f disk new answer old cell own)) is)

  still : (call : WriteCall) → IsUnder (call_of call w boot) disk.boot → IsCurrent disk (f d)
  still call is = record { good = good; boot = under_is call w boot disk.boot is }

  answered_by : (call : Call) (a : Answer) → answer ≡ a → Step disk call answer new → Step disk call a new
  answered_by call a is step = subst (λ (b : Answer). Step disk call b new) is step

  -- the write's calls answer that they are done
  not_booted : (call : WriteCall) (number : ℕ) → ¬ Step disk (call_of call w boot) (Booted number) new
  not_booted call number step = let one = step.2.0 in let two = done_is call w boot disk in absurd (cc)

  not_told : (call : WriteCall) (bytes : List ℕ) → ¬ Step disk (call_of call w boot) (Told bytes) new
  not_told call bytes step = let one = step.2.0 in let two = done_is call w boot disk in absurd (cc)

  -- ITS FIRST CALL

  -- what it takes to begin
  pub record CanBegin : Type 0 where
    pub may : MaySay cluster_version s.host (says_for s p f)
    pub full : length (body_saying cluster_version (says_for s p f)) ≡ BODY_LENGTH
    pub unspent : nat_le LAST_SEQUENCE (seen_block (last_row (f d)) s.host).sequence ≡ false
    pub rests : old.writing ≡ None

  module _ (ready : CanBegin) (is : IsNext (f d) (Putting p CloseGate)) (begun : IsBegun (block_said (says_for s p f)) old cell) where
    settled : IsCurrent disk (f d) → KnowsFor (Putting p CloseGate) disk s f d old
    settled current = knows.next current (Putting p CloseGate) is

    can : IsCurrent disk (f d) → CanWrite s.host (says_for s p f) w
    can current = can_begin slots s p d f disk image slot_below host_below old stands (settled current) ready.may ready.full ready.unspent

    due : IsCurrent disk (f d) → IsDue CloseGate w disk
    due current = begins_due slots s p d f disk image slot_below host_below old stands (settled current) (can current)

    confirmed : IsCurrent disk (f d) → cell.confirmed ≡ said (old_value w)
    confirmed current = begun.confirmed ∙ old_is slots s p d f disk image slot_below host_below old stands (settled current) ready.rests

    writing : cell.writing ≡ Some (said (new_value w))
    writing = begun.writing ∙ ap (λ (b : Block (List ℕ)). Some b) (sym (new_says slots s p d f disk image slot_below host_below ready.may))

    more_says : Stands disk s.slot s.host cell
    more_says = stands_more disk s.slot s.host (block_said (says_for s p f)) old cell ready.rests begun stands

    begun_done : Step disk (call_of CloseGate w boot) Done new → x ≡ answers.Done → Step disk (call_of CloseGate w boot) answer new → After s d g new cell
    begun_done step is_done given =
        let current = still CloseGate step.1 in
        let next : IsDue SyncClosed w new = done_leads_on w disk (placed slots s p d f disk image slot_below host_below (can current)) CloseGate boot new (due current) step in
        record {
          stands = due_stands slots s p d f disk image slot_below host_below (can current) new image_then SyncClosed cell (placed slots s p d f new image_then slot_below host_below (can current)) next (confirmed current) writing;
          knows = record {
            boot = boot_behind (call_of CloseGate w boot) given;
            next = λ now kind then. subst (λ (k : Kind). KnowsFor k new s g d cell) (sym (then_behind (Putting p CloseGate) kind is then))
                (goes_on SyncClosed (ap told is_done) (record { due = next; can = can current; confirmed = confirmed current; writing = writing }));
          };
        }

    pub begun_after : Step disk (call_of CloseGate w boot) answer new → After s d g new cell
    begun_after step = go answer refl
      where
        go : (a : Answer) → answer ≡ a → After s d g new cell
        go (Booted number) e = absurd (not_booted CloseGate number (answered_by (call_of CloseGate w boot) (Booted number) e step))
        go (Told bytes) e = absurd (not_told CloseGate bytes (answered_by (call_of CloseGate w boot) (Told bytes) e step))
        go Done e = begun_done (answered_by (call_of CloseGate w boot) Done e step) (ap heard_as e) step
        go (Fault Reset) e = record {
          stands = unchanged (answered_by (call_of CloseGate w boot) (Fault Reset) e step).2 more_says;
          knows = none_behind (call_of CloseGate w boot) step (ap (λ (a : Answer). is_bad (heard_as a)) e);
        }
        go (Fault Gone) e = record {
          stands = unchanged (answered_by (call_of CloseGate w boot) (Fault Gone) e step).1 more_says;
          knows = none_behind (call_of CloseGate w boot) step (ap (λ (a : Answer). is_bad (heard_as a)) e);
        }
        go (Fault Failed) e =
            let fails = answered_by (call_of CloseGate w boot) (Fault Failed) e step in
            let current = still CloseGate fails.1 in
            record {
              stands = failed_stands slots s p d f disk image slot_below host_below (can current) new CloseGate boot cell (due current) fails (confirmed current) writing;
              knows = none_behind (call_of CloseGate w boot) step (ap (λ (a : Answer). is_bad (heard_as a)) e);
            }

  -- ITS OTHER CALLS

  module _ (call : WriteCall) (is : IsNext (f d) (Putting p call)) (known : KnowsFor (Putting p call) disk s f d old → Writes s p d f call disk old) where
    going : IsUnder (call_of call w boot) disk.boot → Writes s p d f call disk old
    going now = known (knows.next (still call now) (Putting p call) is)

    -- without success
    refused : IsSameBlock old cell → ¬ (answer ≡ Done) → Step disk (call_of call w boot) answer new → After s d g new cell
    refused same not_done step = go answer refl
      where
        bad : (a : Answer) → answer ≡ a → is_bad (heard_as a) ≡ true → Knows new s g d cell
        bad a e is_so = none_behind (call_of call w boot) step (ap (λ (b : Answer). is_bad (heard_as b)) e ∙ is_so)

        go : (a : Answer) → answer ≡ a → After s d g new cell
        go (Booted number) e = absurd (not_booted call number (answered_by (call_of call w boot) (Booted number) e step))
        go (Told bytes) e = absurd (not_told call bytes (answered_by (call_of call w boot) (Told bytes) e step))
        go Done e = absurd (not_done e)
        go (Fault Reset) e = record {
          stands = unchanged (answered_by (call_of call w boot) (Fault Reset) e step).2 (stands_same disk s.slot s.host old cell same stands);
          knows = bad (Fault Reset) e refl;
        }
        go (Fault Gone) e = record {
          stands = unchanged (answered_by (call_of call w boot) (Fault Gone) e step).1 (stands_same disk s.slot s.host old cell same stands);
          knows = bad (Fault Gone) e refl;
        }
        go (Fault Failed) e =
            let fails = answered_by (call_of call w boot) (Fault Failed) e step in
            let now = going fails.1 in
            record {
              stands = failed_stands slots s p d f disk image slot_below host_below now.can new call boot cell now.due fails (same.confirmed ∙ now.confirmed) (same.writing ∙ now.writing);
              knows = bad (Fault Failed) e refl;
            }

    -- with success, but for the sixth
    went : (next : WriteCall) → (Next (next_call call) w new → IsDue next w new) → ((k : Kind) → Then (Putting p call) k → k ≡ Putting p next) → (Writes s p d g next new cell → KnowsFor (Putting p next) new s g d cell)
        → IsSameBlock old cell → answer ≡ Done → Step disk (call_of call w boot) answer new → After s d g new cell
    went next leads behind knows_it same e step =
        let done = answered_by (call_of call w boot) Done e step in
        let now = going done.1 in
        let due = leads (done_leads_on w disk (placed slots s p d f disk image slot_below host_below now.can) call boot new now.due done) in
        let confirmed = same.confirmed ∙ now.confirmed in
        let writing = same.writing ∙ now.writing in
        record {
          stands = due_stands slots s p d f disk image slot_below host_below now.can new image_then next cell (placed slots s p d f new image_then slot_below host_below now.can) due confirmed writing;
          knows = record {
            boot = boot_behind (call_of call w boot) step;
            next = λ current kind then. subst (λ (k : Kind). KnowsFor k new s g d cell) (sym (behind kind (then_behind (Putting p call) kind is then)))
                (knows_it (goes_on next (ap (λ (a : Answer). told (heard_as a)) e) (record { due = due; can = now.can; confirmed = confirmed; writing = writing })));
          };
        }

    goes_by : (next : WriteCall) → (Next (next_call call) w new → IsDue next w new) → ((k : Kind) → Then (Putting p call) k → k ≡ Putting p next) → (Writes s p d g next new cell → KnowsFor (Putting p next) new s g d cell)
        → IsSameBlock old cell → Step disk (call_of call w boot) answer new → After s d g new cell
    goes_by next leads behind knows_it same step = go answer refl
      where
        go : (a : Answer) → answer ≡ a → After s d g new cell
        go Done e = went next leads behind knows_it same e step
        go (Booted number) e = refused same (λ done. absurd (cc)) step
        go (Told bytes) e = refused same (λ done. absurd (cc)) step
        go (Fault fault) e = refused same (λ done. absurd (cc)) step

  -- the sixth
  confirmed_after : IsNext (f d) (Putting p SyncOpened) → IsConfirmed (block_said (says_for s p f)) cell → answer ≡ Done → Step disk (Sync boot) answer new → After s d g new cell
  confirmed_after is becomes e step =
      let done = answered_by (Sync boot) Done e step in
      let now = going SyncOpened is (λ k. k) done.1 in
      let all = done_leads_on w disk (placed slots s p d f disk image slot_below host_below now.can) SyncOpened boot new now.due done in
      let place = placed slots s p d f new image_then slot_below host_below now.can in
      record {
        stands = record {
          reads = λ bytes left. inl (ap said (done_reads w new place all bytes left) ∙ new_says slots s p d f disk image slot_below host_below now.can.is_write.may_say ∙ sym becomes.confirmed);
          sound = sound_when_done s.host w (says_for s p f) new place now.can.is_write all;
        };
        knows = record {
          boot = boot_behind (Sync boot) step;
          next = λ current kind then. subst (λ (k : Kind). KnowsFor k new s g d cell) (sym (then_behind (Putting p SyncOpened) kind is then)) (known_synced cluster_version (own_place s) disk new boot done).0;
        };
      }

  sixth_after : IsNext (f d) (Putting p SyncOpened) → OwnBlock s f (Putting p SyncOpened) x old cell → Step disk (Sync boot) answer new → After s d g new cell
  sixth_after is becomes step = go answer refl
    where
      becomes_as : (a : Answer) → answer ≡ a → OwnBlock s f (Putting p SyncOpened) (heard_as a) old cell
      becomes_as a e = subst (λ (b : Answer). OwnBlock s f (Putting p SyncOpened) (heard_as b) old cell) e becomes

      go : (a : Answer) → answer ≡ a → After s d g new cell
      go Done e = confirmed_after is (becomes_as Done e) e step
      go (Booted number) e = refused SyncOpened is (λ k. k) (becomes_as (Booted number) e) (λ done. absurd (cc)) step
      go (Told bytes) e = refused SyncOpened is (λ k. k) (becomes_as (Told bytes) e) (λ done. absurd (cc)) step
      go (Fault fault) e = refused SyncOpened is (λ k. k) (becomes_as (Fault fault) e) (λ done. absurd (cc)) step

  -- ANY CALL

  put_after : (call : WriteCall) → (IsNext (f d) (Putting p CloseGate) → CanBegin) → IsNext (f d) (Putting p call) → OwnBlock s f (Putting p call) x old cell → Step disk (call_of call w boot) answer new → After s d g new cell
  put_after CloseGate ready is becomes step = begun_after (ready is) is becomes step
  put_after SyncClosed ready is becomes step = goes_by SyncClosed is (λ k. k) PutBody (λ l. l) (λ k t. t) (λ k. k) becomes step
  put_after PutBody ready is becomes step = goes_by PutBody is (λ k. k) SyncBody (λ l. l) (λ k t. t) (λ k. k) becomes step
  put_after SyncBody ready is becomes step = goes_by SyncBody is (λ k. k) OpenGate (λ l. l) (λ k t. t) (λ k. k) becomes step
  put_after OpenGate ready is becomes step = goes_by OpenGate is (λ k. k) SyncOpened (λ l. l) (λ k t. t) (λ k. k) becomes step
  put_after SyncOpened ready is becomes step = sixth_after is becomes step

  pub own_after : (kind : Kind) → ((q : Phase) (call : WriteCall) → kind ≡ Putting q call → q ≡ p) → (IsNext (f d) (Putting p CloseGate) → CanBegin) → IsNext (f d) kind → Fits (call_by s d f kind) x
      → OwnBlock s f kind x old cell → Step disk (call_by s d f kind) answer new → After s d g new cell
  own_after Attaching phase ready is fits same step = attached slots s p d f disk new answer old cell own is step same
  own_after Syncing phase ready is fits same step = synced slots s p d f disk new answer old cell own boot is step same
  own_after Reading phase ready is fits same step = read slots s p d f disk new answer old cell own is fits step same
  own_after (Putting q call) phase ready is fits becomes step = by_phase q (sym (phase q call refl)) is becomes step
    where
      by_phase : (q : Phase) → p ≡ q → IsNext (f d) (Putting q call) → OwnBlock s f (Putting q call) x old cell → Step disk (call_by s d f (Putting q call)) answer new → After s d g new cell
      by_phase q same = subst (λ (k : Phase). IsNext (f d) (Putting k call) → OwnBlock s f (Putting k call) x old cell → Step disk (call_by s d f (Putting k call)) answer new → After s d g new cell) same (put_after call ready)
