-- What follows from each answer that a window may hear.
use Rattle.std.specs.Prelude.{slice_index, slice_index_or}
use Rattle.std.proofs.Common.{ℕ, ◌≡◌, ◌≢◌, ◌∙◌, ◌⊎◌, ◌<◌, ◌+◌, Bool, true, false, List, [], ◌∷◌, ◌++◌, Option, Some, None, refl, sym, ap, ap₂, subst, inl, inr, arith}
use Rattle.disk.specs.declared.fault.DiskFault.{DiskFault}
use Rattle.disk.specs.declared.fault.DiskFault.TheVariants.{Failed}
use Rattle.disk.specs.declared.boot.Boot.{Boot}
use Rattle.disk.specs.Disk.{Call, Attach, Read, Write, Sync, Answer, Booted, Told, Done, Fault}
use Rattle.torn_block.specs.Layout.{cluster_version}
use Rattle.torn_block.specs.declared.layout.TheConstants.{HOSTS, ROW_LENGTH, BLOCK_LENGTH}
use Rattle.heartbeat.specs.Beat.{IsDamagedArea, counters_in}
use Rattle.attempt.specs.Answers.{heard_in}
use Rattle.attempt.specs.Heard.{Fits}
use Rattle.attempt.specs.DeviceCalls.{device_answer, device_call_of, heard_of}
use Rattle.attempt.specs.declared.need.DeviceCall as code_call
use Rattle.attempt.specs.declared.need.DeviceCall.TheVariants as call
use Rattle.attempt.specs.declared.heard.Heard as code_heard
use Rattle.attempt.specs.declared.heard.Heard.TheVariants as answer
use Rattle.standings.specs.Epochs.{base_of, number_place, standings_place}
use Rattle.standings.specs.Reading.{masked, shown_by, shown_in, AreClear, HasPassed, numbers_in}
use Rattle.standings.specs.Past.{Past, made, reading, Spares, IsAnswered}
use Rattle.standings.proofs.Numbers.{counters_are_numbers}
use Rattle.standings.proofs.TwoReadings.{clear_by_rows, masked_by_rows}
use Rattle.window.specs.declared.outcome.Outcome.TheVariants as outcome
use Rattle.window.specs.declared.sight.Sight.{Sight}
use Rattle.window.specs.declared.standing.Hidden.{Hidden}
use Rattle.window.specs.declared.standing.Hidden.TheVariants as hidden
use Rattle.window.specs.declared.step.Reading.{Reading}
use Rattle.window.specs.declared.step.Step.{Step}
use Rattle.window.specs.declared.step.Step.TheVariants.{Row, Second}
use Rattle.window.specs.declared.window.Window.{Window}
use Rattle.window.specs.Calls.{Follows, IsOwn, due_for, length_of, sight_of, step_of}
use Rattle.window.specs.Steps.{left_at, read_due}
use Rattle.window.specs.Hearing.{Hears, SeesOn, FollowsOn, ShowsLast}
use Rattle.window.specs.Knows.{Pasts, AddsCall, AreSaid, TellsNone, AreNumbers, HasRead, HasReadRow, KnowsOf, ShowsLater, sight_in}
use Rattle.window.specs.Outcomes.{FailsAt, GoesOnAt, IsAfterReading, IsGood, IsHiddenBy, NoticesAt, passed_by}
use Rattle.window.specs.Sights.{IsKnownUnder, IsSureUnder, IsSyncedUnder, IsUnder, Keeps}
use Rattle.window.proofs.Following.{all_go_on, write_spares}
use Rattle.window.proofs.Pasts.{knows_of_more}
use Rattle.window.proofs.Steps.{IsRead, begun, due_is_read, has_begun, read_spares, step_known}

-- an answer of the code, as it is heard
pub heard_same : (h : code_heard.Heard (List ℕ)) → heard_of cluster_version h ≡ heard_in cluster_version (device_answer h)
heard_same (answer.Booted boot) = refl
heard_same answer.Done = refl
heard_same (answer.Told row) = refl
heard_same (answer.Fault fault) = refl

pub fits_same : (call : Call) (h : code_heard.Heard (List ℕ)) → Fits call (heard_of cluster_version h) → Fits call (heard_in cluster_version (device_answer h))
fits_same call h fits = subst (Fits call) (heard_same h) fits

-- no read is under way
no_read : (P : Reading → Type 0) (r : Reading) → None ≡ Some r → P r
no_read P r is = absurd cc

pub keeps_same : (s : Option Sight) → Keeps s s
keeps_same s = record { under = λ boot is. is; synced = λ boot is. is; sure = λ boot is. is; known = λ boot is. is }

-- the core is to hear something, or another call is due
not_over : {P : Type 0} → true ≡ false → P
not_over none = absurd cc

over : {P : Type 0} → false ≡ true → P
over told = absurd cc

-- CALLS THAT ARE NO READS

module _ (w : Window) (disk : ℕ) (answer : Answer) where
  abbrev n : ℕ
  n = length_of w

  abbrev base : ℕ
  base = base_of n w.standpoint.epoch.area

  pub attach_hears : (sights : List (Option Sight)) → Fits Attach (heard_in cluster_version answer)
      → ((past : Past) → KnowsOf n w.standpoint.epoch w.standpoint.host past (sight_of w disk) → KnowsOf n w.standpoint.epoch w.standpoint.host (past ++ made Attach answer ∷ []) (sight_in sights disk))
      → ((other : ℕ) → other ≢ disk → sight_in sights other ≡ sight_of w other)
      → SeesOn w.standpoint.only_looks Attach answer (Some outcome.AsHeard) (sight_of w disk) (sight_in sights disk)
      → Hears w (record w { sights = sights; reading = None }) disk Attach answer (Some outcome.AsHeard)
  attach_hears sights fits knows others sees =
      record {
        same = refl;
        follows =
            λ before after is adds.
            all_go_on n w.standpoint.epoch w.standpoint.host before after disk (made Attach answer) adds w.sights sights w.reading None w.row w.row w.has_passed w.has_passed is
            (knows (before disk)) others (no_read _) (λ so. inl so);
        answered = λ before after is adds. (before disk, adds.here);
        fits = fits;
        fewer = tt;
        cause = refl;
        sights = record { here = sees; others = others };
        notices = record { now = tt; before = λ so. so };
        rests = λ told. refl;
        last = λ none. not_over none;
        at_once = tt;
      }

  pub sync_hears : (boot : ℕ) (sights : List (Option Sight)) → Fits (Sync boot) (heard_in cluster_version answer)
      → ((past : Past) → KnowsOf n w.standpoint.epoch w.standpoint.host past (sight_of w disk) → KnowsOf n w.standpoint.epoch w.standpoint.host (past ++ made (Sync boot) answer ∷ []) (sight_in sights disk))
      → ((other : ℕ) → other ≢ disk → sight_in sights other ≡ sight_of w other)
      → SeesOn w.standpoint.only_looks (Sync boot) answer (Some outcome.AsHeard) (sight_of w disk) (sight_in sights disk)
      → Hears w (record w { sights = sights; reading = None }) disk (Sync boot) answer (Some outcome.AsHeard)
  sync_hears boot sights fits knows others sees =
      record {
        same = refl;
        follows =
            λ before after is adds.
            all_go_on n w.standpoint.epoch w.standpoint.host before after disk (made (Sync boot) answer) adds w.sights sights w.reading None w.row w.row w.has_passed w.has_passed is
            (knows (before disk)) others (no_read _) (λ so. inl so);
        answered = λ before after is adds. (before disk, adds.here);
        fits = fits;
        fewer = tt;
        cause = refl;
        sights = record { here = sees; others = others };
        notices = record { now = tt; before = λ so. so };
        rests = λ told. refl;
        last = λ none. not_over none;
        at_once = tt;
      }

  -- a call of a write tells no boot number
  tells_none : (boot at : ℕ) (bytes : List ℕ) (answer : Answer) → Fits (Write boot at bytes) (heard_in cluster_version answer) → TellsNone answer
  tells_none boot at bytes (Booted b) fits = fits
  tells_none boot at bytes (Told row) fits = tt
  tells_none boot at bytes Done fits = tt
  tells_none boot at bytes (Fault fault) fits = tt

  pub write_hears : (boot at : ℕ) (bytes : List ℕ) → w.standpoint.epoch.area < 2 → w.standpoint.host < HOSTS → IsOwn n w.standpoint.host (Write boot at bytes) → Fits (Write boot (base + at) bytes) (heard_in cluster_version answer)
      → Hears w (record w { reading = None }) disk (Write boot at bytes) answer (Some outcome.AsHeard)
  write_hears boot at bytes is_area is_host own fits =
      let m = made (Write boot (base + at) bytes) answer in
      let spares = write_spares n w.standpoint.epoch.area w.standpoint.host own.0 at bytes boot is_area is_host own.1 own.2 own.3 in
      record {
        same = refl;
        follows =
            λ before after is adds.
            all_go_on n w.standpoint.epoch w.standpoint.host before after disk m adds w.sights w.sights w.reading None w.row w.row w.has_passed w.has_passed is
            (knows_of_more n w.standpoint.epoch w.standpoint.host (before disk) m (tells_none boot (base + at) bytes answer fits) spares (sight_of w disk)) (λ other off. refl) (no_read _) (λ so. inl so);
        answered = λ before after is adds. (before disk, adds.here);
        fits = fits_moved answer fits;
        fewer = tt;
        cause = refl;
        sights = record { here = keeps_same (sight_of w disk); others = λ other off. refl };
        notices = record { now = tt; before = λ so. so };
        rests = λ told. refl;
        last = λ none. not_over none;
        at_once = tt;
      }
    where
      fits_moved : (answer : Answer) → Fits (Write boot (base + at) bytes) (heard_in cluster_version answer) → Fits (Write boot at bytes) (heard_in cluster_version answer)
      fits_moved (Booted b) fits = fits
      fits_moved (Told row) fits = fits
      fits_moved Done fits = tt
      fits_moved (Fault fault) fits = tt

-- the same as the code names the call
pub write_told : (w : Window) (disk : ℕ) (wanted : code_call.DeviceCall) (boot : Boot) (at : ℕ) (bytes : _) → wanted ≡ call.Write boot at bytes → (h : code_heard.Heard (List ℕ))
    → IsOwn (length_of w) w.standpoint.host (device_call_of cluster_version wanted) → Fits (due_for w disk (device_call_of cluster_version wanted)) (heard_of cluster_version h)
    → Hears w (record w { reading = None }) disk (device_call_of cluster_version wanted) (device_answer h) (Some outcome.AsHeard)
write_told w disk wanted boot at bytes is h own fits =
    subst (λ (c : code_call.DeviceCall). Hears w (record w { reading = None }) disk (device_call_of cluster_version c) (device_answer h) (Some outcome.AsHeard)) (sym is)
    (write_hears w disk (device_answer h) boot.number at bytes.now w.standpoint.area_in_range w.standpoint.host_in_range
    (subst (λ (c : code_call.DeviceCall). IsOwn (length_of w) w.standpoint.host (device_call_of cluster_version c)) is own)
    (fits_same (Write boot.number (base_of (length_of w) w.standpoint.epoch.area + at) bytes.now) h
    (subst (λ (c : code_call.DeviceCall). Fits (due_for w disk (device_call_of cluster_version c)) (heard_of cluster_version h)) is fits)))

-- calls that fail change nothing
pub attach_fault_hears : (w : Window) (disk : ℕ) (h : code_heard.Heard (List ℕ)) → Fits Attach (heard_of cluster_version h) → ((boot : Boot) → h ≡ answer.Booted boot → ⊥)
    → Hears w (record w { reading = None }) disk Attach (device_answer h) (Some outcome.AsHeard)
attach_fault_hears w disk (answer.Booted boot) fits fails = absurd (fails boot refl)
attach_fault_hears w disk answer.Done fits fails = absurd fits
attach_fault_hears w disk (answer.Told row) fits fails = absurd fits
attach_fault_hears w disk (answer.Fault fault) fits fails =
    attach_hears w disk (Fault fault) w.sights tt (λ past. knows_of_more (length_of w) w.standpoint.epoch w.standpoint.host past (made Attach (Fault fault)) tt tt (sight_of w disk)) (λ other off. refl)
    (keeps_same (sight_of w disk))

pub sync_fault_hears : (w : Window) (disk : ℕ) (h : code_heard.Heard (List ℕ)) (boot : ℕ) → Fits (Sync boot) (heard_of cluster_version h) → (h ≡ answer.Done → ⊥)
    → Hears w (record w { reading = None }) disk (Sync boot) (device_answer h) (Some outcome.AsHeard)
sync_fault_hears w disk (answer.Booted b) boot fits fails = absurd fits
sync_fault_hears w disk answer.Done boot fits fails = absurd (fails refl)
sync_fault_hears w disk (answer.Told row) boot fits fails = absurd fits
sync_fault_hears w disk (answer.Fault fault) boot fits fails =
    sync_hears w disk (Fault fault) boot w.sights tt (λ past. knows_of_more (length_of w) w.standpoint.epoch w.standpoint.host past (made (Sync boot) (Fault fault)) tt tt (sight_of w disk)) (λ other off. refl)
    (keeps_same (sight_of w disk))

-- READS

module _ (w : Window) (disk at : ℕ) (boot : Boot) where
  abbrev image : ℕ
  image = length_of w

  abbrev wanted : Call
  wanted = Read boot.number at ROW_LENGTH

  abbrev due : Call
  due = due_for w disk wanted

  is_read : IsRead boot.number due
  is_read = due_is_read image w.standpoint.epoch.area boot.number at ROW_LENGTH (step_of w disk boot.number at)

  spared : Spares (number_place image w.standpoint.epoch.area w.standpoint.host) BLOCK_LENGTH due
  spared = read_spares (number_place image w.standpoint.epoch.area w.standpoint.host) BLOCK_LENGTH boot.number due is_read

  -- what was read for it before
  known : (before : Pasts) → Follows w before → HasRead image w.standpoint.epoch boot.number at w.row (before disk) (step_of w disk boot.number at)
  known before is = step_known image w.standpoint.epoch w.standpoint.host (before disk) w.row boot.number at w.reading (sight_of w disk) disk before refl (is.sights disk) is.reading

  -- the read fails
  pub fault_hears : (fault : DiskFault) → Hears w (record w { reading = None }) disk wanted (Fault fault) (Some outcome.AsHeard)
  fault_hears fault =
      let m = made due (Fault fault) in
      record {
        same = refl;
        follows =
            λ before after is adds.
            all_go_on image w.standpoint.epoch w.standpoint.host before after disk m adds w.sights w.sights w.reading None w.row w.row w.has_passed w.has_passed is
            (knows_of_more image w.standpoint.epoch w.standpoint.host (before disk) m tt spared (sight_of w disk)) (λ other off. refl) (no_read _) (λ so. inl so);
        answered =
            λ before after is adds.
            inr (record {
              before = before disk;
              at = is_read.at;
              len = is_read.len;
              last = Fault fault;
              fault = fault;
              is = adds.here ∙ ap (λ (c : Call). before disk ++ made c (Fault fault) ∷ []) is_read.is;
              told = refl;
              why = inl refl;
            });
        fits = tt;
        fewer = tt;
        cause = refl;
        sights = record { here = keeps_same (sight_of w disk); others = λ other off. refl };
        notices = record { now = tt; before = λ so. so };
        rests = λ told. refl;
        last = λ none. not_over none;
        at_once = tt;
      }

  module _ (bytes : List ℕ) where
    -- the row was read, and the standings are read next
    pub row_hears : (first : List ℕ) (is_last : Bool) → step_of w disk boot.number at ≡ Row first is_last
        → Hears w (record w { row = bytes; reading = Some (record { disk = disk; boot = boot; at = at; step = Second first is_last }) }) disk wanted (Told bytes) None
    row_hears first is_last at_row =
        let m = made due (Told bytes) in
        let next : Reading = record { disk = disk; boot = boot; at = at; step = Second first is_last } in
        record {
          same = refl;
          follows =
              λ before after is adds.
              (let are = subst (HasRead image w.standpoint.epoch boot.number at w.row (before disk)) at_row (known before is) in
              let has : HasReadRow image w.standpoint.epoch boot.number at bytes first (after disk) = record {
                standings = are.row;
                early = are.early;
                before = are.later;
                is =
                    adds.here
                    ∙ ap (λ (s : Step). before disk ++ made (read_due image w.standpoint.epoch.area boot.number at ROW_LENGTH s) (Told bytes) ∷ []) at_row
                    ∙ ap (λ (p : Past). p ++ made (Read boot.number (base_of image w.standpoint.epoch.area + at) ROW_LENGTH) (Told bytes) ∷ []) are.is;
                says = are.says;
              } in
              all_go_on image w.standpoint.epoch w.standpoint.host before after disk m adds w.sights w.sights w.reading (Some next) w.row bytes w.has_passed w.has_passed is
              (knows_of_more image w.standpoint.epoch w.standpoint.host (before disk) m tt spared (sight_of w disk)) (λ other off. refl)
              (λ r same. subst (λ (r : Reading). HasRead image w.standpoint.epoch r.boot.number r.at bytes (after r.disk) r.step) (let e : next ≡ r = cc in e) has) (λ so. inl so));
          answered = tt;
          fits = tt;
          fewer =
              subst (λ (s : Step). left_at s + 1 ≡ left_at (step_of w disk boot.number at)) (sym (begun (sight_of w disk) disk at boot (Second first is_last)))
              (subst (λ (s : Step). left_at (Second first is_last) + 1 ≡ left_at s) (sym at_row) (fewer_left is_last));
          cause = subst (λ (s : Step). IsAfterReading w.standpoint s bytes None) (sym at_row) tt;
          sights = record { here = keeps_same (sight_of w disk); others = λ other off. refl };
          notices = record { now = subst (λ (s : Step). NoticesAt w.standpoint.epoch s bytes w.has_passed) (sym at_row) tt; before = λ so. so };
          rests = λ told. over told;
          last = λ none. record { reading = next; is = refl; here = refl; own = refl };
          at_once = tt;
        }
      where
        fewer_left : (is_last : Bool) → left_at (Second first is_last) + 1 ≡ left_at (Row first is_last)
        fewer_left false = refl
        fewer_left true = refl

    -- the standings were read
    module _ (is_due : due ≡ Read boot.number (standings_place image w.standpoint.epoch.area) ROW_LENGTH) where
      read_so : (before after : Pasts) → AddsCall before after disk (made due (Told bytes)) → after disk ≡ before disk ++ reading image w.standpoint.epoch.area boot.number bytes ∷ []
      read_so before after adds = adds.here ∙ ap (λ (c : Call). before disk ++ made c (Told bytes) ∷ []) is_due

      -- no row is shown after it
      unseen : (before after : Pasts) → AddsCall before after disk (made due (Told bytes)) → IsAnswered image w.standpoint.epoch w.standpoint.host (after disk) wanted (Fault Failed)
      unseen before after adds =
          inr (record {
            before = before disk;
            at = _;
            len = _;
            last = Told bytes;
            fault = Failed;
            is = read_so before after adds;
            told = refl;
            why = inr (refl, (bytes, refl));
          })

      shows_later : (why : Hidden) (sofar : Bool) → IsHiddenBy w.standpoint bytes why → passed_by why sofar ≡ true → (before : Past) → (sofar ≡ true) ⊎ ShowsLater image w.standpoint.epoch (before ++ made due (Told bytes) ∷ [])
      shows_later hidden.Damaged sofar is so before = inl so
      shows_later hidden.Outside sofar is so before = inl so
      shows_later hidden.Passed sofar is so before =
          inr (record { boot = boot.number; row = bytes; before = before; behind = []; is = ap (λ (c : Call). before ++ made c (Told bytes) ∷ []) is_due; passed = is.1 })

      notices_by : (why : Hidden) (sofar : Bool) → IsHiddenBy w.standpoint bytes why → (¬ IsDamagedArea bytes) → HasPassed w.standpoint.epoch (numbers_in bytes) → passed_by why sofar ≡ true
      notices_by hidden.Damaged sofar is sound passed = absurd (sound is)
      notices_by hidden.Outside sofar is sound passed = absurd (is.1 passed)
      notices_by hidden.Passed sofar is sound passed = refl

      stays_noticed : (why : Hidden) (sofar : Bool) → sofar ≡ true → passed_by why sofar ≡ true
      stays_noticed hidden.Damaged sofar so = so
      stays_noticed hidden.Outside sofar so = so
      stays_noticed hidden.Passed sofar so = refl

      -- it is hidden
      pub hidden_hears : (why : Hidden) → IsHiddenBy w.standpoint bytes why
          → FailsAt w.standpoint (step_of w disk boot.number at) bytes
          → ((has_passed : Bool) → ((¬ IsDamagedArea bytes) → HasPassed w.standpoint.epoch (numbers_in bytes) → has_passed ≡ true) → NoticesAt w.standpoint.epoch (step_of w disk boot.number at) bytes has_passed)
          → Hears w (record w { reading = None; has_passed = passed_by why w.has_passed }) disk wanted (Told bytes) (Some outcome.Failed)
      hidden_hears why is fails notes =
          record {
            same = refl;
            follows =
                λ before after follows adds.
                all_go_on image w.standpoint.epoch w.standpoint.host before after disk (made due (Told bytes)) adds w.sights w.sights w.reading None w.row w.row w.has_passed (passed_by why w.has_passed) follows
                (knows_of_more image w.standpoint.epoch w.standpoint.host (before disk) (made due (Told bytes)) tt spared (sight_of w disk)) (λ other off. refl) (no_read _)
                (λ so. shows_later why w.has_passed is so (before disk));
            answered = λ before after follows adds. unseen before after adds;
            fits = tt;
            fewer = tt;
            cause = fails;
            sights = record { here = keeps_same (sight_of w disk); others = λ other off. refl };
            notices = record { now = notes (passed_by why w.has_passed) (notices_by why w.has_passed is); before = stays_noticed why w.has_passed };
            rests = λ told. refl;
            last = λ none. not_over none;
            at_once = tt;
          }

      -- it is good
      module _ (sights : List (Option Sight)) (numbers : List ℕ) (says : AreSaid bytes numbers) (good : IsGood w.standpoint bytes)
          (others : (other : ℕ) → other ≢ disk → sight_in sights other ≡ sight_of w other)
          (sure : w.standpoint.only_looks ≡ false → IsSyncedUnder boot.number (sight_of w disk) → IsSureUnder boot.number (sight_in sights disk))
          (seen : IsUnder boot.number (sight_of w disk) → IsKnownUnder boot.number (sight_in sights disk)) (keeps : Keeps (sight_of w disk) (sight_in sights disk))
          (knows : (past : Past) → KnowsOf image w.standpoint.epoch w.standpoint.host past (sight_of w disk) → KnowsOf image w.standpoint.epoch w.standpoint.host (past ++ reading image w.standpoint.epoch.area boot.number bytes ∷ []) (sight_in sights disk)) where
        knows_so : (past : Past) → KnowsOf image w.standpoint.epoch w.standpoint.host past (sight_of w disk) → KnowsOf image w.standpoint.epoch w.standpoint.host (past ++ made due (Told bytes) ∷ []) (sight_in sights disk)
        knows_so past is = subst (λ (c : Call). KnowsOf image w.standpoint.epoch w.standpoint.host (past ++ made c (Told bytes) ∷ []) (sight_in sights disk)) (sym is_due) (knows past is)

        quiet : (has_passed : Bool) → (¬ IsDamagedArea bytes) → HasPassed w.standpoint.epoch (numbers_in bytes) → has_passed ≡ true
        quiet has_passed sound passed = absurd (good.nobody passed)

        follows_still : (row : List ℕ) → FollowsOn w (record w { sights = sights; reading = None; row = row }) disk wanted (Told bytes)
        follows_still row before after follows adds =
            all_go_on image w.standpoint.epoch w.standpoint.host before after disk (made due (Told bytes)) adds w.sights sights w.reading None w.row row w.has_passed w.has_passed follows
            (knows_so (before disk)) others (no_read _) (λ so. inl so)

        -- the row is read next
        pub good_hears : (is_last : Bool) → GoesOnAt w.standpoint (step_of w disk boot.number at) bytes
            → NoticesAt w.standpoint.epoch (step_of w disk boot.number at) bytes w.has_passed
            → left_at (Row numbers is_last) + 1 ≡ left_at (step_of w disk boot.number at)
            → Hears w (record w { sights = sights; reading = Some (record { disk = disk; boot = boot; at = at; step = Row numbers is_last }) }) disk wanted (Told bytes) None
        good_hears is_last goes notes fewer =
            let next : Reading = record { disk = disk; boot = boot; at = at; step = Row numbers is_last } in
            record {
              same = refl;
              follows =
                  λ before after follows adds.
                  (let are : AreNumbers image w.standpoint.epoch.area boot.number numbers (after disk) = record { row = bytes; early = before disk; later = []; is = read_so before after adds; says = says } in
                  all_go_on image w.standpoint.epoch w.standpoint.host before after disk (made due (Told bytes)) adds w.sights sights w.reading (Some next) w.row w.row w.has_passed w.has_passed follows
                  (knows_so (before disk)) others
                  (λ r same. subst (λ (r : Reading). HasRead image w.standpoint.epoch r.boot.number r.at w.row (after r.disk) r.step) (let e : next ≡ r = cc in e) are) (λ so. inl so));
              answered = tt;
              fits = tt;
              fewer = subst (λ (s : Step). left_at s + 1 ≡ left_at (step_of w disk boot.number at)) (sym (begun (sight_in sights disk) disk at boot (Row numbers is_last))) fewer;
              cause = goes;
              sights = record { here = keeps; others = others };
              notices = record { now = notes; before = λ so. so };
              rests = λ told. over told;
              last = λ none. record { reading = next; is = refl; here = refl; own = refl };
              at_once = tt;
            }

        -- no row is shown, for it was the last try
        pub last_hears : FailsAt w.standpoint (step_of w disk boot.number at) bytes
            → NoticesAt w.standpoint.epoch (step_of w disk boot.number at) bytes w.has_passed
            → Hears w (record w { sights = sights; reading = None }) disk wanted (Told bytes) (Some outcome.Failed)
        last_hears fails notes =
            record {
              same = refl;
              follows = follows_still w.row;
              answered = λ before after follows adds. unseen before after adds;
              fits = tt;
              fewer = tt;
              cause = fails;
              sights = record { here = keeps; others = others };
              notices = record { now = notes; before = λ so. so };
              rests = λ told. refl;
              last = λ none. not_over none;
              at_once = tt;
            }

        -- the row is shown
        pub shown_hears : (first : List ℕ) (is_last : Bool) → step_of w disk boot.number at ≡ Second first is_last → AreClear w.standpoint.epoch (slice_index first) (slice_index numbers)
            → (row : List ℕ) → row ≡ masked (λ host. slice_index_or (shown_in w.standpoint.epoch first numbers) host false) w.row
            → Hears w (record w { sights = sights; reading = None; row = row }) disk wanted (Told bytes) (Some outcome.Row)
        shown_hears first is_last at_second clear row is_masked =
            record {
              same = refl;
              follows = follows_still row;
              answered =
                  λ before after follows adds. inl (shown_by_both before after follows adds).shown;
              fits = tt;
              fewer = tt;
              cause = subst (λ (s : Step). IsAfterReading w.standpoint s bytes (Some outcome.Row)) (sym at_second) (good, clear_by_second);
              sights = record { here = (keeps, sure, seen); others = others };
              notices = record { now = subst (λ (s : Step). NoticesAt w.standpoint.epoch s bytes w.has_passed) (sym at_second) (quiet w.has_passed); before = λ so. so };
              rests = λ told. refl;
              last = λ none. not_over none;
              at_once = (let begun = has_begun w.reading (sight_of w disk) disk boot.number at first is_last at_second in
                  record {
                    was = record { reading = begun.reading; is = begun.is; here = begun.is_disk; own = ap₂ (λ (b a : ℕ). Read b a ROW_LENGTH) (sym begun.is_boot) (sym begun.is_at) };
                    first = first;
                    is_last = is_last;
                    at_second = begun.is_step;
                    shows = shown_by_both;
                  });
            }
          where
            two : (host : ℕ) → host < HOSTS → slice_index numbers host ≡ numbers_in bytes host
            two host below = ap (λ (l : List ℕ). slice_index l host) says.are ∙ counters_are_numbers bytes host below

            clear_by_second : AreClear w.standpoint.epoch (slice_index first) (numbers_in bytes)
            clear_by_second host below = (let now = clear host below in (omega (arith, now.0, two host below), λ own. now.1 (two host below ∙ own)))

            clear_of : (standings : List ℕ) → AreSaid standings first → AreClear w.standpoint.epoch (numbers_in standings) (numbers_in bytes)
            clear_of standings is =
                clear_by_rows w.standpoint.epoch standings bytes
                (subst (λ (f : List ℕ). AreClear w.standpoint.epoch (slice_index f) (slice_index (counters_in bytes))) is.are (subst (λ (l : List ℕ). AreClear w.standpoint.epoch (slice_index first) (slice_index l)) says.are clear))

            masked_of : (standings : List ℕ) → AreSaid standings first →
                masked (λ host. slice_index_or (shown_in w.standpoint.epoch first numbers) host false) w.row ≡ masked (shown_by w.standpoint.epoch (numbers_in standings) (numbers_in bytes)) w.row
            masked_of standings is =
                ap₂ (λ (f l : List ℕ). masked (λ host. slice_index_or (shown_in w.standpoint.epoch f l) host false) w.row) is.are says.are ∙ masked_by_rows w.standpoint.epoch standings bytes w.row

            -- by the row and the standings right behind it
            shown_by_both : (before after : Pasts) → Follows w before → AddsCall before after disk (made due (Told bytes)) → ShowsLast image w.standpoint.epoch w.standpoint.host boot.number at (before disk) (after disk) (Told row)
            shown_by_both before after follows adds =
                let has = subst (HasRead image w.standpoint.epoch boot.number at w.row (before disk)) at_second (known before follows) in
                record {
                  shown = record {
                    first = has.standings;
                    row = w.row;
                    second = bytes;
                    early = has.early;
                    before = has.before;
                    between = [];
                    is = read_so before after adds ∙ ap (λ (p : Past). p ++ reading image w.standpoint.epoch.area boot.number bytes ∷ []) has.is;
                    clear = clear_of has.standings has.says;
                    told = ap Told (is_masked ∙ masked_of has.standings has.says);
                  };
                  at_once = refl;
                  early = has.early ++ reading image w.standpoint.epoch.area boot.number has.standings ∷ has.before;
                  last = has.is;
                }
