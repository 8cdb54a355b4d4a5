-- Each disk serves the deeds on it, each host's by its own past there.
use Rattle.std.specs.Prelude.{if◌then◌else◌, ◌%◌, ◌-◌}
use Rattle.std.proofs.Common.{ℕ, ◌≡◌, ◌==◌, ◌+◌, ◌≤◌, ◌<◌, ◌⊎◌, Bool, true, false, cond, true≢false, Option, Some, None, List, [], ◌∷◌, ◌++◌, refl, sym, ◌∙◌, ap, ap₂, subst, inl, inr, arith}
use Rattle.std.proofs.lemmas.Bool.{cases_Bool, cases_lt, eqb-true, eq-eqb, ne_eqb, leb-true, le-leb}
use Rattle.std.proofs.lemmas.List.{append-nil, append_assoc}
use Rattle.disk.specs.Disk.{DiskState, Call, Attach, Read, Write, Sync, Answer, Told, Step}
use Rattle.disk.proofs.StepLemmas.{step_keeps}
use Rattle.torn_block.specs.declared.layout.TheConstants.{ROW_LENGTH}
use Rattle.paxos_block.specs.Shape.{Shape}
use Rattle.standings.specs.declared.epoch.Epoch.{Epoch}
use Rattle.standings.specs.Epochs.{epoch_of, epoch_by, base_of, number_of}
use Rattle.standings.specs.Reading.{moved}
use Rattle.standings.specs.Past.{Made, Past, made, reading, MayCall, MayCallIn, IsUnseen}
use Rattle.world.specs.World.{Tears}
use Rattle.epochs.specs.Bytes.{IsNew}
use Rattle.epochs.proofs.Staying.{GoesByPasts}
use Rattle.epochs.specs.Pasts as served
use Rattle.epochs.specs.Pasts.{Pasts, no_pasts, with_past, pasts_after, ahead, IsShownLater, Hears, MayBe, ServesPasts}
use Rattle.epoch_deeds.specs.Deeds.{Deed, Deeds, Calls, CallsIn, Starts, Begins, Stops, past_on}
use Rattle.epoch_deeds.specs.Knowing.{image_of, IsHeard}
use Rattle.epoch_runs.specs.World.{Entry, Does, Breaks, BreaksIn, Ends, Crashes, Loses, Replaces, World, with_disk, with_deeds, disks_after, deeds_after, after, StepsTo, IsNewDisk, Crashing, MayFollow, GoesFrom, GoesTo}
use Rattle.epoch_runs.specs.Living.{is_row, Showing, showing_by, showing_next}
use Rattle.epoch_runs.proofs.Disks.{row_deed, core_deed, deeds_at, deeds_on}
use Rattle.epoch_runs.proofs.Lists.{last_same, first_same, not_nil, past_more, deeds_here, same_self, differ_back}
use Rattle.epoch_runs.proofs.Pending.{is_by, next_of_others, IsPending, row_pending, pending, pending_reads, not_pending}

-- BOOT NUMBERS

-- a call leaves it
boot_stays : (old new : DiskState) (call : Call) (answer : Answer) → Step old call answer new → new.boot ≡ old.boot
boot_stays old new call answer step = step_keeps (λ (d : DiskState). d.boot ≡ old.boot) old new call answer (record { writes = λ boot at from left is as_many. refl; syncs = refl; stays = refl }) step

boot_torn : (old new : DiskState) (call : Call) → Tears call old new → new.boot ≡ old.boot
boot_torn old new Attach tears = absurd tears
boot_torn old new (Read boot at len) tears = absurd tears
boot_torn old new (Write boot at from) tears = ap (λ (d : DiskState). d.boot) tears.2.leaves
boot_torn old new (Sync boot) tears = absurd tears

-- a read that is told was under the disk's
told_under : (old new : DiskState) (boot at len : ℕ) (bytes : List ℕ) → Step old (Read boot at len) (Told bytes) new → boot ≡ old.boot
told_under old new boot at len bytes step = step.1

-- A crash raises it, or stops all hosts.
abbrev pub IsSound : Crashing → Type 0
IsSound crashing = (w : World) (old new : DiskState) → crashing.IsCrash old new → crashing.MayCrash w → (new.boot ≡ old.boot + 1) ⊎ ((new.boot ≡ old.boot) × ((h : ℕ) → w.deeds h ≡ []))

-- WHAT A READING READS

-- the second reading of the standings, by which a row is shown
pub record Second (c : Shape) (h : ℕ) (deeds : Deeds) (s : Showing) (is : IsPending c h deeds s) : Type 0 where
  pub now : s.made ≡ reading (image_of c) (epoch_of s.epoch).area is.boot is.shows.shown.second
  pub before : past_on s.disk deeds ≡ (is.shows.shown.early ++ reading (image_of c) (epoch_of s.epoch).area is.boot is.shows.shown.first ∷ is.shows.shown.before) ++ made (Read is.boot (base_of (image_of c) (epoch_of s.epoch).area + is.at) ROW_LENGTH) (Told is.shows.shown.row) ∷ []

pub second : (c : Shape) (h : ℕ) (deeds : Deeds) (s : Showing) (is : IsPending c h deeds s) → Second c h deeds s is
second c h deeds s is = record { now = last_same past (begins ++ row ∷ []) s.made behind same; before = first_same past (begins ++ row ∷ []) s.made behind same }
  where
    past : Past
    past = past_on s.disk deeds

    begins : Past
    begins = is.shows.shown.early ++ reading (image_of c) (epoch_of s.epoch).area is.boot is.shows.shown.first ∷ is.shows.shown.before

    row : Made
    row = made (Read is.boot (base_of (image_of c) (epoch_of s.epoch).area + is.at) ROW_LENGTH) (Told is.shows.shown.row)

    behind : Made
    behind = reading (image_of c) (epoch_of s.epoch).area is.boot is.shows.shown.second

    same : past ++ s.made ∷ [] ≡ (begins ++ row ∷ []) ++ behind ∷ []
    same =
        is.shows.shown.is
        ∙ ap (λ (l : Past). begins ++ row ∷ l ++ behind ∷ []) is.shows.at_once

-- so the host has called the disk
pub has_past : (c : Shape) (h : ℕ) (deeds : Deeds) (s : Showing) → IsPending c h deeds s → past_on s.disk deeds ≡ [] → ⊥
has_past c h deeds s is none =
    not_nil (is.shows.shown.early ++ reading (image_of c) (epoch_of s.epoch).area is.boot is.shows.shown.first ∷ is.shows.shown.before)
    (made (Read is.boot (base_of (image_of c) (epoch_of s.epoch).area + is.at) ROW_LENGTH) (Told is.shows.shown.row)) (sym none ∙ (second c h deeds s is).before)

module _ (crashing : Crashing) (sound : IsSound crashing) (c : Shape) where
  -- AS TIME GOES ON

  with_rises : (disk : ℕ → DiskState) (d : ℕ) (left : DiskState) (k : ℕ) → (disk d).boot ≤ left.boot → (disk k).boot ≤ (with_disk disk d left k).boot
  with_rises disk d left k rises =
      elim (cases_Bool (k == d)) [
        | inl same ↦
            subst (λ (b : Bool). (disk k).boot ≤ (cond b left (disk k)).boot) (sym same) (subst (λ (x : ℕ). (disk x).boot ≤ left.boot) (sym (eqb-true k d same)) rises)
        | inr differ ↦ subst (λ (b : Bool). (disk k).boot ≤ (cond b left (disk k)).boot) (sym differ) (omega arith)
      ]

  boots_rise : (w : World) (entry : Entry) (left : DiskState) (k : ℕ) → MayFollow crashing c w entry left → (w.disk k).boot ≤ (disks_after w.disk entry left k).boot
  boots_rise w (Does h (Calls d now)) left k may = with_rises w.disk d left k (let same = boot_stays (w.disk d) left now.call now.answer may.2 in omega (arith, same))
  boots_rise w (Does h (CallsIn epoch d now call heard)) left k may = with_rises w.disk d left k (let same = boot_stays (w.disk d) left now.call now.answer may.2 in omega (arith, same))
  boots_rise w (Does h (Starts epoch)) left k may = omega arith
  boots_rise w (Does h (Begins epoch task)) left k may = omega arith
  boots_rise w (Does h (Stops epoch)) left k may = omega arith
  boots_rise w (Breaks h d call) left k may = with_rises w.disk d left k (let same = boot_torn (w.disk d) left call may.4 in omega (arith, same))
  boots_rise w (BreaksIn epoch h d call) left k may =
      with_rises w.disk d left k (let same = boot_torn (w.disk d) left (moved (base_of (image_of c) (epoch_of epoch).area) call) may.3 in omega (arith, same))
  boots_rise w (Ends h) left k may = omega arith
  boots_rise w (Crashes d) left k may =
      with_rises w.disk d left k (elim (sound w (w.disk d) left may.2 may.3) [ inl next ↦ (let n : (w.disk d).boot ≤ left.boot = omega (arith, next) in n) | inr still ↦ (let same = still.0 in let n : (w.disk d).boot ≤ left.boot = omega (arith, same) in n) ])
  boots_rise w (Replaces d first newest) left k may = with_rises w.disk d left k (let same = may.2.boot in omega (arith, same))
  boots_rise w (Loses d) left k may = with_rises w.disk d left k (let same = ap (λ (x : DiskState). x.boot) may.2 in omega (arith, same))

  -- A ROW THAT IS SHOWN

  -- the reading behind a row, which is made under this boot number
  record Reads (s : Showing) (boot : ℕ) : Type 0 where
    at : ℕ
    len : ℕ
    bytes : List ℕ
    is : s.made ≡ made (Read boot at len) (Told bytes)

  reads : (h : ℕ) (deeds : Deeds) (s : Showing) (is : IsPending c h deeds s) → Reads s is.boot
  reads h deeds s is = record { at = _; len = _; bytes = _; is = (second c h deeds s is).now }

  -- the disk's boot number is not above it
  module _ (h : ℕ) (s : Showing) (boot : ℕ) (is : Reads s boot) where
    by_deed : (w : World) (deed : Deed) (left : DiskState) → showing_by deed ≡ Some s → StepsTo w deed left → (w.disk s.disk).boot ≤ boot
    by_deed w (Calls k now) left shown step = absurd (cc)
    by_deed w (Starts epoch) left shown step = absurd (cc)
    by_deed w (Begins epoch task) left shown step = absurd (cc)
    by_deed w (Stops epoch) left shown step = absurd (cc)
    by_deed w (CallsIn epoch k now call heard) left shown step = either (is_row call heard) shown
      where
        this : Showing
        this = record { epoch = epoch; disk = k; made = now; call = call; heard = heard }

        at_now : (other : Showing) → this ≡ other → other.made ≡ made (Read boot is.at is.len) (Told is.bytes) → (w.disk other.disk).boot ≤ boot
        at_now other same told =
            let it : now ≡ made (Read boot is.at is.len) (Told is.bytes) = ap (λ (x : Showing). x.made) same ∙ told in
            let under = told_under (w.disk k) left boot is.at is.len is.bytes (subst (λ (m : Made). Step (w.disk k) m.call m.answer left) it step) in
            subst (λ (x : Showing). (w.disk x.disk).boot ≤ boot) same (let low : (w.disk k).boot ≤ boot = omega (arith, under) in low)

        either : (b : Bool) → cond b (Some this) None ≡ Some s → (w.disk s.disk).boot ≤ boot
        either true one = at_now s (let same : this ≡ s = cc in same) is.is
        either false one = absurd (cc)

    below_it : (entries : List Entry) (w : World) → GoesFrom crashing c w entries → showing_next h entries ≡ Some s → (w.disk s.disk).boot ≤ boot
    below_it [] w goes shown = absurd (cc)
    below_it (entry ∷ entries) w goes shown =
        elim (cases_Bool (is_by h entry)) [
          | inl own ↦ own_entry entry own goes.0 goes.1 shown
          | inr other ↦
              let rest = below_it entries (after w entry goes.0) goes.2 (sym (next_of_others h entry entries other) ∙ shown) in
              let rises = boots_rise w entry goes.0 s.disk goes.1 in
              omega (arith, rest, rises)
        ]
      where
        own_entry : (x : Entry) → is_by h x ≡ true → (left : DiskState) → MayFollow crashing c w x left → showing_next h (x ∷ entries) ≡ Some s → (w.disk s.disk).boot ≤ boot
        own_entry (Does g deed) own left may shown = by_deed w deed left (sym (ap (λ (b : Bool). cond b (showing_by deed) (showing_next h entries)) own) ∙ shown) may.2
        own_entry (Breaks g k call) own left may shown = absurd (let none = sym (ap (λ (b : Bool). cond b None (showing_next h entries)) own) ∙ shown in cc)
        own_entry (BreaksIn epoch g k call) own left may shown = absurd (let none = sym (ap (λ (b : Bool). cond b None (showing_next h entries)) own) ∙ shown in cc)
        own_entry (Ends g) own left may shown = absurd (let none = sym (ap (λ (b : Bool). cond b None (showing_next h entries)) own) ∙ shown in cc)
        own_entry (Crashes k) own left may shown = absurd (true≢false (sym own))
        own_entry (Loses k) own left may shown = absurd (true≢false (sym own))
        own_entry (Replaces k first newest) own left may shown = absurd (true≢false (sym own))

    -- GOING ON

    -- what others do is not what the host goes on with
    others_ahead : (k : ℕ) (entry : Entry) (entries : List Entry) (rest : List served.Deed) → is_by h entry ≡ false → ((d : ℕ) → entry ≡ Crashes d → (d == k) ≡ false) → ((d first newest : ℕ) → entry ≡ Replaces d first newest → (d == k) ≡ false) → ahead h (deeds_at k entry entries ++ rest) ≡ ahead h rest
    others_ahead k (Does g (Calls d now)) entries rest other none new = on_it (d == k) (showing_next g entries)
      where
        on_it : (b : Bool) (next : Option Showing) → ahead h (cond b (row_deed g now next ∷ []) [] ++ rest) ≡ ahead h rest
        on_it false next = refl
        on_it true None = ap (λ (b : Bool). cond b (now ∷ ahead h rest) (ahead h rest)) other
        on_it true (Some t) = ap (λ (b : Bool). cond b (now ∷ ahead h rest) (ahead h rest)) other
    others_ahead k (Does g (CallsIn epoch d now call heard)) entries rest other none new = on_it (d == k) (is_row call heard)
      where
        on_it : (b row : Bool) → ahead h (cond b (core_deed epoch g now call heard row ∷ []) [] ++ rest) ≡ ahead h rest
        on_it false row = refl
        on_it true true = ap (λ (b : Bool). cond b (now ∷ ahead h rest) (ahead h rest)) other
        on_it true false = ap (λ (b : Bool). cond b (now ∷ ahead h rest) (ahead h rest)) other
    others_ahead k (Does g (Starts epoch)) entries rest other none new = refl
    others_ahead k (Does g (Begins epoch task)) entries rest other none new = refl
    others_ahead k (Does g (Stops epoch)) entries rest other none new = refl
    others_ahead k (Breaks g d call) entries rest other none new = on_it (d == k)
      where
        on_it : (b : Bool) → ahead h (cond b (served.Breaks g call) (served.Stops g) ∷ rest) ≡ ahead h rest
        on_it true = ap (λ (b : Bool). cond b [] (ahead h rest)) other
        on_it false = ap (λ (b : Bool). cond b [] (ahead h rest)) other
    others_ahead k (BreaksIn epoch g d call) entries rest other none new = on_it (d == k)
      where
        on_it : (b : Bool) → ahead h (cond b (served.BreaksIn (epoch_of epoch) g call) (served.Stops g) ∷ rest) ≡ ahead h rest
        on_it true = ap (λ (b : Bool). cond b [] (ahead h rest)) other
        on_it false = ap (λ (b : Bool). cond b [] (ahead h rest)) other
    others_ahead k (Ends g) entries rest other none new = ap (λ (b : Bool). cond b [] (ahead h rest)) other
    others_ahead k (Crashes d) entries rest other none new = ap (λ (b : Bool). ahead h (cond b (served.Crash ∷ []) [] ++ rest)) (none d refl)
    others_ahead k (Loses d) entries rest other none new = on_it (d == k)
      where
        on_it : (b : Bool) → ahead h (cond b (served.Loss ∷ []) [] ++ rest) ≡ ahead h rest
        on_it true = refl
        on_it false = refl
    others_ahead k (Replaces d first newest) entries rest other none new = ap (λ (b : Bool). ahead h (cond b (served.Replacement first ∷ []) [] ++ rest)) (new d first newest refl)

    -- the host's own next deed is the reading
    own_ahead : (deed : Deed) (entries : List Entry) → showing_by deed ≡ Some s → (behind : Past) × (ahead h (deeds_at s.disk (Does h deed) entries ++ deeds_on s.disk entries) ≡ s.made ∷ behind)
    own_ahead (Calls k now) entries shown = absurd (cc)
    own_ahead (Starts epoch) entries shown = absurd (cc)
    own_ahead (Begins epoch task) entries shown = absurd (cc)
    own_ahead (Stops epoch) entries shown = absurd (cc)
    own_ahead (CallsIn epoch k now call heard) entries shown = either (is_row call heard) shown
      where
        this : Showing
        this = record { epoch = epoch; disk = k; made = now; call = call; heard = heard }

        either : (b : Bool) → cond b (Some this) None ≡ Some s → (behind : Past) × (ahead h (cond (k == s.disk) (core_deed epoch h now call heard b ∷ []) [] ++ deeds_on s.disk entries) ≡ s.made ∷ behind)
        either false one = absurd (cc)
        either true one =
            let same : this ≡ s = cc in
            let disk : k ≡ s.disk = ap (λ (x : Showing). x.disk) same in
            let it : now ≡ s.made = ap (λ (x : Showing). x.made) same in (
              ahead h (deeds_on s.disk entries),
              ap (λ (b : Bool). ahead h (cond b (served.Calls h now ∷ []) [] ++ deeds_on s.disk entries)) (eq-eqb k s.disk disk)
                  ∙ ap (λ (b : Bool). cond b (now ∷ ahead h (deeds_on s.disk entries)) (ahead h (deeds_on s.disk entries))) (same_self h)
                  ∙ ap (λ (m : Made). m ∷ ahead h (deeds_on s.disk entries)) it,
            )

    goes_on : (entries : List Entry) (w : World) → GoesFrom crashing c w entries → showing_next h entries ≡ Some s → boot ≤ (w.disk s.disk).boot → (behind : Past) × (ahead h (deeds_on s.disk entries) ≡ s.made ∷ behind)
    goes_on [] w goes shown low = absurd (cc)
    goes_on (entry ∷ entries) w goes shown low =
        elim (cases_Bool (is_by h entry)) [
          | inl own ↦ own_entry entry own shown
          | inr other ↦
              let still = sym (next_of_others h entry entries other) ∙ shown in
              let rises = boots_rise w entry goes.0 s.disk goes.1 in
              let rest = goes_on entries (after w entry goes.0) goes.2 still (omega (arith, low, rises)) in
              (rest.0, others_ahead s.disk entry entries (deeds_on s.disk entries) other (no_crash entry goes.0 goes.1 goes.2 still) (no_new entry goes.0 goes.1 goes.2 still) ∙ rest.1)
        ]
      where
        own_entry : (x : Entry) → is_by h x ≡ true → showing_next h (x ∷ entries) ≡ Some s → (behind : Past) × (ahead h (deeds_at s.disk x entries ++ deeds_on s.disk entries) ≡ s.made ∷ behind)
        own_entry (Does g deed) own shown =
            subst (λ (x : ℕ). (behind : Past) × (ahead h (deeds_at s.disk (Does x deed) entries ++ deeds_on s.disk entries) ≡ s.made ∷ behind)) (sym (eqb-true g h own))
            (own_ahead deed entries (sym (ap (λ (b : Bool). cond b (showing_by deed) (showing_next h entries)) own) ∙ shown))
        own_entry (Breaks g k call) own shown = absurd (let none = sym (ap (λ (b : Bool). cond b None (showing_next h entries)) own) ∙ shown in cc)
        own_entry (BreaksIn epoch g k call) own shown = absurd (let none = sym (ap (λ (b : Bool). cond b None (showing_next h entries)) own) ∙ shown in cc)
        own_entry (Ends g) own shown = absurd (let none = sym (ap (λ (b : Bool). cond b None (showing_next h entries)) own) ∙ shown in cc)
        own_entry (Crashes k) own shown = absurd (true≢false (sym own))
        own_entry (Loses k) own shown = absurd (true≢false (sym own))
        own_entry (Replaces k first newest) own shown = absurd (true≢false (sym own))

        -- meanwhile the disk does not crash
        no_crash : (x : Entry) (left : DiskState) → MayFollow crashing c w x left → GoesFrom crashing c (after w x left) entries → showing_next h entries ≡ Some s → (d : ℕ) → x ≡ Crashes d → (d == s.disk) ≡ false
        no_crash (Does g deed) left may more still d same = absurd (cc)
        no_crash (Breaks g k call) left may more still d same = absurd (cc)
        no_crash (BreaksIn epoch g k call) left may more still d same = absurd (cc)
        no_crash (Ends g) left may more still d same = absurd (cc)
        no_crash (Loses k) left may more still d same = absurd (cc)
        no_crash (Replaces k first newest) left may more still d same = absurd (cc)
        no_crash (Crashes k) left may more still d same =
            let one : k ≡ d = cc in
            elim (cases_Bool (k == s.disk)) [
              | inr differ ↦ subst (λ (x : ℕ). (x == s.disk) ≡ false) one differ
              | inl hit ↦
                  absurd
                  (elim (sound w (w.disk k) left may.2 may.3) [
                    | inl next ↦
                        let it = eqb-true k s.disk hit in
                        let new : (disks_after w.disk (Crashes k) left s.disk).boot ≡ (w.disk s.disk).boot + 1 =
                        ap (λ (b : Bool). (cond b left (w.disk s.disk)).boot) (eq-eqb s.disk k (sym it)) ∙ next ∙ ap (λ (x : ℕ). (w.disk x).boot + 1) it in
                        let under = below_it entries (after w (Crashes k) left) more still in
                        omega (arith, new, under, low)
                    | inr still_dark ↦ not_pending c h s (subst (λ (l : Deeds). IsPending c h l s) (still_dark.1 h) (pending crashing c h entries (after w (Crashes k) left) s more still))
                  ])
            ]

        -- nor is it replaced: the host has called it
        no_new : (x : Entry) (left : DiskState) → MayFollow crashing c w x left → GoesFrom crashing c (after w x left) entries → showing_next h entries ≡ Some s → (d first newest : ℕ) → x ≡ Replaces d first newest → (d == s.disk) ≡ false
        no_new (Does g deed) left may more still d first newest same = absurd (cc)
        no_new (Breaks g k call) left may more still d first newest same = absurd (cc)
        no_new (BreaksIn epoch g k call) left may more still d first newest same = absurd (cc)
        no_new (Ends g) left may more still d first newest same = absurd (cc)
        no_new (Crashes k) left may more still d first newest same = absurd (cc)
        no_new (Loses k) left may more still d first newest same = absurd (cc)
        no_new (Replaces k from upto) left may more still d first newest same =
            let one : k ≡ d = cc in
            elim (cases_Bool (k == s.disk)) [
              | inr differ ↦ subst (λ (x : ℕ). (x == s.disk) ≡ false) one differ
              | inl hit ↦
                  (let is = pending crashing c h entries (after w (Replaces k from upto) left) s more still in
                  absurd (has_past c h (w.deeds h) s is (subst (λ (x : ℕ). past_on x (w.deeds h) ≡ []) (eqb-true k s.disk hit) (may.1.anew h))))
            ]

  -- those that lead to some world may follow one another
  pub all_go : (entries : List Entry) (w last : World) → GoesTo crashing c w entries last → GoesFrom crashing c w entries
  all_go [] w last goes = tt
  all_go (entry ∷ entries) w last goes = (goes.0, goes.1, all_go entries (after w entry goes.0) last goes.2)

  -- A NEW DISK

  -- a number that belongs to no epoch above this one is below that of each later epoch
  below_later : (area number newest first least : ℕ) → ((order : ℕ) → epoch_by area number ≡ Some order → order ≤ newest) → newest < first → first + area ≤ least → number < least
  below_later area number newest first least most before late =
      elim (cases_lt number least) [
        | inl below ↦ below
        | inr above ↦
            let belongs : epoch_by area number ≡ Some (number + number % 2 - area) = ap (λ (b : Bool). if b then Some (number + number % 2 - area) else None) (le-leb area (number + number % 2) (omega (arith, above, late))) in
            let low = most (number + number % 2 - area) belongs in
            absurd (omega (arith, above, late, before, low))
      ]

  is_new : (first newest : ℕ) (old new : DiskState) → newest < first → IsNewDisk (image_of c) newest old new → IsNew (image_of c) first old new
  is_new first newest old new before is =
      record {
        there = is.there;
        gone = is.gone;
        boot = is.boot;
        room = is.room;
        synced = is.synced;
        before = λ e host e_area takes is_host.
            below_later e.area (number_of (image_of c) e.area host new.bytes) newest first e.number (λ order belongs. is.none e.area host order e_area is_host belongs) before (leb-true (first + e.area) e.number takes);
      }

  -- PASTS ON THE DISK

  module _ (k : ℕ) where
    -- each host's past there is what its deeds were there
    abbrev Tied : Pasts → (ℕ → Deeds) → Type 0
    Tied pasts deeds = (g : ℕ) → pasts g ≡ past_on k (deeds g)

    tied_call : (pasts : Pasts) (deeds : ℕ → Deeds) (h : ℕ) (deed : Deed) (m : Made) → past_on k (deed ∷ []) ≡ m ∷ [] → Tied pasts deeds → Tied (with_past pasts h (pasts h ++ m ∷ [])) (with_deeds deeds h (deeds h ++ deed ∷ []))
    tied_call pasts deeds h deed m is tied g = either (g == h)
      where
        either : (b : Bool) → cond b (pasts h ++ m ∷ []) (pasts g) ≡ past_on k (cond b (deeds h ++ deed ∷ []) (deeds g))
        either true = ap (λ (l : Past). l ++ m ∷ []) (tied h) ∙ ap (λ (l : Past). past_on k (deeds h) ++ l) (sym is) ∙ sym (past_more k (deeds h) deed)
        either false = tied g

    tied_beside : (pasts : Pasts) (deeds : ℕ → Deeds) (h : ℕ) (deed : Deed) → past_on k (deed ∷ []) ≡ [] → Tied pasts deeds → Tied pasts (with_deeds deeds h (deeds h ++ deed ∷ []))
    tied_beside pasts deeds h deed is tied g = either (g == h) refl
      where
        either : (b : Bool) → (g == h) ≡ b → pasts g ≡ past_on k (cond b (deeds h ++ deed ∷ []) (deeds g))
        either true same =
            ap pasts (eqb-true g h same) ∙ tied h ∙ sym (append-nil (past_on k (deeds h))) ∙ ap (λ (l : Past). past_on k (deeds h) ++ l) (sym is) ∙ sym (past_more k (deeds h) deed)
        either false differ = tied g

    tied_stops : (pasts : Pasts) (deeds : ℕ → Deeds) (h : ℕ) → Tied pasts deeds → Tied (with_past pasts h []) (with_deeds deeds h [])
    tied_stops pasts deeds h tied g = either (g == h)
      where
        either : (b : Bool) → cond b [] (pasts g) ≡ past_on k (cond b [] (deeds g))
        either true = refl
        either false = tied g

    -- ONE ENTRY

    abbrev Serves : DiskState → Pasts → List served.Deed → Type 0
    Serves disk pasts deeds = ServesPasts crashing.IsCrash c k (image_of c) disk pasts deeds

    disk_here : (disk : ℕ → DiskState) (left : DiskState) → with_disk disk k left k ≡ left
    disk_here disk left = ap (λ (b : Bool). cond b left (disk k)) (same_self k)

    disk_there : (disk : ℕ → DiskState) (d : ℕ) (left : DiskState) → (d == k) ≡ false → with_disk disk d left k ≡ disk k
    disk_there disk d left differ = ap (λ (b : Bool). cond b left (disk k)) (differ_back d k differ)

    module _ (entries : List Entry) where
      -- The entry is no deed on this disk, or one that may be made there.
      abbrev pub Touches : World → Entry → DiskState → Pasts → Type 0
      Touches w entry left pasts =
          ((deeds_at k entry entries ≡ []) × (disks_after w.disk entry left k ≡ w.disk k) × Tied pasts (deeds_after w.deeds entry))
          ⊎ ((deed : served.Deed) × (deeds_at k entry entries ≡ deed ∷ []) × MayBe crashing.IsCrash c k (image_of c) (w.disk k) pasts deed (deeds_on k entries) (disks_after w.disk entry left k)
          × Tied (pasts_after (w.disk k) (disks_after w.disk entry left k) pasts deed) (deeds_after w.deeds entry))

      abbrev IsServed : Entry → Type 0
      IsServed entry = (w : World) (left : DiskState) (pasts : Pasts) → Tied pasts w.deeds → MayFollow crashing c w entry left → GoesFrom crashing c (after w entry left) entries → Touches w entry left pasts

      -- a deed on this disk
      serves_one : (w : World) (entry : Entry) (left : DiskState) (pasts : Pasts) (deed : served.Deed) → deeds_at k entry entries ≡ deed ∷ [] → disks_after w.disk entry left k ≡ left →
          MayBe crashing.IsCrash c k (image_of c) (w.disk k) pasts deed (deeds_on k entries) left → Tied (pasts_after (w.disk k) left pasts deed) (deeds_after w.deeds entry) → Touches w entry left pasts
      serves_one w entry left pasts deed one here may tied =
          inr (
            deed,
            one,
            subst (MayBe crashing.IsCrash c k (image_of c) (w.disk k) pasts deed (deeds_on k entries)) (sym here) may,
            subst (λ (d : DiskState). Tied (pasts_after (w.disk k) d pasts deed) (deeds_after w.deeds entry)) (sym here) tied,
          )

      -- none on it
      serves_none : (w : World) (entry : Entry) (left : DiskState) (pasts : Pasts) → deeds_at k entry entries ≡ [] → disks_after w.disk entry left k ≡ w.disk k → Tied pasts (deeds_after w.deeds entry) → Touches w entry left pasts
      serves_none w entry left pasts none there tied = inl (none, there, tied)

      -- a host stops
      serves_stops : (w : World) (entry : Entry) (left : DiskState) (pasts : Pasts) (h : ℕ) → deeds_at k entry entries ≡ served.Stops h ∷ [] → disks_after w.disk entry left k ≡ w.disk k →
          Tied (with_past pasts h []) (deeds_after w.deeds entry) → Touches w entry left pasts
      serves_stops w entry left pasts h one there tied = inr (served.Stops h, one, there, tied)

      -- CALLS

      past_here : (deeds : Deeds) (now : Made) → past_on k (deeds ++ Calls k now ∷ []) ≡ past_on k deeds ++ now ∷ []
      past_here deeds now = past_more k deeds (Calls k now) ∙ ap (λ (b : Bool). past_on k deeds ++ cond b (now ∷ []) []) (same_self k)

      -- a row that is shown
      module _ (h : ℕ) (now : Made) (w : World) (left : DiskState) (pasts : Pasts) (tied : Tied pasts w.deeds) (may : MayFollow crashing c w (Does h (Calls k now)) left) (goes : GoesFrom crashing c (after w (Does h (Calls k now)) left) entries)
          (s : Showing) (shown : showing_next h entries ≡ Some s) where
        abbrev deeds : Deeds
        deeds = w.deeds h ++ Calls k now ∷ []

        is : IsPending c h deeds s
        is = subst (λ (l : Deeds). IsPending c h l s) (deeds_here w.deeds h deeds) (pending crashing c h entries (after w (Does h (Calls k now)) left) s goes shown)

        on_it : k ≡ s.disk
        on_it = let reads : Calls k now ≡ Calls s.disk _ = pending_reads c h (w.deeds h) (Calls k now) s is in cc

        abbrev e : Epoch
        e = epoch_of s.epoch

        abbrev begins : Past
        begins = is.shows.shown.early ++ reading (image_of c) e.area is.boot is.shows.shown.first ∷ is.shows.shown.before

        abbrev row : Made
        row = made (Read is.boot (base_of (image_of c) e.area + is.at) ROW_LENGTH) (Told is.shows.shown.row)

        abbrev behind : Made
        behind = reading (image_of c) e.area is.boot is.shows.shown.second

        past_is : past_on k (w.deeds h) ++ now ∷ [] ≡ begins ++ row ∷ []
        past_is = sym (past_here (w.deeds h) now) ∙ ap (λ (d : ℕ). past_on d deeds) on_it ∙ (second c h deeds s is).before

        begins_is : pasts h ≡ begins
        begins_is = tied h ∙ first_same (past_on k (w.deeds h)) begins now row past_is

        row_is : now ≡ row
        row_is = last_same (past_on k (w.deeds h)) begins now row past_is

        step_is : Step (w.disk k) row.call row.answer left
        step_is = subst (λ (m : Made). Step (w.disk k) m.call m.answer left) row_is may.2

        low : is.boot ≤ ((after w (Does h (Calls k now)) left).disk s.disk).boot
        low =
            let under = told_under (w.disk k) left is.boot (base_of (image_of c) e.area + is.at) ROW_LENGTH is.shows.shown.row step_is in
            let stays = boot_stays (w.disk k) left row.call row.answer step_is in
            subst (λ (d : ℕ). is.boot ≤ (with_disk w.disk k left d).boot) on_it
            (subst (λ (d : DiskState). is.boot ≤ d.boot) (sym (disk_here w.disk left)) (let n : is.boot ≤ left.boot = omega (arith, under, stays) in n))

        ahead_is : (more : Past) × (ahead h (deeds_on k entries) ≡ s.made ∷ more)
        ahead_is = subst (λ (d : ℕ). (more : Past) × (ahead h (deeds_on d entries) ≡ s.made ∷ more)) (sym on_it) (goes_on h s is.boot (reads h deeds s is) entries (after w (Does h (Calls k now)) left) goes shown low)

        shown_is : pasts h ++ now ∷ s.made ∷ [] ≡ is.shows.shown.early ++ reading (image_of c) e.area is.boot is.shows.shown.first ∷ is.shows.shown.before ++ row ∷ [] ++ behind ∷ []
        shown_is =
            ap₂ (λ (l : Past) (m : Made). l ++ m ∷ s.made ∷ []) begins_is row_is ∙ ap (λ (m : Made). begins ++ row ∷ m ∷ []) (second c h deeds s is).now
            ∙ sym (append_assoc begins (row ∷ []) (behind ∷ []))

        later_shown : IsShownLater (image_of c) e h is.boot is.at (pasts h) now (deeds_on k entries) s.heard
        later_shown =
            record {
              until = s.made ∷ [];
              behind = ahead_is.0;
              goes_on = ahead_is.1;
              shown = record {
                first = is.shows.shown.first;
                row = is.shows.shown.row;
                second = is.shows.shown.second;
                early = is.shows.shown.early;
                before = is.shows.shown.before;
                between = [];
                is = shown_is;
                clear = is.shows.shown.clear;
                told = is.shows.shown.told;
              };
              here = sym begins_is;
            }

        may_row : MayCallIn (image_of c) e h (pasts h) s.call
        may_row =
            let read : MayCallIn (image_of c) e h (past_on s.disk deeds) (Read is.boot is.at is.len) = subst (MayCallIn (image_of c) e h (past_on s.disk deeds)) is.is_read is.may in
            subst (MayCallIn (image_of c) e h (pasts h)) (sym is.is_read) read

        serves_row : MayBe crashing.IsCrash c k (image_of c) (w.disk k) pasts (served.CallsIn e h now s.call s.heard) (deeds_on k entries) left
        serves_row = (
          may.0,
          omega arith,
          omega arith,
          may_row,
          subst (λ (x : Call). Hears (image_of c) e h (pasts h) now (deeds_on k entries) x s.heard) (sym is.is_read) (inl later_shown),
          may.2,
        )

      calls_here : (h : ℕ) (now : Made) → IsServed (Does h (Calls k now))
      calls_here h now w left pasts tied may goes = either (showing_next h entries) refl
        where
          made_here : past_on k (Calls k now ∷ []) ≡ now ∷ []
          made_here = ap (λ (b : Bool). cond b (now ∷ []) []) (same_self k)

          either : (next : Option Showing) → showing_next h entries ≡ next → Touches w (Does h (Calls k now)) left pasts
          either None none =
              serves_one w (Does h (Calls k now)) left pasts (served.Calls h now)
              (ap (λ (b : Bool). cond b (row_deed h now (showing_next h entries) ∷ []) []) (same_self k) ∙ ap (λ (next : Option Showing). row_deed h now next ∷ []) none) (disk_here w.disk left)
              (may.0, subst (λ (past : Past). MayCall (image_of c) h past now.call) (sym (tied h)) may.1.1, may.2)
              (tied_call pasts w.deeds h (Calls k now) now made_here tied)
          either (Some s) shown =
              serves_one w (Does h (Calls k now)) left pasts (served.CallsIn (epoch_of s.epoch) h now s.call s.heard)
              (ap (λ (b : Bool). cond b (row_deed h now (showing_next h entries) ∷ []) []) (same_self k) ∙ ap (λ (next : Option Showing). row_deed h now next ∷ []) shown) (disk_here w.disk left)
              (serves_row h now w left pasts tied may goes s shown)
              (tied_call pasts w.deeds h (Calls k now) now made_here tied)

      -- what a core hears of other calls
      hears_else : (h epoch : ℕ) (past : Past) (before : Deeds) (now : Made) (call : Call) (heard : Answer) → past ≡ past_on k before → is_row call heard ≡ false → IsHeard c h epoch k before now call heard →
          Hears (image_of c) (epoch_of epoch) h past now (deeds_on k entries) call heard
      hears_else h epoch past before now Attach heard same none is = subst (λ (p : Past). Hears (image_of c) (epoch_of epoch) h p now (deeds_on k entries) Attach heard) (sym same) is
      hears_else h epoch past before now (Write boot at from) heard same none is = subst (λ (p : Past). Hears (image_of c) (epoch_of epoch) h p now (deeds_on k entries) (Write boot at from) heard) (sym same) is
      hears_else h epoch past before now (Sync boot) heard same none is = subst (λ (p : Past). Hears (image_of c) (epoch_of epoch) h p now (deeds_on k entries) (Sync boot) heard) (sym same) is
      hears_else h epoch past before now (Read boot at len) heard same none is =
          elim is [
            | inl shows ↦ absurd (true≢false (sym (ap (is_row (Read boot at len)) shows.shown.told) ∙ none))
            | inr unseen ↦ inr (subst (λ (p : Past). IsUnseen boot (p ++ now ∷ []) heard) (sym same) unseen)
          ]

      calls_in_here : (h epoch : ℕ) (now : Made) (call : Call) (heard : Answer) → IsServed (Does h (CallsIn epoch k now call heard))
      calls_in_here h epoch now call heard w left pasts tied may goes =
          serves_one w (Does h (CallsIn epoch k now call heard)) left pasts (core_deed epoch h now call heard (is_row call heard))
          (ap (λ (b : Bool). cond b (core_deed epoch h now call heard (is_row call heard) ∷ []) []) (same_self k)) (disk_here w.disk left) (may_be (is_row call heard) refl)
          (tied_it (is_row call heard))
        where
          made_here : past_on k (CallsIn epoch k now call heard ∷ []) ≡ now ∷ []
          made_here = ap (λ (b : Bool). cond b (now ∷ []) []) (same_self k)

          tied_it : (b : Bool) → Tied (pasts_after (w.disk k) left pasts (core_deed epoch h now call heard b)) (deeds_after w.deeds (Does h (CallsIn epoch k now call heard)))
          tied_it true = tied_call pasts w.deeds h (CallsIn epoch k now call heard) now made_here tied
          tied_it false = tied_call pasts w.deeds h (CallsIn epoch k now call heard) now made_here tied

          may_read : is_row call heard ≡ true → MayCall (image_of c) h (pasts h) now.call
          may_read row =
              let it = row_pending c h epoch k (w.deeds h) now call heard row may.1 in
              subst (λ (m : Made). MayCall (image_of c) h (pasts h) m.call) (sym (second c h (w.deeds h) (record { epoch = epoch; disk = k; made = now; call = call; heard = heard }) it).now) tt

          may_be : (b : Bool) → is_row call heard ≡ b → MayBe crashing.IsCrash c k (image_of c) (w.disk k) pasts (core_deed epoch h now call heard b) (deeds_on k entries) left
          may_be true row = (may.0, may_read row, may.2)
          may_be false none = (
            may.0,
            omega arith,
            omega arith,
            subst (λ (past : Past). MayCallIn (image_of c) (epoch_of epoch) h past call) (sym (tied h)) may.1.1,
            hears_else h epoch (pasts h) (w.deeds h) now call heard (tied h) none may.1.2,
            may.2,
          )

      -- THE OTHERS

      breaks_here : (h : ℕ) (call : Call) → IsServed (Breaks h k call)
      breaks_here h call w left pasts tied may goes =
          serves_one w (Breaks h k call) left pasts (served.Breaks h call) (ap (λ (b : Bool). cond b (served.Breaks h call) (served.Stops h) ∷ []) (same_self k)) (disk_here w.disk left)
          (may.0, subst (λ (past : Past). MayCall (image_of c) h past call) (sym (tied h)) may.2, may.4) (tied_stops pasts w.deeds h tied)

      breaks_in_here : (h epoch : ℕ) (call : Call) → IsServed (BreaksIn epoch h k call)
      breaks_in_here h epoch call w left pasts tied may goes =
          serves_one w (BreaksIn epoch h k call) left pasts (served.BreaksIn (epoch_of epoch) h call) (ap (λ (b : Bool). cond b (served.BreaksIn (epoch_of epoch) h call) (served.Stops h) ∷ []) (same_self k)) (disk_here w.disk left)
          (may.0, omega arith, omega arith, subst (λ (past : Past). MayCallIn (image_of c) (epoch_of epoch) h past call) (sym (tied h)) may.2, may.3) (tied_stops pasts w.deeds h tied)

      crashes_here : IsServed (Crashes k)
      crashes_here w left pasts tied may goes =
          serves_one w (Crashes k) left pasts served.Crash (ap (λ (b : Bool). cond b (served.Crash ∷ []) []) (same_self k)) (disk_here w.disk left) (may.0, may.1, may.2)
          (elim (sound w (w.disk k) left may.2 may.3) [
            | inl next ↦ λ g. ap (λ (b : Bool). (if b then no_pasts else pasts) g) (ne_eqb left.boot (w.disk k).boot (λ same. omega (arith, next, same))) ∙ tied g
            | inr still ↦ λ g. ap (λ (b : Bool). (if b then no_pasts else pasts) g) (eq-eqb left.boot (w.disk k).boot still.0) ∙ ap (past_on k) (sym (still.1 g))
          ])

      loses_here : IsServed (Loses k)
      loses_here w left pasts tied may goes =
          serves_one w (Loses k) left pasts served.Loss (ap (λ (b : Bool). cond b (served.Loss ∷ []) []) (same_self k)) (disk_here w.disk left) may tied

      replaces_here : (first newest : ℕ) → IsServed (Replaces k first newest)
      replaces_here first newest w left pasts tied may goes =
          serves_one w (Replaces k first newest) left pasts (served.Replacement first) (ap (λ (b : Bool). cond b (served.Replacement first ∷ []) []) (same_self k)) (disk_here w.disk left) (may.0, is_new first newest (w.disk k) left may.1.below may.2)
          (λ g. sym (may.1.anew g))

      -- on this disk, or on another
      either_disk : (d : ℕ) (entry : ℕ → Entry) → IsServed (entry k) → ((d == k) ≡ false → IsServed (entry d)) → IsServed (entry d)
      either_disk d entry here there = elim (cases_Bool (d == k)) [ inl same ↦ subst (λ (x : ℕ). IsServed (entry x)) (sym (eqb-true d k same)) here | inr differ ↦ there differ ]

      pub served_entry : (entry : Entry) → IsServed entry
      served_entry (Does h (Calls d now)) =
          either_disk d (λ x. Does h (Calls x now)) (calls_here h now)
          (λ differ w left pasts tied may goes.
          serves_none w (Does h (Calls d now)) left pasts (ap (λ (b : Bool). cond b (row_deed h now (showing_next h entries) ∷ []) []) differ) (disk_there w.disk d left differ)
          (tied_beside pasts w.deeds h (Calls d now) (ap (λ (b : Bool). cond b (now ∷ []) []) differ) tied))
      served_entry (Does h (CallsIn epoch d now call heard)) =
          either_disk d (λ x. Does h (CallsIn epoch x now call heard)) (calls_in_here h epoch now call heard)
          (λ differ w left pasts tied may goes.
          serves_none w (Does h (CallsIn epoch d now call heard)) left pasts (ap (λ (b : Bool). cond b (core_deed epoch h now call heard (is_row call heard) ∷ []) []) differ) (disk_there w.disk d left differ)
          (tied_beside pasts w.deeds h (CallsIn epoch d now call heard) (ap (λ (b : Bool). cond b (now ∷ []) []) differ) tied))
      served_entry (Does h (Starts epoch)) = λ w left pasts tied may goes. serves_none w (Does h (Starts epoch)) left pasts refl refl (tied_beside pasts w.deeds h (Starts epoch) refl tied)
      served_entry (Does h (Begins epoch task)) = λ w left pasts tied may goes. serves_none w (Does h (Begins epoch task)) left pasts refl refl (tied_beside pasts w.deeds h (Begins epoch task) refl tied)
      served_entry (Does h (Stops epoch)) = λ w left pasts tied may goes. serves_none w (Does h (Stops epoch)) left pasts refl refl (tied_beside pasts w.deeds h (Stops epoch) refl tied)
      served_entry (Breaks h d call) =
          either_disk d (λ x. Breaks h x call) (breaks_here h call)
          (λ differ w left pasts tied may goes.
          serves_stops w (Breaks h d call) left pasts h (ap (λ (b : Bool). cond b (served.Breaks h call) (served.Stops h) ∷ []) differ) (disk_there w.disk d left differ) (tied_stops pasts w.deeds h tied))
      served_entry (BreaksIn epoch h d call) =
          either_disk d (λ x. BreaksIn epoch h x call) (breaks_in_here h epoch call)
          (λ differ w left pasts tied may goes.
          serves_stops w (BreaksIn epoch h d call) left pasts h (ap (λ (b : Bool). cond b (served.BreaksIn (epoch_of epoch) h call) (served.Stops h) ∷ []) differ) (disk_there w.disk d left differ)
          (tied_stops pasts w.deeds h tied))
      served_entry (Ends h) = λ w left pasts tied may goes. serves_stops w (Ends h) left pasts h refl refl (tied_stops pasts w.deeds h tied)
      served_entry (Crashes d) =
          either_disk d (λ x. Crashes x) crashes_here
          (λ differ w left pasts tied may goes. serves_none w (Crashes d) left pasts (ap (λ (b : Bool). cond b (served.Crash ∷ []) []) differ) (disk_there w.disk d left differ) tied)
      served_entry (Loses d) =
          either_disk d (λ x. Loses x) loses_here
          (λ differ w left pasts tied may goes. serves_none w (Loses d) left pasts (ap (λ (b : Bool). cond b (served.Loss ∷ []) []) differ) (disk_there w.disk d left differ) tied)
      served_entry (Replaces d first newest) =
          either_disk d (λ x. Replaces x first newest) (replaces_here first newest)
          (λ differ w left pasts tied may goes. serves_none w (Replaces d first newest) left pasts (ap (λ (b : Bool). cond b (served.Replacement first ∷ []) []) differ) (disk_there w.disk d left differ) tied)

    -- ALL ENTRIES

    pub all_served : (entries : List Entry) (w : World) (pasts : Pasts) → Tied pasts w.deeds → GoesFrom crashing c w entries → Serves (w.disk k) pasts (deeds_on k entries)
    all_served [] w pasts tied goes = tt
    all_served (entry ∷ entries) w pasts tied goes =
        let new = disks_after w.disk entry goes.0 k in
        elim (served_entry entries entry w goes.0 pasts tied goes.1 goes.2) [
          | inl none ↦
              subst (λ (l : List served.Deed). Serves (w.disk k) pasts (l ++ deeds_on k entries)) (sym none.0)
              (subst (λ (d : DiskState). Serves d pasts (deeds_on k entries)) none.1 (all_served entries (after w entry goes.0) pasts none.2 goes.2))
          | inr one ↦
              subst (λ (l : List served.Deed). Serves (w.disk k) pasts (l ++ deeds_on k entries)) (sym one.1)
              (new, one.2, all_served entries (after w entry goes.0) (pasts_after (w.disk k) new pasts one.0) one.3 goes.2)
        ]

    -- the same to the disk of the last world
    pub all_served_to : (entries : List Entry) (w last : World) (pasts : Pasts) → Tied pasts w.deeds → GoesTo crashing c w entries last → GoesByPasts crashing.IsCrash c k (image_of c) (w.disk k) pasts (deeds_on k entries) (last.disk k)
    all_served_to [] w last pasts tied goes = ap (λ (v : World). v.disk k) goes
    all_served_to (entry ∷ entries) w last pasts tied goes =
        let new = disks_after w.disk entry goes.0 k in
        elim (served_entry entries entry w goes.0 pasts tied goes.1 (all_go entries (after w entry goes.0) last goes.2)) [
          | inl none ↦
              subst (λ (l : List served.Deed). GoesByPasts crashing.IsCrash c k (image_of c) (w.disk k) pasts (l ++ deeds_on k entries) (last.disk k)) (sym none.0)
              (subst (λ (d : DiskState). GoesByPasts crashing.IsCrash c k (image_of c) d pasts (deeds_on k entries) (last.disk k)) none.1 (all_served_to entries (after w entry goes.0) last pasts none.2 goes.2))
          | inr one ↦
              subst (λ (l : List served.Deed). GoesByPasts crashing.IsCrash c k (image_of c) (w.disk k) pasts (l ++ deeds_on k entries) (last.disk k)) (sym one.1)
              (new, one.2, all_served_to entries (after w entry goes.0) last (pasts_after (w.disk k) new pasts one.0) one.3 goes.2)
        ]
