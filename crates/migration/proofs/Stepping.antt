-- A migrator over simulated disks, event by event.
use Rattle.std.specs.Prelude.{slice_index_or, option_map, option_and_then, is_some, nat_lt, not, ◌&&◌, ◌^◌, if◌then◌else◌}
use Rattle.std.proofs.Common.{ℕ, ◌<◌, ◌≡◌, ◌==◌, inl, inr, Bool, true, false, Option, Some, None, List, [], ◌∷◌, ◌++◌, length, drop, refl, sym, subst, ap, ap₂, ◌∙◌, arith}
use Rattle.std.proofs.lemmas.Bool.{cases_eq, cond-true, cond-false, eq-eqb, ne_eqb, eqb-true, eqb-false, lt-ltb, ltb-true, and_parts, and_from}
use Rattle.std.proofs.lemmas.List.{get_or-set_same, get_or-set_other, length-set}
use Rattle.std.proofs.Math.ListN.{set}
use Rattle.disk.specs.declared.fault.DiskFault.{DiskFault}
use Rattle.disk.specs.declared.fault.DiskFault.TheVariants.{Failed}
use Rattle.disk.specs.Disk.{DiskState, Call, Attach, Read, Write, Sync, Answer, Fault, success_of, done_by, lost}
use Rattle.disk.specs.Simulated.{SimState, fresh_disk, outcome, outcome_by, refusal_of, failed_by, crashed}
use Rattle.migration.specs.Events.{Event, Step, Tear, FailCall, DiskCrash, DiskGone, answered_by, stepped, failed_call, failed, torn_call, torn, brings_if, are_some, has_disk, entry_of, after_any, happens, happen, run}
use Rattle.migration.specs.Fits.{Fits}
use Rattle.migration.specs.Heard.{Progress, at_first, hears, heard, given_up, next, next_in}
use Rattle.paxos_block.specs.Image.{Setup}
use Rattle.migration.specs.Kept as kept
use Rattle.migration.specs.Kept.{end_by, end_in}
use Rattle.migration.specs.Plan.{Due}
use Rattle.migration.specs.Run.{Migration, Entry, Called, Stopped, Crashed, Lost, with_disk, after, begun, IsAllOrNothing}
use Rattle.migration.specs.Running.{is_write, calm, disk_in, AreDisks, HasHeard, HasCome, LeadsTo}
use Rattle.migration.specs.declared.end.End.{End}
use Rattle.migration.specs.declared.end.End.TheVariants.{MigrationFailed}
use Rattle.migration.specs.declared.notes.Notes.{Notes}
use Rattle.torn_block.specs.Layout.{cluster_version}
use Rattle.paxos_block.specs.Headers.{IsFormatted}
use Rattle.paxos_block.specs.Places.{image_length}
use Rattle.migration.proofs.Fitting.{fits_images}
use Rattle.migration.proofs.Going.{heard-append}
use Rattle.migration.proofs.Happening.{runs_hold}

-- RUNS

happen-append : (s : Setup) (w : Migration) (events : List Event) (e : Event) → happen s w (events ++ e ∷ []) ≡ happens s (happen s w events) e
happen-append s w [] e = refl
happen-append s w (first ∷ events) e = happen-append s (happens s w first) events e

module _ (s : Setup) (events : List Event) (e : Event) where
  -- what stands after the event
  leads_by : (m : Option Notes) (sims : List SimState) → Fits s → HasCome s (happens s (run s events) e).progress m → AreDisks s (happens s (run s events) e) sims → LeadsTo s (events ++ e ∷ []) m sims
  leads_by m sims fits comes shows =
      let more = happen-append s (begun s) events e in
      record {
        fits = fits;
        comes = subst (λ (x : Migration). HasCome s x.progress m) (sym more) comes;
        shows = subst (λ (x : Migration). AreDisks s x sims) (sym more) shows;
      }

  -- an event that brings nothing
  pub brings_none : (m : Option Notes) (sims : List SimState) → entry_of s (run s events) e ≡ None → LeadsTo s events m sims → LeadsTo s (events ++ e ∷ []) m sims
  brings_none m sims none leads =
      let same : happens s (run s events) e ≡ run s events = ap (after_any (run s events)) none in
      leads_by m sims leads.fits (subst (λ (x : Migration). HasCome s x.progress m) (sym same) leads.comes) (subst (λ (x : Migration). AreDisks s x sims) (sym same) leads.shows)

-- WHETHER A CALL IS DUE

pub next_stopped : (p : Progress) → p.failed ≡ true → next p ≡ None
next_stopped p failed = ap (λ (b : Bool). if_none b) failed
  where
    if_none : Bool → Option (ℕ × Call)
    if_none b = if b then None else next_in p p.rest

pub next_over : (p : Progress) (end : End) → end_by p ≡ Some end → next p ≡ None
next_over p end is = go p.failed p.rest is
  where
    go : (b : Bool) (rest : List Due) → (if b then Some MigrationFailed else end_in rest) ≡ Some end → (if b then None else next_in p rest) ≡ None
    go true rest over = refl
    go false [] over = refl
    go false (due ∷ rest) over = absurd (cc)

-- WHAT EACH EVENT BRINGS

none_if : (b : Bool) → brings_if b None ≡ None
none_if true = refl
none_if false = refl

module _ (s : Setup) (w : Migration) where
  pub none_stepped : next w.progress ≡ None → entry_of s w Step ≡ None
  none_stepped none = ap (option_map (stepped w)) none

  pub none_torn : (given : List ℕ) → next w.progress ≡ None → entry_of s w (Tear given) ≡ None
  none_torn given none = ap (λ (o : Option (ℕ × Call)). brings_if (are_some given) (option_and_then (torn w given) o)) none ∙ none_if (are_some given)

  pub none_failed : (given : List ℕ) → next w.progress ≡ None → entry_of s w (FailCall given) ≡ None
  none_failed given none = ap (λ (o : Option (ℕ × Call)). brings_if (are_some given) (option_and_then (failed w given) o)) none ∙ none_if (are_some given)

  module _ (d : ℕ) (call : Call) (due : next w.progress ≡ Some (d, call)) where
    -- the call is made
    pub made : (x : SimState) (a : Answer) → ◌≡◌ {A = SimState × Answer} (x, a) (outcome (calm (w.disk d)) call) → (x ≡ calm x.disk) × (happens s w Step ≡ after w (Called d call a x.disk))
    made x a is = go (refusal_of (w.disk d) call) refl
      where
        by : (y : DiskState) (b : Answer) → ◌≡◌ {A = SimState × Answer} (x, a) (calm y, b) → happens s w Step ≡ after w (Called d call b y) → (x ≡ calm x.disk) × (happens s w Step ≡ after w (Called d call a x.disk))
        by y b both made_so =
            let x_is : x ≡ calm y = ap (λ (p : SimState × Answer). p.0) both in
            let a_is : a ≡ b = ap (λ (p : SimState × Answer). p.1) both in (
              x_is ∙ ap (λ (z : SimState). calm z.disk) (sym x_is),
              made_so ∙ ap₂ (λ (c : Answer) (z : DiskState). after w (Called d call c z)) (sym a_is) (ap (λ (z : SimState). z.disk) (sym x_is)),
            )

        go : (r : Option DiskFault) → refusal_of (w.disk d) call ≡ r → (x ≡ calm x.disk) × (happens s w Step ≡ after w (Called d call a x.disk))
        go None none =
            by (done_by (w.disk d) call) (success_of (w.disk d) call) (is ∙ ap (λ (r : Option DiskFault). outcome_by (calm (w.disk d)) call r None) none)
            (ap (λ (o : Option (ℕ × Call)). after_any w (option_map (stepped w) o)) due ∙ ap (λ (r : Option DiskFault). after w (answered_by d (w.disk d) call r)) none)
        go (Some fault) some =
            by (w.disk d) (Fault fault) (is ∙ ap (λ (r : Option DiskFault). outcome_by (calm (w.disk d)) call r None) some)
            (ap (λ (o : Option (ℕ × Call)). after_any w (option_map (stepped w) o)) due ∙ ap (λ (r : Option DiskFault). after w (answered_by d (w.disk d) call r)) some)

    none_refused : (r : Option DiskFault) → is_some r ≡ false → r ≡ None
    none_refused None is = refl
    none_refused (Some fault) is = absurd (cc)

    some_given : (given : List ℕ) → 0 < length given → are_some given ≡ true
    some_given given some = lt-ltb 0 (length given) some

    -- the disk would refuse it
    pub refused_fails : (given : List ℕ) → is_some (refusal_of (w.disk d) call) ≡ true → entry_of s w (FailCall given) ≡ None
    refused_fails given is =
        ap (λ (o : Option (ℕ × Call)). brings_if (are_some given) (option_and_then (failed w given) o)) due
        ∙ ap (brings_if (are_some given)) (go (refusal_of (w.disk d) call) is)
        ∙ none_if (are_some given)
      where
        go : (r : Option DiskFault) → is_some r ≡ true → failed_call d (w.disk d) call given r ≡ None
        go None is = absurd (cc)
        go (Some fault) is = refl

    torn_refused : (c : Call) (given : List ℕ) (r : Option DiskFault) → is_some r ≡ true → torn_call d (w.disk d) c given r ≡ None
    torn_refused Attach given r is = refl
    torn_refused (Read boot at len) given r is = refl
    torn_refused (Sync boot) given r is = refl
    torn_refused (Write boot at from) given None is = absurd (cc)
    torn_refused (Write boot at from) given (Some fault) is = refl

    torn_no_write : (c : Call) (given : List ℕ) (r : Option DiskFault) → is_write c ≡ false → torn_call d (w.disk d) c given r ≡ None
    torn_no_write Attach given r is = refl
    torn_no_write (Read boot at len) given r is = refl
    torn_no_write (Sync boot) given r is = refl
    torn_no_write (Write boot at from) given r is = absurd (cc)

    torn_by : (given : List ℕ) → torn_call d (w.disk d) call given (refusal_of (w.disk d) call) ≡ None → entry_of s w (Tear given) ≡ None
    torn_by given none =
        ap (λ (o : Option (ℕ × Call)). brings_if (are_some given) (option_and_then (torn w given) o)) due ∙ ap (brings_if (are_some given)) none ∙ none_if (are_some given)

    pub refused_tears : (given : List ℕ) → is_some (refusal_of (w.disk d) call) ≡ true → entry_of s w (Tear given) ≡ None
    refused_tears given is = torn_by given (torn_refused call given (refusal_of (w.disk d) call) is)

    pub no_write_tears : (given : List ℕ) → is_write call ≡ false → entry_of s w (Tear given) ≡ None
    no_write_tears given is = torn_by given (torn_no_write call given (refusal_of (w.disk d) call) is)

    -- it fails
    pub fails : (given : List ℕ) → 0 < length given → is_some (refusal_of (w.disk d) call) ≡ false → happens s w (FailCall given) ≡ after w (Called d call (Fault Failed) (failed_by (w.disk d) call given))
    fails given some admitted =
        ap (λ (o : Option (ℕ × Call)). after_any w (brings_if (are_some given) (option_and_then (failed w given) o))) due
        ∙ ap (λ (b : Bool). after_any w (brings_if b (failed_call d (w.disk d) call given (refusal_of (w.disk d) call)))) (some_given given some)
        ∙ ap (λ (r : Option DiskFault). after_any w (failed_call d (w.disk d) call given r)) (none_refused (refusal_of (w.disk d) call) admitted)

    -- it is torn
    torn_write : (c : Call) (given : List ℕ) → is_write c ≡ true → torn_call d (w.disk d) c given None ≡ Some (Stopped d c (failed_by (w.disk d) c given))
    torn_write Attach given is = absurd (cc)
    torn_write (Read boot at len) given is = absurd (cc)
    torn_write (Sync boot) given is = absurd (cc)
    torn_write (Write boot at from) given is = refl

    pub tears : (given : List ℕ) → 0 < length given → is_write call ≡ true → is_some (refusal_of (w.disk d) call) ≡ false → happens s w (Tear given) ≡ after w (Stopped d call (failed_by (w.disk d) call given))
    tears given some write admitted =
        ap (λ (o : Option (ℕ × Call)). after_any w (brings_if (are_some given) (option_and_then (torn w given) o))) due
        ∙ ap (λ (b : Bool). after_any w (brings_if b (torn_call d (w.disk d) call given (refusal_of (w.disk d) call)))) (some_given given some)
        ∙ ap (λ (r : Option DiskFault). after_any w (torn_call d (w.disk d) call given r)) (none_refused (refusal_of (w.disk d) call) admitted)
        ∙ ap (after_any w) (torn_write call given write)

  -- DISKS

  -- one disk is another
  pub shows_with : (sims : List SimState) (d : ℕ) (x : SimState) (p : Progress) → AreDisks s w sims → d < s.disks → x ≡ calm x.disk → AreDisks s (record { disk = with_disk w.disk d x.disk; progress = p }) (set sims d x)
  shows_with sims d x p shows below is = record {
    count = length-set sims d x ∙ shows.count;
    each = λ e other inside. elim (cases_eq e d) [
      | inl same ↦
          ap (λ (k : ℕ). slice_index_or (set sims d x) k other) same
          ∙ get_or-set_same sims d x other (let n = shows.count in omega (arith, n, below))
          ∙ is
          ∙ ap calm (sym (cond-true (e == d) x.disk (w.disk e) (eq-eqb e d same)))
      | inr off ↦
          get_or-set_other sims d e x other off
          ∙ shows.each e other inside
          ∙ ap calm (sym (cond-false (e == d) x.disk (w.disk e) (ne_eqb e d off)))
    ];
  }

-- EACH EVENT OF A MIGRATOR

module _ (s : Setup) (events : List Event) (n : Notes) (sims : List SimState) (leads : LeadsTo s events (Some n) sims) where
  abbrev w : Migration
  w = run s events

  -- one answer more is heard
  hears_more : (new : Notes) (a : Answer) → kept.LeadsTo s (leads.comes.answers ++ a ∷ []) new → HasHeard s (hears w.progress a) new
  hears_more new a now = record {
    answers = leads.comes.answers ++ a ∷ [];
    leads = now;
    comes = heard-append (at_first s) leads.comes.answers a ∙ ap (λ (p : Progress). hears p a) leads.comes.comes;
  }

  module _ (d : ℕ) (call : Call) (due : next w.progress ≡ Some (d, call)) (below : d < s.disks) where
    pub steps : (x : SimState) (a : Answer) → ◌≡◌ {A = SimState × Answer} (x, a) (outcome (calm (w.disk d)) call) → (new : Notes) → kept.LeadsTo s (leads.comes.answers ++ a ∷ []) new
        → LeadsTo s (events ++ Step ∷ []) (Some new) (set sims d x)
    steps x a is new now =
        let (x_is, so) = made s w d call due x a is in
        leads_by s events Step (Some new) (set sims d x) leads.fits
        (subst (λ (y : Migration). HasHeard s y.progress new) (sym so) (hears_more new a now))
        (subst (λ (y : Migration). AreDisks s y (set sims d x)) (sym so) (shows_with s w sims d x (hears w.progress a) leads.shows below x_is))

    pub fails_so : (given : List ℕ) → 0 < length given → is_some (refusal_of (w.disk d) call) ≡ false → (x : SimState) → x ≡ calm (failed_by (w.disk d) call given) → (new : Notes) → kept.LeadsTo s (leads.comes.answers ++ Fault Failed ∷ []) new
        → LeadsTo s (events ++ FailCall given ∷ []) (Some new) (set sims d x)
    fails_so given some admitted x is new now =
        let so : happens s w (FailCall given) ≡ after w (Called d call (Fault Failed) x.disk) =
        fails s w d call due given some admitted ∙ ap (λ (y : SimState). after w (Called d call (Fault Failed) y.disk)) (sym is) in
        leads_by s events (FailCall given) (Some new) (set sims d x) leads.fits
        (subst (λ (y : Migration). HasHeard s y.progress new) (sym so) (hears_more new (Fault Failed) now))
        (subst (λ (y : Migration). AreDisks s y (set sims d x)) (sym so) (shows_with s w sims d x (hears w.progress (Fault Failed)) leads.shows below (is ∙ ap (λ (y : SimState). calm y.disk) (sym is))))

    pub tears_so : (given : List ℕ) → 0 < length given → is_write call ≡ true → is_some (refusal_of (w.disk d) call) ≡ false → (x : SimState) → x ≡ calm (failed_by (w.disk d) call given)
        → LeadsTo s (events ++ Tear given ∷ []) None (set sims d x)
    tears_so given some write admitted x is =
        let so : happens s w (Tear given) ≡ after w (Stopped d call x.disk) =
        tears s w d call due given some write admitted ∙ ap (λ (y : SimState). after w (Stopped d call y.disk)) (sym is) in
        leads_by s events (Tear given) None (set sims d x) leads.fits
        (ap (λ (y : Migration). y.progress.failed) so)
        (subst (λ (y : Migration). AreDisks s y (set sims d x)) (sym so) (shows_with s w sims d x (given_up w.progress) leads.shows below (is ∙ ap (λ (y : SimState). calm y.disk) (sym is))))

-- EVENTS OF A DISK

brings_not : (t : Bool) (entry : Option Entry) → (t ≡ true → ⊥) → brings_if t entry ≡ None
brings_not true entry never = absurd (never refl)
brings_not false entry never = refl

-- no bytes are given
pub no_bytes : (given : List ℕ) (entry : Option Entry) → (length given == 0) ≡ true → brings_if (are_some given) entry ≡ None
no_bytes given entry none = brings_not (are_some given) entry (λ some. absurd (let a = eqb-true (length given) 0 none in let b = ltb-true 0 (length given) some in omega (arith, a, b)))

pub some_bytes : (given : List ℕ) → (length given == 0) ≡ false → 0 < length given
some_bytes given some = let other = eqb-false (length given) 0 some in omega arith

there : (gone : Bool) → not gone ≡ true → gone ≡ false
there true is = absurd (cc)
there false is = refl

-- when a disk crashes
pub record MayCrash (s : Setup) (w : Migration) (d : ℕ) (given : List ℕ) : Type 0 where
  pub some : 0 < length given
  pub below : d < s.disks
  pub gone : (w.disk d).gone ≡ false
  pub boot : (w.disk d).boot < 2 ^ 62

module _ (s : Setup) (w : Migration) (d : ℕ) where
  has : has_disk s w d ≡ true → (d < s.disks) × ((w.disk d).gone ≡ false)
  has is = let parts = and_parts (nat_lt d s.disks) (not (w.disk d).gone) is in (ltb-true d s.disks parts.0, there (w.disk d).gone parts.1)

  has_so : d < s.disks → (w.disk d).gone ≡ false → has_disk s w d ≡ true
  has_so below gone = and_from (nat_lt d s.disks) (not (w.disk d).gone) (lt-ltb d s.disks below) (ap not gone)

  may_crash : (given : List ℕ) → are_some given && has_disk s w d && nat_lt (w.disk d).boot (2 ^ 62) ≡ true → MayCrash s w d given
  may_crash given is =
      let outer = and_parts (are_some given && has_disk s w d) (nat_lt (w.disk d).boot (2 ^ 62)) is in
      let inner = and_parts (are_some given) (has_disk s w d) outer.0 in
      let here = has inner.1 in
      record { some = ltb-true 0 (length given) inner.0; below = here.0; gone = here.1; boot = ltb-true (w.disk d).boot (2 ^ 62) outer.1 }

  pub no_crash : (given : List ℕ) → (MayCrash s w d given → ⊥) → entry_of s w (DiskCrash d given) ≡ None
  no_crash given never = brings_not (are_some given && has_disk s w d && nat_lt (w.disk d).boot (2 ^ 62)) (Some (Crashed d (crashed (w.disk d) given))) (λ is. never (may_crash given is))

  crash_happens : (given : List ℕ) → MayCrash s w d given → happens s w (DiskCrash d given) ≡ after w (Crashed d (crashed (w.disk d) given))
  crash_happens given may =
      ap (λ (t : Bool). after_any w (brings_if t (Some (Crashed d (crashed (w.disk d) given)))))
      (and_from (are_some given && has_disk s w d) (nat_lt (w.disk d).boot (2 ^ 62))
      (and_from (are_some given) (has_disk s w d) (lt-ltb 0 (length given) may.some) (has_so may.below may.gone))
      (lt-ltb (w.disk d).boot (2 ^ 62) may.boot))

  pub no_loss : (d < s.disks → (w.disk d).gone ≡ false → ⊥) → entry_of s w (DiskGone d) ≡ None
  no_loss never = brings_not (has_disk s w d) (Some (Lost d)) (λ is. let here = has is in never here.0 here.1)

  loss_happens : d < s.disks → (w.disk d).gone ≡ false → happens s w (DiskGone d) ≡ after w (Lost d)
  loss_happens below gone = ap (λ (t : Bool). after_any w (brings_if t (Some (Lost d)))) (has_so below gone)

module _ (s : Setup) (events : List Event) (m : Option Notes) (sims : List SimState) (leads : LeadsTo s events m sims) (d : ℕ) (below : d < s.disks) where
  pub crashes_so : (given : List ℕ) → 0 < length given → ((run s events).disk d).gone ≡ false → ((run s events).disk d).boot < 2 ^ 62 → (x : SimState) → x ≡ calm (crashed ((run s events).disk d) given)
      → LeadsTo s (events ++ DiskCrash d given ∷ []) m (set sims d x)
  crashes_so given some gone boot x is =
      let now = run s events in
      let so : happens s now (DiskCrash d given) ≡ after now (Crashed d x.disk) =
      crash_happens s now d given (record { some = some; below = below; gone = gone; boot = boot }) ∙ ap (λ (y : SimState). after now (Crashed d y.disk)) (sym is) in
      leads_by s events (DiskCrash d given) m (set sims d x) leads.fits
      (subst (λ (y : Migration). HasCome s y.progress m) (sym so) leads.comes)
      (subst (λ (y : Migration). AreDisks s y (set sims d x)) (sym so) (shows_with s now sims d x now.progress leads.shows below (is ∙ ap (λ (y : SimState). calm y.disk) (sym is))))

  pub loses_so : ((run s events).disk d).gone ≡ false → (x : SimState) → x ≡ calm (lost ((run s events).disk d)) → LeadsTo s (events ++ DiskGone d ∷ []) m (set sims d x)
  loses_so gone x is =
      let now = run s events in
      let so : happens s now (DiskGone d) ≡ after now (Lost d) = loss_happens s now d below gone in
      leads_by s events (DiskGone d) m (set sims d x) leads.fits
      (subst (λ (y : Migration). HasCome s y.progress m) (sym so) leads.comes)
      (subst (λ (y : Migration). AreDisks s y (set sims d x)) (sym so)
      (subst (λ (y : DiskState). AreDisks s (record { disk = with_disk now.disk d y; progress = now.progress }) (set sims d x)) (ap (λ (y : SimState). y.disk) is)
      (shows_with s now sims d x now.progress leads.shows below (is ∙ ap (λ (y : SimState). calm y.disk) (sym is)))))

-- WHAT THE CODE KNOWS

end_found : (end : Option End) → is_some end ≡ true → (e : End) × (end ≡ Some e)
end_found None is = absurd (cc)
end_found (Some e) is = (e, refl)

-- where no migrator is left, nothing is due
pub none_due : (s : Setup) (events : List Event) (m : Option Notes) (sims : List SimState) → m ≡ None → LeadsTo s events m sims → next (run s events).progress ≡ None
none_due s events m sims is leads = next_stopped (run s events).progress (subst (HasCome s (run s events).progress) is leads.comes)

-- a place of the disks is a disk
pub disk_is : (s : Setup) (w : Migration) (sims : List SimState) (d i : ℕ) (x : SimState) → AreDisks s w sims → i ≡ d → d < s.disks → x ≡ slice_index_or sims i x → x ≡ calm (w.disk d)
disk_is s w sims d i x shows same below is = is ∙ ap (λ (k : ℕ). slice_index_or sims k x) same ∙ shows.each d x below

module _ (s : Setup) (events : List Event) (n : Notes) (sims : List SimState) (leads : LeadsTo s events (Some n) sims) where
  -- a migrator that has ended asks for nothing
  pub over_due : (end : Option End) → ((answers : List Answer) → kept.LeadsTo s answers n → end ≡ end_by (heard (at_first s) answers)) → is_some end ≡ true → next (run s events).progress ≡ None
  over_due end by is =
      let (e, found) = end_found end is in
      next_over (run s events).progress e (ap end_by (sym leads.comes.comes) ∙ sym (by leads.comes.answers leads.comes.leads) ∙ found)

  -- what it asks for is next
  pub due_next : (need : ℕ × Call) → ((answers : List Answer) → kept.LeadsTo s answers n → next (heard (at_first s) answers) ≡ Some need) → next (run s events).progress ≡ Some need
  due_next need by = ap next (sym leads.comes.comes) ∙ by leads.comes.answers leads.comes.leads

  pub disk_below : (d : ℕ) → d < n.config.disks → d < s.disks
  disk_below d below = omega (arith, below, ap (λ (t : Setup). t.disks) leads.comes.leads.of)

  pub long_disk : (d i : ℕ) (x : SimState) → i ≡ d → d < n.config.disks → x ≡ slice_index_or sims i x → image_length cluster_version n.config.slots ≡ length x.disk.bytes
  long_disk d i x same below is =
      let now : x ≡ calm ((run s events).disk d) = disk_is s (run s events) sims d i x leads.shows same (disk_below d below) is in
      let long = ((runs_hold s (fits_images s leads.fits) events).shape d).1 in
      ap (λ (t : Setup). image_length cluster_version t.slots) leads.comes.leads.of ∙ sym long ∙ ap (λ (y : SimState). length y.disk.bytes) (sym now)

-- THE DISKS AT THE END

pub all_or_nothing_in : (s : Setup) (w : Migration) (sims : List SimState) → AreDisks s w sims → IsAllOrNothing s w.disk → IsAllOrNothing s (disk_in sims)
all_or_nothing_in s w sims shows (inl none) =
    inl (λ d below formatted. none d below (subst (λ (y : SimState). IsFormatted y.disk.bytes) (shows.each d (calm (fresh_disk 0)) below) formatted))
all_or_nothing_in s w sims shows (inr all) =
    inr (λ d below. ap (λ (y : SimState). drop 1 y.disk.bytes) (shows.each d (calm (fresh_disk 0)) below) ∙ all d below)
