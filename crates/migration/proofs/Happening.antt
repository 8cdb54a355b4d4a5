-- Each event brings an entry that may happen, or none.
use Rattle.std.proofs.Common.{ℕ, ◌≡◌, Bool, true, false, Option, Some, None, List, [], ◌∷◌, length, inl, inr, refl, sym, subst, ◌∙◌, arith}
use Rattle.std.specs.Prelude.{option_map, option_and_then}
use Rattle.std.proofs.lemmas.Grind.{common_steps}
use Rattle.disk.specs.declared.fault.DiskFault.{DiskFault}
use Rattle.disk.specs.declared.fault.DiskFault.TheVariants.{Reset, Failed, Gone}
use Rattle.disk.specs.Disk.{DiskState, Call, Attach, Read, Write, Sync, Fault, Step as StepOf, IsUnder, Torn, Crashes, success_of, done_by}
use Rattle.disk.specs.Crash.{IsWhole}
use Rattle.disk.specs.Filling.{spread}
use Rattle.disk.specs.Simulated.{refusal_of, refusal_under, failed_by, filling, crashed}
use Rattle.disk.proofs.FillingLemmas.{length-spread, filled_keeps}
use Rattle.disk.proofs.RefusalLemmas.{admitted}
use Rattle.migration.specs.Heard.{next}
use Rattle.paxos_block.specs.Image.{Setup}
use Rattle.migration.specs.Events.{Event, Step, Tear, FailCall, DiskCrash, DiskGone, answered_by, stepped, failed_call, failed, torn_call, torn, brings_if, entry_of, after_any, happens, happen, run}
use Rattle.migration.specs.Run.{Migration, Entry, Called, Stopped, Crashed, Lost, MayHappen, begun, IsAllOrNothing}
use Rattle.migration.specs.Fits.{Fits}
use Rattle.migration.proofs.Fitting.{fits_images}
use Rattle.migration.proofs.Puts.{tails_are}
use Rattle.migration.proofs.Filling.{FitsImages, IsAllOrNone, Holds, after_each, holds_at_first, all_or_nothing}

-- A CALL

lost_told : (disk : DiskState) (boot : ℕ) → refusal_under disk boot ≡ Some Gone → disk.gone ≡ true
lost_told disk boot is = grind (arith, common_steps)

old_told : (disk : DiskState) (boot : ℕ) → refusal_under disk boot ≡ Some Reset → (disk.gone ≡ false) × (boot ≡ disk.boot → ⊥)
old_told disk boot is = grind (arith, common_steps)

none_failed : (disk : DiskState) (boot : ℕ) → refusal_under disk boot ≡ Some Failed → ⊥
none_failed disk boot is = grind (arith, common_steps)

-- nothing stands in its way: it is under its disk's boot number, and the disk is there
under : (disk : DiskState) (call : Call) → refusal_of disk call ≡ None → (disk.gone ≡ false) × IsUnder call disk.boot
under disk Attach none = ((admitted disk disk.boot (sym none)).0, tt)
under disk (Read boot at len) none = admitted disk boot (sym none)
under disk (Write boot at from) none = admitted disk boot (sym none)
under disk (Sync boot) none = admitted disk boot (sym none)

succeeds : (disk : DiskState) (call : Call) → refusal_of disk call ≡ None → StepOf disk call (success_of disk call) (done_by disk call)
succeeds disk Attach none = let u = under disk Attach none in (u.0, u.1, (refl, refl))
succeeds disk (Read boot at len) none = let u = under disk (Read boot at len) none in (u.0, u.1, (refl, refl))
succeeds disk (Write boot at from) none = let u = under disk (Write boot at from) none in (u.0, u.1, (refl, refl))
succeeds disk (Sync boot) none = let u = under disk (Sync boot) none in (u.0, u.1, (refl, refl))

refused_under : (disk : DiskState) (boot : ℕ) (call : Call) (fault : DiskFault) → (IsUnder call disk.boot → boot ≡ disk.boot) → refusal_under disk boot ≡ Some fault → StepOf disk call (Fault fault) disk
refused_under disk boot call Gone same is = (lost_told disk boot is, refl)
refused_under disk boot call Reset same is = let old = old_told disk boot is in (old.0, λ u. old.1 (same u), refl)
refused_under disk boot call Failed same is = absurd (none_failed disk boot is)

refused : (disk : DiskState) (call : Call) (fault : DiskFault) → refusal_of disk call ≡ Some fault → StepOf disk call (Fault fault) disk
refused disk Attach fault is = refused_under disk disk.boot Attach fault (λ u. refl) is
refused disk (Read boot at len) fault is = refused_under disk boot (Read boot at len) fault (λ u. u) is
refused disk (Write boot at from) fault is = refused_under disk boot (Write boot at from) fault (λ u. u) is
refused disk (Sync boot) fault is = refused_under disk boot (Sync boot) fault (λ u. u) is

tears : (disk : DiskState) (at n : ℕ) (given : List ℕ) → Torn at n disk (filling disk at n given)
tears disk at n given = record { left = spread given 0 n; as_many = length-spread given 0 n; leaves = refl }

fails : (disk : DiskState) (call : Call) (given : List ℕ) → refusal_of disk call ≡ None → StepOf disk call (Fault Failed) (failed_by disk call given)
fails disk Attach given none = let u = under disk Attach none in (u.0, u.1, refl)
fails disk (Read boot at len) given none = let u = under disk (Read boot at len) none in (u.0, u.1, refl)
fails disk (Write boot at from) given none = let u = under disk (Write boot at from) none in (u.0, u.1, tears disk at (length from) given)
fails disk (Sync boot) given none = let u = under disk (Sync boot) none in (u.0, u.1, refl)

pub crashes : (disk : DiskState) (given : List ℕ) → IsWhole disk → Crashes disk (crashed disk given)
crashes disk given whole = record { bytes = filled_keeps given 0 disk.unsynced disk.bytes whole; unsynced = refl; boot = refl; gone = refl }

-- AN EVENT

module _ (w : Migration) (d : ℕ) (call : Call) (due : next w.progress ≡ Some (d, call)) where
  stepped_may : (r : Option DiskFault) (e : Entry) → refusal_of (w.disk d) call ≡ r → Some (answered_by d (w.disk d) call r) ≡ Some e → MayHappen w e
  stepped_may None e none is = let same : answered_by d (w.disk d) call None ≡ e = cc in subst (MayHappen w) same (due, succeeds (w.disk d) call none)
  stepped_may (Some fault) e some is = let same : answered_by d (w.disk d) call (Some fault) ≡ e = cc in subst (MayHappen w) same (due, refused (w.disk d) call fault some)

  failed_may : (given : List ℕ) (r : Option DiskFault) (e : Entry) → refusal_of (w.disk d) call ≡ r → failed_call d (w.disk d) call given r ≡ Some e → MayHappen w e
  failed_may given None e none is = let same : Called d call (Fault Failed) (failed_by (w.disk d) call given) ≡ e = cc in subst (MayHappen w) same (due, fails (w.disk d) call given none)
  failed_may given (Some fault) e some is = absurd (cc)

torn_may : (w : Migration) (d : ℕ) (call : Call) → next w.progress ≡ Some (d, call) → (given : List ℕ) (r : Option DiskFault) (e : Entry) → refusal_of (w.disk d) call ≡ r → torn_call d (w.disk d) call given r ≡ Some e → MayHappen w e
torn_may w d (Write boot at from) due given None e none is =
    let same : Stopped d (Write boot at from) (filling (w.disk d) at (length from) given) ≡ e = cc in
    let u = under (w.disk d) (Write boot at from) none in
    subst (MayHappen w) same (due, (u.0, u.1, tears (w.disk d) at (length from) given))
torn_may w d (Write boot at from) due given (Some fault) e some is = absurd (cc)
torn_may w d Attach due given r e some is = absurd (cc)
torn_may w d (Read boot at len) due given r e some is = absurd (cc)
torn_may w d (Sync boot) due given r e some is = absurd (cc)

-- an entry that is brought only where something is so
brought : (b : Bool) (entry : Option Entry) (e : Entry) → brings_if b entry ≡ Some e → entry ≡ Some e
brought true entry e is = is
brought false entry e is = absurd (cc)

module _ (s : Setup) where
  pub may_happen : (w : Migration) (event : Event) (e : Entry) → Holds s w → entry_of s w event ≡ Some e → MayHappen w e
  may_happen w Step e holds is = go (next w.progress) refl is
    where
      go : (o : Option (ℕ × Call)) → next w.progress ≡ o → option_map (stepped w) o ≡ Some e → MayHappen w e
      go None due none = absurd (cc)
      go (Some (d, call)) due some = stepped_may w d call due (refusal_of (w.disk d) call) e refl some
  may_happen w (Tear given) e holds is = go (next w.progress) refl (brought _ _ e is)
    where
      go : (o : Option (ℕ × Call)) → next w.progress ≡ o → option_and_then (torn w given) o ≡ Some e → MayHappen w e
      go None due none = absurd (cc)
      go (Some (d, call)) due some = torn_may w d call due given (refusal_of (w.disk d) call) e refl some
  may_happen w (FailCall given) e holds is = go (next w.progress) refl (brought _ _ e is)
    where
      go : (o : Option (ℕ × Call)) → next w.progress ≡ o → option_and_then (failed w given) o ≡ Some e → MayHappen w e
      go None due none = absurd (cc)
      go (Some (d, call)) due some = failed_may w d call due given (refusal_of (w.disk d) call) e refl some
  may_happen w (DiskCrash d given) e holds is =
      let some : ◌≡◌ {A = Option Entry} (Some (Crashed d (crashed (w.disk d) given))) (Some e) = brought _ _ e is in
      let same : Crashed d (crashed (w.disk d) given) ≡ e = cc in
      subst (MayHappen w) same (crashes (w.disk d) given (holds.shape d).0)
  may_happen w (DiskGone d) e holds is =
      let some : ◌≡◌ {A = Option Entry} (Some (Lost d)) (Some e) = brought _ _ e is in
      let same : Lost d ≡ e = cc in
      subst (MayHappen w) same tt

  -- so what stands, stands through all events
  happens_holds : FitsImages s → (w : Migration) (event : Event) → Holds s w → Holds s (happens s w event)
  happens_holds fits w event holds = go (entry_of s w event) refl
    where
      go : (o : Option Entry) → entry_of s w event ≡ o → Holds s (after_any w o)
      go None is = holds
      go (Some e) is = after_each s fits w holds e (may_happen w event e holds is)

  happen_holds : FitsImages s → (w : Migration) (events : List Event) → Holds s w → Holds s (happen s w events)
  happen_holds fits w [] holds = holds
  happen_holds fits w (event ∷ events) holds = happen_holds fits (happens s w event) events (happens_holds fits w event holds)

  pub runs_hold : FitsImages s → (events : List Event) → Holds s (run s events)
  runs_hold fits events = happen_holds fits (begun s) events (holds_at_first s fits)

-- what the writes make is the image, but for its gate
pub by_image : (s : Setup) (disk : ℕ → DiskState) → Fits s → IsAllOrNone s disk → IsAllOrNothing s disk
by_image s disk fits (inl none) = inl none
by_image s disk fits (inr all) = inr (λ d below. all d below ∙ tails_are s d fits)

pub runs_migrate : (s : Setup) → Fits s → (events : List Event) → IsAllOrNothing s (run s events).disk
runs_migrate s fits events =
    let w = run s events in
    by_image s w.disk fits (all_or_nothing s w.disk w.progress (runs_hold s (fits_images s fits) events).stands)
