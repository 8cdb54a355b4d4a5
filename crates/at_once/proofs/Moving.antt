-- The calls of a migration on disks of any type are entries of a migration of the model, over the first positions of each disk.
use Rattle.std.specs.Prelude.{slice_get, slice_set, slice_index_or, if◌then◌else◌, option_map}
use Rattle.std.proofs.Common.{◌≡◌, ◌+◌, ◌≤◌, ◌<◌, ◌==◌, ℕ, zero, suc, Bool, true, false, Option, Some, None, List, [], ◌∷◌, ◌++◌, length, map, take, drop, replicate, refl, sym, subst, ap, ◌∙◌, append_assoc, inl, inr, arith}
use Rattle.std.proofs.lemmas.Grind.{common_steps}
use Rattle.std.proofs.lemmas.List.{length-append, length-take-le, take-take}
use Rattle.std.proofs.lemmas.Bool.{cases_eq, cond-true, cond-false, eq-eqb, ne_eqb}
use Rattle.disk.specs.declared.fault.DiskFault.{DiskFault}
use Rattle.disk.specs.Disk.{DiskState, Call, Attach, Read, Write, Sync, Answer, Booted, Told, Done, Fault, IsUnder, Step, done_by}
use Rattle.disk.specs.Crash.{MayLeave}
use Rattle.disk.specs.Cut.{cut, HasFirst, IsInFirst}
use Rattle.disk.specs.Simulated.{fresh_disk, refusal_of, refusal_under}
use Rattle.disk.proofs.CutLemmas.{cut_steps, first_stay, first_of_fresh}
use Rattle.torn_block.specs.Layout.{cluster_version}
use Rattle.paxos_block.specs.Headers.{IsFormatted}
use Rattle.paxos_block.specs.Places.{image_length}
use Rattle.migration.specs.Events.{Step as StepEvent, answered_by, stepped, after_any, happens, happen, run}
use Rattle.migration.specs.Fits.{Fits}
use Rattle.migration.specs.Heard.{Progress, at_first, answered, heard, hears, next, next_in}
use Rattle.paxos_block.specs.Image.{Setup}
use Rattle.migration.specs.Plan.{Kind, Attaching, Putting, Syncing, Opening, Due, on, fills, filling, opening, each, schedule, call_of}
use Rattle.migration.specs.Run.{Migration, Called, with_disk, after, begun, IsAllOrNothing, IsMigrated}
use Rattle.migration.specs.declared.end.End.TheVariants.{Migrated}
use Rattle.migration.proofs.Ending.{ends}
use Rattle.migration.proofs.Filling.{IsTodo, IsAllOrNone, Stands, Holds, after_each, holds_at_first, all_or_nothing}
use Rattle.migration.proofs.Fitting.{fits_images, length-schedule}
use Rattle.migration.proofs.Going.{heard-append}
use Rattle.migration.proofs.Happening.{by_image}
use Rattle.migration.proofs.Outcomes.{good_or_bad, all_with}
use Rattle.lock_command.specs.declared.command.Command.{Command}
use Rattle.lock_command.specs.Command.{spelling}
use Rattle.dlm_images.specs.Operations.{Made, GaveOne}
use Rattle.folder_migration.specs.Moving.{Makes, none, more, HasMoved, IsWell, AllWell}
use Rattle.folder_migration.proofs.Calling.{ends_well, all_made}
use Rattle.at_once.specs.Beginnings.{AreFresh, HaveLostPower, firsts, MakesAllOrNothing, PowerLeavesAllOrNothing, MovedIsWhole, MovedHoldsLog}
use Rattle.at_once.specs.Disks.{MakesSteps}
use Rattle.at_once.specs.Images.{headless, HoldsLog}
use Rattle.at_once.specs.Power.{LosesPower}
use Rattle.at_once.proofs.Clearing.{IsFine, fine_stays}
use Rattle.at_once.proofs.Headless.{same_taken}
use Rattle.at_once.proofs.Migrated.{migrated_holds_log}
use Rattle.at_once.proofs.Serving.{set_here, set_there}

-- LISTS

module _ {A : Type 0} where
  length-set_one : (xs : List A) (k : ℕ) (x : A) → length (slice_set xs k x) ≡ length xs
  length-set_one [] k x = refl
  length-set_one (y ∷ xs) zero x = refl
  length-set_one (y ∷ xs) (suc k) x = ap (λ (n : ℕ). suc n) (length-set_one xs k x)

  at_place : (xs : List A) (k : ℕ) → k < length xs → (x : A) × (slice_get xs k ≡ Some x)
  at_place [] k below = absurd (omega (arith, below))
  at_place (x ∷ xs) zero below = (x, refl)
  at_place (x ∷ xs) (suc k) below = at_place xs k (omega (arith, below))

  place_below : (xs : List A) (k : ℕ) (x : A) → slice_get xs k ≡ Some x → k < length xs
  place_below [] k x is = absurd (cc)
  place_below (y ∷ xs) zero x is = omega arith
  place_below (y ∷ xs) (suc k) x is = omega (arith, place_below xs k x is)

read_there : {D : Type 0} (state : D → DiskState) (xs : List D) (k : ℕ) (x : D) → slice_get xs k ≡ Some x → slice_index_or (map state xs) k (fresh_disk 0) ≡ state x
read_there state [] k x is = absurd (cc)
read_there state (y ∷ xs) zero x is = let same : y ≡ x = cc in ap state same
read_there state (y ∷ xs) (suc k) x is = read_there state xs k x is

well_parts : (answers : List Answer) (last : Answer) → AllWell (answers ++ last ∷ []) → AllWell answers × IsWell last
well_parts [] last well = (tt, well.0)
well_parts (first ∷ answers) last well = let rest = well_parts answers last well.1 in ((well.0, rest.0), rest.1)

-- A CALL THAT IS ANSWERED WELL

none_under : (disk : DiskState) (boot : ℕ) → disk.gone ≡ false → boot ≡ disk.boot → refusal_under disk boot ≡ None
none_under disk boot there same = grind (arith, common_steps)

not_refused : (disk : DiskState) (call : Call) → disk.gone ≡ false → IsUnder call disk.boot → refusal_of disk call ≡ None
not_refused disk Attach there under = none_under disk disk.boot there refl
not_refused disk (Read boot at len) there under = none_under disk boot there under
not_refused disk (Write boot at from) there under = none_under disk boot there under
not_refused disk (Sync boot) there under = none_under disk boot there under

module _ (s : Setup) where
  -- it is what happens where no call fails
  well_steps : (w : Migration) (d : ℕ) (call : Call) (answer : Answer) (new : DiskState) → next w.progress ≡ Some (d, call) → (w.disk d).gone ≡ false → IsWell answer → Step (w.disk d) call answer new
      → happens s w StepEvent ≡ after w (Called d call answer new)
  well_steps w d call answer new due there well step =
      elim (good_or_bad (w.disk d) call answer new step) [
        | inl (fault, bad) ↦ absurd (subst IsWell bad well)
        | inr good ↦
            ap (λ (o : Option (ℕ × Call)). after_any w (option_map (stepped w) o)) due
            ∙ ap (λ (r : Option DiskFault). after w (answered_by d (w.disk d) call r)) (not_refused (w.disk d) call there good.under)
            ∙ ap (λ (a : Answer). after w (Called d call a (done_by (w.disk d) call))) (sym good.answer_is)
            ∙ ap (λ (x : DiskState). after w (Called d call answer x)) (sym good.new_is)
      ]

  step_more : (n : ℕ) (w : Migration) → happens s (happen s w (replicate n StepEvent)) StepEvent ≡ happen s w (replicate (suc n) StepEvent)
  step_more zero w = refl
  step_more (suc n) w = step_more n (happens s w StepEvent)

-- A LOSS OF POWER

-- the first positions lose it, too
cut_may : (n : ℕ) (old new : DiskState) → HasFirst n old → LosesPower old new → MayLeave (cut n old) (take n new.bytes)
cut_may n old new has power =
    let as_many = power.bytes.as_many in
    let old_long : length (take n old.bytes) ≡ n = length-take-le n old.bytes has.0 in
    let new_long : length (take n new.bytes) ≡ n = length-take-le n new.bytes (omega (arith, as_many, has.0)) in
    record {
      as_many = new_long ∙ sym old_long;
      same = same_taken n old.unsynced old.bytes new.bytes has.1 has.0 (omega (arith, as_many, has.0)) power.bytes.same;
    }

-- WHERE THE CALLS LIE

module _ (s : Setup) where
  abbrev n : ℕ
  n = image_length cluster_version s.slots

  abbrev IsInside : Kind → Type 0
  IsInside Attaching = Unit {0}
  IsInside (Putting put) = put.0 + length put.1 ≤ n
  IsInside Syncing = Unit {0}
  IsInside Opening = Unit {0}

  abbrev AreInside : List Due → Type 0
  AreInside [] = Unit {0}
  AreInside (due ∷ rest) = IsInside due.kind × AreInside rest

  inside_todo : (d : ℕ) (kinds : List Kind) (rest : List Due) → IsTodo n kinds → AreInside rest → AreInside (on d kinds ++ rest)
  inside_todo d [] rest todo inside = absurd todo
  inside_todo d (Attaching ∷ kinds) rest todo inside = absurd todo
  inside_todo d (Opening ∷ kinds) rest todo inside = absurd todo
  inside_todo d (Putting put ∷ kinds) rest todo inside = (todo.1, inside_todo d kinds rest todo.2 inside)
  inside_todo d (Syncing ∷ []) rest todo inside = (tt, inside)
  inside_todo d (Syncing ∷ kind ∷ kinds) rest todo inside = (tt, inside_todo d (kind ∷ kinds) rest todo inside)

  inside_fillings : Fits s → (d k : ℕ) (rest : List Due) → AreInside rest → AreInside (each (filling s) d k ++ rest)
  inside_fillings fits d zero rest inside = inside
  inside_fillings fits d (suc k) rest inside =
      let later = each (filling s) (suc d) k in
      subst AreInside (sym (append_assoc (filling s d) later rest))
      (tt, inside_todo d (fills s d) (later ++ rest) ((fits_images s fits).1 d) (inside_fillings fits (suc d) k rest inside))

  inside_openings : (d k : ℕ) → AreInside (each opening d k)
  inside_openings d zero = tt
  inside_openings d (suc k) = (tt, (tt, inside_openings (suc d) k))

  inside_at_first : Fits s → AreInside (schedule s)
  inside_at_first fits = inside_fillings fits 0 s.disks (each opening 0 s.disks) (inside_openings 0 s.disks)

  answered_inside : (p : Progress) (rest : List Due) (answer : Answer) → AreInside p.rest → AreInside rest → AreInside (answered p rest answer).rest
  answered_inside p [] answer all inside = all
  answered_inside p (due ∷ rest) answer all inside = inside.1

  hears_inside : (p : Progress) (answer : Answer) → AreInside p.rest → AreInside (hears p answer).rest
  hears_inside p (Fault fault) inside = inside
  hears_inside p (Booted boot) inside = answered_inside p p.rest (Booted boot) inside inside
  hears_inside p (Told bytes) inside = answered_inside p p.rest (Told bytes) inside inside
  hears_inside p Done inside = answered_inside p p.rest Done inside inside

  call_inside : (boot : ℕ) (kind : Kind) → IsInside kind → IsInFirst n (call_of boot kind)
  call_inside boot Attaching inside = tt
  call_inside boot (Putting put) inside = inside
  call_inside boot Syncing inside = tt
  call_inside boot Opening inside = omega arith

  next_inside : (p : Progress) (d : ℕ) (call : Call) → AreInside p.rest → next p ≡ Some (d, call) → IsInFirst n call
  next_inside p d call inside is = go p.failed p.rest inside is
    where
      go : (b : Bool) (rest : List Due) → AreInside rest → (if b then None else next_in p rest) ≡ Some (d, call) → IsInFirst n call
      go true rest inside is = absurd (cc)
      go false [] inside is = absurd (cc)
      go false (due ∷ rest) inside is =
          let pair : ◌≡◌ {A = ℕ × Call} (due.disk, call_of (p.boot due.disk) due.kind) (d, call) = cc in
          subst (IsInFirst n) (ap (λ (x : ℕ × Call). x.1) pair) (call_inside (p.boot due.disk) due.kind inside.0)

-- A MIGRATION OF THE MODEL

fresh_fine : (size : ℕ) → IsFine (fresh_disk size)
unfolding fresh_disk
fresh_fine size = (refl, refl)

-- It has heard the same answers, and each of its disks is the first positions of this one. Where all answers were good, no call has failed.
record Follows {D : Type 0} (state : D → DiskState) (s : Setup) (answers : List Answer) (now : List D) : Type 0 where
  w : Migration
  progress : w.progress ≡ heard (at_first s) answers
  holds : Holds s w
  inside : AreInside s w.progress.rest
  fine : (k : ℕ) → IsFine (w.disk k)
  as_many : length now ≡ s.disks
  places : (k : ℕ) (x : D) → slice_get now k ≡ Some x → (cut (image_length cluster_version s.slots) (state x) ≡ w.disk k) × HasFirst (image_length cluster_version s.slots) (state x)
  well : AllWell answers → w ≡ run s (replicate (length answers) StepEvent)

module _ {D : Type 0} (gives : D → Call → Answer → D → Type 0) (state : D → DiskState) (steps : MakesSteps gives state) (s : Setup) (fits : Fits s) where
  abbrev size : ℕ
  size = image_length cluster_version s.slots

  follows_first : (disks : List D) → AreFresh state s disks → Follows state s [] disks
  follows_first disks fresh = record {
    w = begun s;
    progress = refl;
    holds = holds_at_first s (fits_images s fits);
    inside = inside_at_first s fits;
    fine = λ k. fresh_fine size;
    as_many = fresh.as_many;
    places = λ k x is. (fresh.each k x is, first_of_fresh size (state x) (fresh.each k x is));
    well = λ well. refl;
  }

  module _ (answers : List Answer) (now : List D) (f : Follows state s answers now) (x : Made) (due : next (heard (at_first s) answers) ≡ Some (x.disk, x.call)) (new : List D) (gave : GaveOne gives now x new) where
    abbrev left : DiskState
    left = cut size (state gave.after)

    due_now : next f.w.progress ≡ Some (x.disk, x.call)
    due_now = ap next f.progress ∙ due

    lies : IsInFirst size x.call
    lies = next_inside s f.w.progress x.disk x.call f.inside due_now

    step : Step (state gave.before) x.call x.answer (state gave.after)
    step = steps gave.before gave.after x.call x.answer gave.gave

    has : HasFirst size (state gave.before)
    has = (f.places x.disk gave.before gave.is).1

    step_cut : Step (f.w.disk x.disk) x.call x.answer left
    step_cut =
        subst (λ (d : DiskState). Step d x.call x.answer left) (f.places x.disk gave.before gave.is).0
        (cut_steps size (state gave.before) (state gave.after) x.call x.answer has lies step)

    place_then : (k : ℕ) (y : D) → slice_get new k ≡ Some y → (cut size (state y) ≡ with_disk f.w.disk x.disk left k) × HasFirst size (state y)
    place_then k y is =
        let there : slice_get (slice_set now x.disk gave.after) k ≡ Some y = ap (λ (l : List D). slice_get l k) (sym gave.others) ∙ is in
        elim (cases_eq k x.disk) [
          | inl same ↦
              let mine : Some gave.after ≡ Some y = sym (set_here now x.disk gave.before gave.after gave.is) ∙ ap (slice_get (slice_set now x.disk gave.after)) (sym same) ∙ there in
              let own : gave.after ≡ y = cc in (
                ap (λ (d : D). cut size (state d)) (sym own) ∙ sym (cond-true (k == x.disk) left (f.w.disk k) (eq-eqb k x.disk same)),
                subst (λ (d : D). HasFirst size (state d)) own (first_stay size (state gave.before) (state gave.after) x.call x.answer has lies step),
              )
          | inr other ↦
              let was = f.places k y (sym (set_there now x.disk k gave.after (λ e. other (sym e))) ∙ there) in
              (was.0 ∙ sym (cond-false (k == x.disk) left (f.w.disk k) (ne_eqb k x.disk other)), was.1)
        ]

    well_then : AllWell (answers ++ x.answer ∷ []) → after f.w (Called x.disk x.call x.answer left) ≡ run s (replicate (length (answers ++ x.answer ∷ [])) StepEvent)
    well_then well =
        let parts = well_parts answers x.answer well in
        let longer : suc (length answers) ≡ length (answers ++ x.answer ∷ []) = omega (arith, length-append answers (x.answer ∷ [])) in
        sym (well_steps s f.w x.disk x.call x.answer left due_now (f.fine x.disk).1 parts.1 step_cut)
        ∙ ap (λ (w : Migration). happens s w StepEvent) (f.well parts.0)
        ∙ step_more s (length answers) (begun s)
        ∙ ap (λ (k : ℕ). run s (replicate k StepEvent)) longer

    follows_more : Follows state s (answers ++ x.answer ∷ []) new
    follows_more = record {
      w = after f.w (Called x.disk x.call x.answer left);
      progress = ap (λ (p : Progress). hears p x.answer) f.progress ∙ sym (heard-append (at_first s) answers x.answer);
      holds = after_each s (fits_images s fits) f.w f.holds (Called x.disk x.call x.answer left) (due_now, step_cut);
      inside = hears_inside s f.w.progress x.answer f.inside;
      fine = all_with (λ k d. IsFine d) f.w.disk x.disk left (fine_stays (f.w.disk x.disk) left x.call x.answer (f.fine x.disk) step_cut) (λ k ne. f.fine k);
      as_many = ap length gave.others ∙ length-set_one now x.disk gave.after ∙ f.as_many;
      places = place_then;
      well = well_then;
    }

  follows : (old : List D) → AreFresh state s old → (answers : List Answer) (now : List D) → Makes gives s old answers now → Follows state s answers now
  follows old fresh answers now none = follows_first old fresh
  follows old fresh answers now (more before between makes x due new gave) = follows_more before between (follows old fresh before between makes) x due new gave

  -- WHAT IS LEFT

  module _ (answers : List Answer) (now : List D) (f : Follows state s answers now) where
    shown : (k : ℕ) → k < s.disks → firsts size state now k ≡ f.w.disk k
    shown k below =
        let (x, is) = at_place now k (omega (arith, below, f.as_many)) in
        ap (cut size) (read_there state now k x is) ∙ (f.places k x is).0

    all_or_none : IsAllOrNothing s f.w.disk → IsAllOrNothing s (firsts size state now)
    all_or_none (inl shut) = inl (λ k below formatted. shut k below (subst (λ (d : DiskState). IsFormatted d.bytes) (shown k below) formatted))
    all_or_none (inr all) = inr (λ k below. ap (λ (d : DiskState). drop 1 d.bytes) (shown k below) ∙ all k below)

    -- whatever a crash then leaves
    after_crash : (images : ℕ → DiskState) → ((k : ℕ) → k < s.disks → MayLeave (f.w.disk k) (images k).bytes) → Stands s f.w.disk f.w.progress → IsAllOrNone s images
    after_crash images may (inl filling) = inl (λ k below formatted. let shut = filling.shut k (images k).bytes (may k below) in absurd (omega (arith, shut, formatted)))
    after_crash images may (inr (inl opening)) = inr (λ k below. opening.1 k below (images k).bytes (may k below))
    after_crash images may (inr (inr (failed, inl shuts))) = inl (λ k below formatted. let shut = shuts k (images k).bytes (may k below) in absurd (omega (arith, shut, formatted)))
    after_crash images may (inr (inr (failed, inr full))) = inr (λ k below. full k below (images k).bytes (may k below))

    may_leave : (images : List DiskState) → HaveLostPower state now images → (k : ℕ) → k < s.disks → MayLeave (f.w.disk k) (firsts size (λ image. image) images k).bytes
    may_leave images power k below =
        let (x, is) = at_place now k (omega (arith, below, f.as_many)) in
        let (image, there) = at_place images k (omega (arith, below, f.as_many, power.as_many)) in
        let here = f.places k x is in
        subst (λ (d : DiskState). MayLeave (f.w.disk k) d.bytes) (sym (ap (cut size) (read_there (λ image. image) images k image there)))
        (subst (λ (d : DiskState). MayLeave d (take size image.bytes)) here.0 (cut_may size (state x) image here.1 (power.each k x image is there)))

    dark_so : (images : List DiskState) → HaveLostPower state now images → IsAllOrNothing s (firsts size (λ image. image) images)
    dark_so images power = by_image s (firsts size (λ image. image) images) fits (after_crash (firsts size (λ image. image) images) (may_leave images power) f.holds.stands)

    left_so : IsAllOrNothing s (firsts size state now)
    left_so = all_or_none (by_image s f.w.disk fits (all_or_nothing s f.w.disk f.w.progress f.holds.stands))

  module _ (old new : List D) (fresh : AreFresh state s old) (moved : HasMoved gives s old new Migrated) where
    f : Follows state s moved.answers new
    f = follows old fresh moved.answers new moved.makes

    ended : f.w ≡ run s (replicate (length (schedule s)) StepEvent)
    ended =
        let well : AllWell moved.answers = (ends_well s moved.answers Migrated moved.history moved.ended).0 refl in
        f.well well ∙ ap (λ (k : ℕ). run s (replicate k StepEvent)) (all_made s moved.answers moved.history moved.ended ∙ sym (length-schedule s))

    whole : (k : ℕ) → k < s.disks → IsMigrated s k (f.w.disk k)
    whole k below = subst (λ (w : Migration). IsMigrated s k (w.disk k)) (sym ended) ((ends s fits).disks k below)

    whole_there : (k : ℕ) → k < s.disks → IsMigrated s k (firsts size state new k)
    whole_there k below = subst (IsMigrated s k) (sym (shown moved.answers new f k below)) (whole k below)

    holds_log : (commands : List Command) → s.log ≡ map spelling commands → (k : ℕ) (x : D) → slice_get new k ≡ Some x → HoldsLog s.slots commands (state x)
    holds_log commands log k x is =
        let here = (f.places k x is).0 in
        let below : k < s.disks = omega (arith, place_below new k x is, f.as_many) in
        let disk = state x in
        let twice : cut size disk ≡ cut size (cut size disk) =
        λ i. record { bytes = sym (take-take size size disk.bytes (omega arith)) i; unsynced = sym (take-take size size disk.unsynced (omega arith)) i; boot = disk.boot; gone = disk.gone } in
        ap headless twice
        ∙ migrated_holds_log s k commands (cut size disk) fits log (subst (IsMigrated s k) (sym here) (whole k below))
        (ap (λ (d : DiskState). d.boot) here ∙ (f.fine k).0) (ap (λ (d : DiskState). d.gone) here ∙ (f.fine k).1)

module _ {D : Type 0} (gives : D → Call → Answer → D → Type 0) (state : D → DiskState) where
  pub makes_all_or_nothing : MakesAllOrNothing gives state
  makes_all_or_nothing steps s old new answers fits fresh makes = left_so gives state steps s fits answers new (follows gives state steps s fits old fresh answers new makes)

  pub power_leaves_all_or_nothing : PowerLeavesAllOrNothing gives state
  power_leaves_all_or_nothing steps s old new answers fits fresh makes images power = dark_so gives state steps s fits answers new (follows gives state steps s fits old fresh answers new makes) images power

  pub moved_is_whole : MovedIsWhole gives state
  moved_is_whole steps s old new values fresh moved k below = whole_there gives state steps s (record { room = moved.room; values = values }) old new fresh moved k below

  pub moved_holds_log : MovedHoldsLog gives state
  moved_holds_log steps s commands old new values log fresh moved k disk is = holds_log gives state steps s (record { room = moved.room; values = values }) old new fresh moved commands log k disk is
