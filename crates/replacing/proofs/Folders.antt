-- What is done to images behind their headers, and a new image that the tool puts, is done to what hosts use of them.
use Rattle.std.proofs.Common.{ℕ, ◌≡◌, ◌==◌, ◌+◌, ◌≤◌, Bool, true, false, cond, true≢false, List, [], ◌∷◌, ◌++◌, length, sym, ◌∙◌, ap, subst, refl, inl, inr}
use Rattle.std.proofs.lemmas.Bool.{cases_Bool, eqb-true}
use Rattle.disk.specs.Disk.{DiskState, Call, Attach, Read, Write, Sync, Crashes as CrashesTo}
use Rattle.disk.specs.Simulated.{fresh_disk}
use Rattle.disk.proofs.StepLemmas.{shape_fresh}
use Rattle.torn_block.specs.Layout.{cluster_version}
use Rattle.paxos_block.specs.Places.{image_length}
use Rattle.paxos_block.specs.Shape.{Shape}
use Rattle.standings.specs.Epochs.{epoch_of, base_of}
use Rattle.standings.specs.Reading.{moved}
use Rattle.world.specs.World.{Tears}
use Rattle.at_once.specs.Images.{used}
use Rattle.at_once.specs.Power.{LosesPower}
use Rattle.at_once.proofs.Headless.{Lies, IsThere, used_steps, there_after, used_tears, there_torn, used_crashes, there_crashed, there_begun}
use Rattle.epochs.specs.Acts.{IsModelCrash}
use Rattle.epoch_deeds.specs.Deeds.{Calls, CallsIn, Starts, Begins, Stops}
use Rattle.epoch_deeds.specs.Knowing.{image_of}
use Rattle.epoch_runs.specs.World.{Entry, Does, Breaks, BreaksIn, Ends, Crashes, Loses, Replaces, World, opening, no_deeds, with_disk, with_first, disks_after, deeds_after, firsts_after, called_after, after, Crashing, model_crashes, power_losses, MayFollow}
use Rattle.epochs_at_once.specs.AtOnce.{is_of, of_host, MayDoNext, DoesAlone}
use Rattle.epochs_at_once.specs.Images.{slots_of, IsBlank, AllReadBehind}
use Rattle.epochs_at_once.proofs.Behind.{LiesBehind, WritesBehind, CallsBehind, all_behind}
use Rattle.epochs_at_once.proofs.Parting.{own_more, other_more}
use Rattle.in_place.specs.declared.replace_epoch.EpochsTold.{EpochsTold}
use Rattle.in_place.specs.declared.replace_image.NewImage.{NewImage}
use Rattle.replacing.specs.ByTool.{IsReplacedByTool, IsReadFrom, entries_of, world_by}
use Rattle.replacing.specs.Folders.{opening_on, used_world, put_world, ComesOn, opens, goes, puts, FoldersHaveOneLog, FoldersHaveOneLogOverLosses}
use Rattle.replacing.specs.Laws.{IsOther, ComesTo, begins, follows, replaced}
use Rattle.replacing.proofs.Coming.{replacements_have_one_log, replacements_have_one_log_over_losses}
use Rattle.replacing.proofs.Going.{new_there}
use Rattle.replacing.proofs.Used.{as_long}

module _ (c : Shape) where
  -- CALLS

  pub lies : (call : Call) → LiesBehind c call → Lies (slots_of c) call
  lies Attach behind = tt
  lies (Read boot at len) behind = (behind.0, subst (λ (m : ℕ). at + len ≤ m) (as_long c) behind.1)
  lies (Write boot at from) behind = (behind.0, subst (λ (m : ℕ). at + length from ≤ m) (as_long c) behind.1)
  lies (Sync boot) behind = tt

  -- what is torn is a write
  pub torn_lies : (call : Call) (old new : DiskState) → Tears call old new → WritesBehind c call → Lies (slots_of c) call
  torn_lies Attach old new torn behind = absurd torn
  torn_lies (Read boot at len) old new torn behind = absurd torn
  torn_lies (Write boot at from) old new torn behind = lies (Write boot at from) behind
  torn_lies (Sync boot) old new torn behind = absurd torn

  abbrev Has : DiskState → Type 0
  Has disk = IsThere (slots_of c) disk

  abbrev AllThere : (ℕ → DiskState) → Type 0
  AllThere disk = (k : ℕ) → Has (disk k)

  abbrev used_part : DiskState → DiskState
  used_part disk = used (slots_of c) disk

  there_with : (disk : ℕ → DiskState) (d : ℕ) (left : DiskState) → AllThere disk → Has left → AllThere (with_disk disk d left)
  there_with disk d left all has k = either (k == d)
    where
      either : (b : Bool) → Has (cond b left (disk k))
      either true = has
      either false = all k

  part_with : (disk : ℕ → DiskState) (d : ℕ) (left : DiskState) (k : ℕ) → with_disk (λ (j : ℕ). used_part (disk j)) d (used_part left) k ≡ used_part (with_disk disk d left k)
  part_with disk d left k = either (k == d)
    where
      either : (b : Bool) → cond b (used_part left) (used_part (disk k)) ≡ used_part (cond b left (disk k))
      either true = refl
      either false = refl

  module _ (crashing : Crashing) (crash : (old new : DiskState) → Has old → crashing.IsCrash old new → crashing.IsCrash (used_part old) (used_part new) × Has new) (dark : (v : World) → crashing.MayCrash v → crashing.MayCrash (used_world c v)) where
    -- ONE ENTRY

    -- it may follow over what hosts use, and leaves that
    record IsUsed (v : World) (entry : Entry) (left : DiskState) : Type 0 where
      may : MayFollow crashing c (used_world c v) entry (used_part left)
      there : AllThere (disks_after v.disk entry left)
      same : (k : ℕ) → disks_after (λ (j : ℕ). used_part (v.disk j)) entry (used_part left) k ≡ used_part (disks_after v.disk entry left k)

    is_used : (v : World) → AllThere v.disk → (entry : Entry) (left : DiskState) → IsOther entry → CallsBehind c entry → MayFollow crashing c v entry left → IsUsed v entry left
    is_used v all (Does h (Calls d now)) left other behind m =
        record {
          may = (m.0, m.1, used_steps (slots_of c) (v.disk d) left now.call now.answer (all d) (lies now.call behind) m.2, m.3);
          there = there_with v.disk d left all (there_after (slots_of c) (v.disk d) left now.call now.answer (all d) (lies now.call behind) m.2);
          same = part_with v.disk d left;
        }
    is_used v all (Does h (CallsIn e d now call heard)) left other behind m =
        record {
          may = (m.0, m.1, used_steps (slots_of c) (v.disk d) left now.call now.answer (all d) (lies now.call behind) m.2, m.3);
          there = there_with v.disk d left all (there_after (slots_of c) (v.disk d) left now.call now.answer (all d) (lies now.call behind) m.2);
          same = part_with v.disk d left;
        }
    is_used v all (Does h (Starts e)) left other behind m = record { may = (m.0, m.1, tt, tt); there = all; same = λ k. refl }
    is_used v all (Does h (Begins e task)) left other behind m = record { may = (m.0, m.1, tt, tt); there = all; same = λ k. refl }
    is_used v all (Does h (Stops e)) left other behind m = record { may = (m.0, m.1, tt, tt); there = all; same = λ k. refl }
    is_used v all (Breaks h d call) left other behind m =
        let within = torn_lies call (v.disk d) left m.4 behind in
        record {
          may = (m.0, m.1, m.2, m.3, used_tears (slots_of c) (v.disk d) left call (all d) within m.4);
          there = there_with v.disk d left all (there_torn (slots_of c) (v.disk d) left call (all d) within m.4);
          same = part_with v.disk d left;
        }
    is_used v all (BreaksIn e h d call) left other behind m =
        let there_call = moved (base_of (image_of c) (epoch_of e).area) call in
        record {
          may = (m.0, m.1, m.2, used_tears (slots_of c) (v.disk d) left there_call (all d) (lies there_call behind) m.3);
          there = there_with v.disk d left all (there_torn (slots_of c) (v.disk d) left there_call (all d) (lies there_call behind) m.3);
          same = part_with v.disk d left;
        }
    is_used v all (Ends h) left other behind m = record { may = tt; there = all; same = λ k. refl }
    is_used v all (Crashes d) left other behind m =
        let both = crash (v.disk d) left (all d) m.2 in
        record { may = (m.0, m.1, both.0, dark v m.3); there = there_with v.disk d left all both.1; same = part_with v.disk d left }
    is_used v all (Loses d) left other behind m =
        record { may = (m.0, m.1, ap used_part m.2); there = there_with v.disk d left all (subst Has (sym m.2) (all d)); same = part_with v.disk d left }
    is_used v all (Replaces d first newest) left other behind m = absurd other

    -- WRITES ARE BEHIND HEADERS

    mine : (v : World) (entry : Entry) (left : DiskState) → MayFollow crashing c v entry left → (h : ℕ) → is_of h entry ≡ true → MayDoNext c h (v.deeds h) entry
    mine v (Does g deed) left m h own = subst (λ (x : ℕ). MayDoNext c x (v.deeds x) (Does g deed)) (eqb-true g h own) (m.0, m.1)
    mine v (Breaks g k call) left m h own = subst (λ (x : ℕ). MayDoNext c x (v.deeds x) (Breaks g k call)) (eqb-true g h own) (m.0, m.1, m.2, m.3)
    mine v (BreaksIn e g k call) left m h own = subst (λ (x : ℕ). MayDoNext c x (v.deeds x) (BreaksIn e g k call)) (eqb-true g h own) (m.0, m.1, m.2)
    mine v (Ends g) left m h own = tt
    mine v (Crashes k) left m h own = absurd (true≢false (sym own))
    mine v (Loses k) left m h own = absurd (true≢false (sym own))
    mine v (Replaces k first newest) left m h own = absurd (true≢false (sym own))

    pub behind_so : (v : World) (entry : Entry) (left : DiskState) → MayFollow crashing c v entry left → AllReadBehind c (entry ∷ []) → CallsBehind c entry
    behind_so v entry left m reads = (all_behind c (entry ∷ []) v.deeds alone reads).0
      where
        alone : (h : ℕ) → DoesAlone c h (v.deeds h) (of_host h (entry ∷ []))
        alone h =
            elim (cases_Bool (is_of h entry)) [
              | inl own ↦ subst (DoesAlone c h (v.deeds h)) (sym (own_more h entry [] own)) (mine v entry left m h own, tt)
              | inr other ↦ subst (DoesAlone c h (v.deeds h)) (sym (other_more h entry [] other)) tt
            ]

    -- ALL OF THEM

    module _ (images : ℕ → DiskState) where
      abbrev Both : List Entry → World → Type 0
      Both entries v = ComesTo crashing c entries (used_world c v) × AllThere v.disk

      at_first : ((k : ℕ) → IsBlank c (images k)) → Both [] (opening_on images)
      at_first blank =
          let n = image_length cluster_version (slots_of c) in
          let shape = shape_fresh n in
          let start : used_world c (opening_on images) ≡ opening c =
          (λ i. record { disk = λ k. (blank k ∙ ap fresh_disk (sym (as_long c))) i; deeds = no_deeds; first = λ k. 0; called = λ k e. false }) in
          (subst (ComesTo crashing c []) (sym start) begins, λ k. there_begun (slots_of c) (images k) (fresh_disk n) (blank k) (record { whole = shape.0; long = shape.1 }))

      one_more : (entries : List Entry) (v : World) → Both entries v → (entry : Entry) (left : DiskState) → IsOther entry → AllReadBehind c (entry ∷ []) → MayFollow crashing c v entry left → Both (entries ++ entry ∷ []) (after v entry left)
      one_more entries v before entry left other reads m =
          let it = is_used v before.1 entry left other (behind_so v entry left m reads) m in
          let same : after (used_world c v) entry (used_part left) ≡ used_world c (after v entry left) =
          (λ i. record { disk = λ k. it.same k i; deeds = deeds_after v.deeds entry; first = firsts_after v.first entry; called = called_after v.called entry }) in
          (subst (ComesTo crashing c (entries ++ entry ∷ [])) same (follows entries (used_world c v) before.0 entry (used_part left) other it.may), it.there)

      put_more : (entries : List Entry) (v : World) → Both entries v → (lost : ℕ) (image : NewImage) (new : DiskState) (did : IsReplacedByTool c (used_world c v) lost image new) (read : ℕ) (best : EpochsTold) → IsReadFrom did read best →
          Both (entries ++ entries_of c 0 read (v.disk read).boot best.rows lost image.header.first_epoch best.newest) (put_world v lost image.header.first_epoch new)
      put_more entries v before lost image new did read best from =
          let same : world_by c (used_world c v) lost image.header.first_epoch new ≡ used_world c (put_world v lost image.header.first_epoch new) =
          (λ i. record { disk = λ k. part_with v.disk lost new k i; deeds = no_deeds; first = with_first v.first lost image.header.first_epoch; called = v.called }) in (
            subst (ComesTo crashing c (entries ++ entries_of c 0 read (v.disk read).boot best.rows lost image.header.first_epoch best.newest)) same
                (replaced entries (used_world c v) before.0 lost image new did read best from),
            there_with v.disk lost new before.1 (new_there c (used_world c v) lost image new did read best from),
          )

      pub on_used : (entries : List Entry) (v : World) → ComesOn crashing c images entries v → Both entries v
      on_used entries v (opens blank) = at_first blank
      on_used entries v (goes before was on entry left other reads may) = one_more before was (on_used before was on) entry left other reads may
      on_used entries v (puts before was on lost image new did read best from) = put_more before was (on_used before was on) lost image new did read best from

-- CRASHES

pub model_used : (c : Shape) (old new : DiskState) → IsThere (slots_of c) old → IsModelCrash old new → IsModelCrash (used (slots_of c) old) (used (slots_of c) new) × IsThere (slots_of c) new
model_used c old new has crash = ((crash.0, used_crashes (slots_of c) old new has crash.1), there_crashed (slots_of c) old new has crash.1)

-- a loss of power is a crash but for the boot number
pub power_used : (c : Shape) (old new : DiskState) → IsThere (slots_of c) old → LosesPower old new → LosesPower (used (slots_of c) old) (used (slots_of c) new) × IsThere (slots_of c) new
power_used c old new has loss =
    let raised : DiskState = record { bytes = new.bytes; unsynced = new.unsynced; boot = old.boot + 1; gone = new.gone } in
    let crash : CrashesTo old raised = record { bytes = loss.bytes; unsynced = loss.unsynced; boot = refl; gone = loss.gone } in
    let then = used_crashes (slots_of c) old raised has crash in
    (record { bytes = then.bytes; unsynced = then.unsynced; before = loss.before; after = loss.after; gone = then.gone }, there_crashed (slots_of c) old raised has crash)

pub folders_have_one_log : FoldersHaveOneLog
folders_have_one_log c images entries v long on =
    replacements_have_one_log c entries (used_world c v) long (on_used c model_crashes (model_used c) (λ w may. may) images entries v on).0

pub folders_have_one_log_over_losses : FoldersHaveOneLogOverLosses
folders_have_one_log_over_losses c images entries v long on short =
    replacements_have_one_log_over_losses c entries (used_world c v) long (on_used c power_losses (power_used c) (λ w may. may) images entries v on).0 short
