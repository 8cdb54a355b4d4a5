-- Wherever hosts came to, also after other disks were replaced, a run goes on with the image that the tool made; so all that hosts tell goes by one log.
use Rattle.std.specs.Prelude.{◌^◌}
use Rattle.std.proofs.Common.{ℕ, ◌≡◌, ◌+◌, ◌≤◌, ◌<◌, false, List, [], ◌∷◌, ◌++◌, length, refl, length-append, arith}
use Rattle.disk.specs.Disk.{DiskState}
use Rattle.lock_command.specs.declared.record.TheConstants.{LOCKS}
use Rattle.lock_table.specs.declared.clients.TheConstants.{CLIENTS}
use Rattle.paxos_block.specs.Shape.{Shape}
use Rattle.epoch_runs.specs.Replacing.{HalfShowNoneAbove}
use Rattle.epoch_runs.specs.World.{Entry, World, opening, no_deeds, after, Crashing, model_crashes, power_losses, GoesTo}
use Rattle.epoch_runs.proofs.Ahead.{nobody_gets_ahead, nobody_gets_ahead_over_losses}
use Rattle.epoch_runs.proofs.Served.{all_go}
use Rattle.epoch_runs.proofs.Shared.{model_sound, power_sound}
use Rattle.epochs_at_once.proofs.Few.{few_lived}
use Rattle.epochs_at_once.proofs.Joined.{hosts_have_one_log, hosts_have_one_log_over_losses}
use Rattle.epochs_at_once.proofs.Parting.{goes_at_once, goes_over_losses}
use Rattle.in_place.specs.declared.replace_epoch.EpochsTold.{EpochsTold}
use Rattle.in_place.specs.declared.replace_image.NewImage.{NewImage}
use Rattle.replacing.specs.ByTool.{IsReplacedByTool, IsReadFrom, entries_of, world_by}
use Rattle.replacing.specs.Laws.{GoesOn, ReplacedGoesOn, ReplacedGoesOnOverLosses, ComesTo, begins, follows, replaced, ReplacementsHaveOneLog, ReplacementsHaveOneLogOverLosses}
use Rattle.replacing.proofs.Told.{TellsNewest, tells_newest, half_show_none}
use Rattle.replacing.proofs.Going.{goes_on, is_new, may_take_over, goes_by_tool}

module _ (crashing : Crashing) (c : Shape) (Fine : List Entry → Type 0) (fine_before : (entries more : List Entry) → Fine (entries ++ more) → Fine entries)
    (ahead : (entries : List Entry) (w : World) (newest : ℕ) → Fine entries → GoesTo crashing c (opening c) entries w → HalfShowNoneAbove newest c w → (k e : ℕ) → newest + 2 ≤ e → w.called k e ≡ false) where
  module _ (entries : List Entry) (w : World) (fine : Fine entries) (goes : GoesTo crashing c (opening c) entries w) (lost : ℕ) (image : NewImage) (new : DiskState) (did : IsReplacedByTool c w lost image new) where
    -- no core has called a disk in an epoch in which the new one takes part
    uncalled : (k e : ℕ) → did.by.takes_part.epoch + 2 ≤ e → w.called k e ≡ false
    uncalled = ahead entries w did.by.takes_part.epoch fine goes (half_show_none c w lost did.tellings did.told did.by.first did.by.takes_part)

    goes_with : (read : ℕ) (best : EpochsTold) → IsReadFrom did read best →
        GoesTo crashing c (opening c) (entries ++ entries_of c 0 read (w.disk read).boot best.rows lost image.header.first_epoch best.newest) (world_by c w lost image.header.first_epoch new)
    goes_with read best from =
        goes_on crashing c entries (entries_of c 0 read (w.disk read).boot best.rows lost image.header.first_epoch best.newest) (opening c) w (world_by c w lost image.header.first_epoch new) goes
        (goes_by_tool c w lost image new did read best from uncalled crashing)

    goes_further : GoesOn crashing c entries w lost image new did
    goes_further = by_newest (tells_newest c.disks did.tellings image.rows (let among = did.among in omega (arith, among)) did.by.takes_part.half did.by.rows)
      where
        by_newest : TellsNewest c.disks did.tellings image.rows did.by.rows.best → GoesOn crashing c entries w lost image new did
        by_newest it =
            let from : IsReadFrom did it.read it.best = record { inside = it.inside; told = it.told; newest = it.newest } in
            record {
              read = it.read;
              best = it.best;
              from = from;
              is_new = is_new c w lost image new did it.read it.best from;
              may = may_take_over c w lost image new did it.read it.best from uncalled;
              goes = goes_with it.read it.best from;
            }

  comes : (entries : List Entry) (w : World) → ComesTo crashing c entries w → Fine entries → GoesTo crashing c (opening c) entries w
  comes entries w begins fine = refl
  comes entries w (follows before was on entry left other may) fine =
      goes_on crashing c before (entry ∷ []) (opening c) was (after was entry left) (comes before was on (fine_before before (entry ∷ []) fine)) (left, may, refl)
  comes entries w (replaced before was on lost image new did read best from) fine =
      let early = fine_before before (entries_of c 0 read (was.disk read).boot best.rows lost image.header.first_epoch best.newest) fine in
      goes_with before was early (comes before was on early) lost image new did read best from

-- CRASHES OF THE MODEL

-- however much is done
abbrev AnyLong : List Entry → Type 0
AnyLong entries = Unit {0}

any_before : (entries more : List Entry) → AnyLong (entries ++ more) → AnyLong entries
any_before entries more any = tt

model_ahead : (c : Shape) → LOCKS + CLIENTS ≤ c.slots → (entries : List Entry) (w : World) (newest : ℕ) → AnyLong entries → GoesTo model_crashes c (opening c) entries w → HalfShowNoneAbove newest c w → (k e : ℕ) → newest + 2 ≤ e → w.called k e ≡ false
model_ahead c long entries w newest any goes half = nobody_gets_ahead c entries w newest long goes half

pub replaced_goes_on : ReplacedGoesOn
replaced_goes_on c entries w lost image new long goes did = goes_further model_crashes c AnyLong any_before (model_ahead c long) entries w tt goes lost image new did

pub replacements_have_one_log : ReplacementsHaveOneLog
replacements_have_one_log c entries w long on =
    let goes = comes model_crashes c AnyLong any_before (model_ahead c long) entries w on tt in
    hosts_have_one_log c entries long (goes_at_once c entries (all_go model_crashes model_sound c entries (opening c) w goes))

-- LOSSES OF POWER

abbrev IsShort : List Entry → Type 0
IsShort entries = length entries < 2 ^ 62

short_before : (entries more : List Entry) → IsShort (entries ++ more) → IsShort entries
short_before entries more short = let both = length-append entries more in omega (arith, short, both)

power_ahead : (c : Shape) → LOCKS + CLIENTS ≤ c.slots → (entries : List Entry) (w : World) (newest : ℕ) → IsShort entries → GoesTo power_losses c (opening c) entries w → HalfShowNoneAbove newest c w → (k e : ℕ) → newest + 2 ≤ e → w.called k e ≡ false
power_ahead c long entries w newest short goes half =
    nobody_gets_ahead_over_losses c entries w newest long goes (λ e. let less = few_lived c e no_deeds entries in omega (arith, less, short)) half

pub replaced_goes_on_over_losses : ReplacedGoesOnOverLosses
replaced_goes_on_over_losses c entries w lost image new long short goes did = goes_further power_losses c IsShort short_before (power_ahead c long) entries w short goes lost image new did

pub replacements_have_one_log_over_losses : ReplacementsHaveOneLogOverLosses
replacements_have_one_log_over_losses c entries w long on short =
    let goes = comes power_losses c IsShort short_before (power_ahead c long) entries w on short in
    hosts_have_one_log_over_losses c entries long (goes_over_losses c entries (all_go power_losses power_sound c entries (opening c) w goes)) short
