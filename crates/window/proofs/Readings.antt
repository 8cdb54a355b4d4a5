-- What follows from what is read in a read, by its step.
use Rattle.std.specs.Prelude.{slice_index, slice_index_or}
use Rattle.std.proofs.Common.{ℕ, ◌≡◌, ◌≢◌, ◌+◌, ◌∙◌, ◌++◌, ◌∷◌, [], Bool, true, false, List, Option, Some, None, refl, sym, ap, subst, inl, inr, arith}
use Rattle.disk.specs.declared.boot.Boot.{Boot}
use Rattle.disk.specs.Disk.{Answer, Call, Read, Told}
use Rattle.torn_block.specs.Layout.{cluster_version}
use Rattle.torn_block.specs.declared.layout.TheConstants.{ROW_LENGTH}
use Rattle.attempt.specs.DeviceCalls.{device_answer, heard_of}
use Rattle.attempt.specs.Heard.{Fits}
use Rattle.attempt.specs.declared.heard.Heard as code_heard
use Rattle.attempt.specs.declared.heard.Heard.TheVariants as answer
use Rattle.heartbeat.specs.Beat.{IsDamagedArea}
use Rattle.standings.specs.Past.{Past, reading}
use Rattle.standings.specs.Reading.{AreClear, HasPassed, masked, numbers_in, shown_in}
use Rattle.standings.proofs.Numbers.{counters_are_numbers}
use Rattle.window.specs.declared.outcome.Outcome.{Outcome}
use Rattle.window.specs.declared.outcome.Outcome.TheVariants as outcome
use Rattle.window.specs.declared.standing.Hidden.{Hidden}
use Rattle.window.specs.declared.step.Step.{Step}
use Rattle.window.specs.declared.step.Step.TheVariants.{First, Row, Second}
use Rattle.window.specs.declared.window.Window.{Window}
use Rattle.window.specs.Calls.{due_for, length_of, sight_of, step_of}
use Rattle.window.specs.Hearing.{Hears}
use Rattle.window.specs.Knows.{AreSaid, KnowsOf}
use Rattle.window.specs.Outcomes.{FailsAt, GoesOnAt, IsGood, IsHiddenBy, NoticesAt, passed_by}
use Rattle.window.specs.Sights.{IsKnownUnder, IsSureUnder, IsSyncedUnder, IsUnder, Keeps}
use Rattle.window.specs.Steps.{left_at, read_due}
use Rattle.window.proofs.Hearing.{fault_hears, good_hears, hidden_hears, last_hears, row_hears, shown_hears}

-- What `see` makes of a window.
pub record Sees (w new : Window) (disk boot : ℕ) (standings : List ℕ) : Type 0 where
  pub rest : new ≡ record w { sights = new.sights }
  pub others : (other : ℕ) → other ≢ disk → sight_of new other ≡ sight_of w other
  pub sure : w.standpoint.only_looks ≡ false → IsSyncedUnder boot (sight_of w disk) → IsSureUnder boot (sight_of new disk)
  pub known : IsUnder boot (sight_of w disk) → IsKnownUnder boot (sight_of new disk)
  pub keeps : Keeps (sight_of w disk) (sight_of new disk)
  pub knows : (past : Past) → KnowsOf (length_of w) w.standpoint.epoch w.standpoint.host past (sight_of w disk) → KnowsOf (length_of w) w.standpoint.epoch w.standpoint.host (past ++ reading (length_of w) w.standpoint.epoch.area boot standings ∷ []) (sight_of new disk)

module _ (w : Window) (disk at : ℕ) (boot : Boot) where
  abbrev wanted : Call
  wanted = Read boot.number at ROW_LENGTH

  abbrev step : Step
  step = step_of w disk boot.number at

  -- a device call that fails
  pub read_fault_hears : (h : code_heard.Heard (List ℕ)) → Fits wanted (heard_of cluster_version h) → ((row : _) → h ≡ answer.Told row → ⊥)
      → Hears w (record w { reading = None }) disk wanted (device_answer h) (Some outcome.AsHeard)
  read_fault_hears (answer.Booted b) fits fails = absurd fits
  read_fault_hears answer.Done fits fails = absurd fits
  read_fault_hears (answer.Told row) fits fails = absurd (fails row refl)
  read_fault_hears (answer.Fault fault) fits fails = fault_hears w disk at boot fault

  -- the row was read
  pub row_told : (bytes : List ℕ) (told : Answer) → told ≡ Told bytes → (first : List ℕ) (is_last : Bool) → step ≡ Row first is_last
      → Hears w (record w { row = bytes; reading = Some (record { disk = disk; boot = boot; at = at; step = Second first is_last }) }) disk wanted told None
  row_told bytes told is first is_last at_row =
      subst (λ (a : Answer). Hears w (record w { row = bytes; reading = Some (record { disk = disk; boot = boot; at = at; step = Second first is_last }) }) disk wanted a None) (sym is)
      (row_hears w disk at boot bytes first is_last at_row)

  module _ (standings : List ℕ) where
    due_at : (s : Step) → step ≡ s → due_for w disk wanted ≡ read_due (length_of w) w.standpoint.epoch.area boot.number at ROW_LENGTH s
    due_at s is = ap (read_due (length_of w) w.standpoint.epoch.area boot.number at ROW_LENGTH) is

    quiet : IsGood w.standpoint standings → (has_passed : Bool) → (¬ IsDamagedArea standings) → HasPassed w.standpoint.epoch (numbers_in standings) → has_passed ≡ true
    quiet good has_passed sound passed = absurd (good.nobody passed)

    -- BEFORE THE ROW

    module _ (at_first : step ≡ First) where
      pub first_hidden : (new : Window) (told : Option Outcome) (why : Hidden) → IsHiddenBy w.standpoint standings why
          → new ≡ record w { reading = None; has_passed = passed_by why w.has_passed } → told ≡ Some outcome.Failed
          → Hears w new disk wanted (Told standings) told
      first_hidden new told why is becomes fails =
          subst (λ (v : Window). Hears w v disk wanted (Told standings) told) (sym becomes)
          (subst (λ (t : Option Outcome). Hears w (record w { reading = None; has_passed = passed_by why w.has_passed }) disk wanted (Told standings) t) (sym fails)
          (hidden_hears w disk at boot standings (due_at First at_first) why is
          (subst (λ (s : Step). FailsAt w.standpoint s standings) (sym at_first) (why, is))
          (λ has_passed noted. subst (λ (s : Step). NoticesAt w.standpoint.epoch s standings has_passed) (sym at_first) noted)))

      pub first_good : (new : Window) (first : List ℕ) → Sees w new disk boot.number standings → AreSaid standings first → IsGood w.standpoint standings
          → Hears w (record new { reading = Some (record { disk = disk; boot = boot; at = at; step = Row first false }) }) disk wanted (Told standings) None
      first_good new first sees says good =
          subst (λ (v : Window). Hears w (record v { reading = Some (record { disk = disk; boot = boot; at = at; step = Row first false }) }) disk wanted (Told standings) None) (sym sees.rest)
          (good_hears w disk at boot standings (due_at First at_first) new.sights first says good sees.others sees.sure sees.known sees.keeps sees.knows false
          (subst (λ (s : Step). GoesOnAt w.standpoint s standings) (sym at_first) good)
          (subst (λ (s : Step). NoticesAt w.standpoint.epoch s standings w.has_passed) (sym at_first) (quiet good w.has_passed))
          (subst (λ (s : Step). left_at (Row first false) + 1 ≡ left_at s) (sym at_first) refl))

    -- BEHIND IT

    module _ (first : List ℕ) (is_last : Bool) (at_second : step ≡ Second first is_last) where
      pub second_hidden : (new : Window) (told : Option Outcome) (why : Hidden) → IsHiddenBy w.standpoint standings why
          → new ≡ record w { reading = None; has_passed = passed_by why w.has_passed } → told ≡ Some outcome.Failed
          → Hears w new disk wanted (Told standings) told
      second_hidden new told why is becomes fails =
          subst (λ (v : Window). Hears w v disk wanted (Told standings) told) (sym becomes)
          (subst (λ (t : Option Outcome). Hears w (record w { reading = None; has_passed = passed_by why w.has_passed }) disk wanted (Told standings) t) (sym fails)
          (hidden_hears w disk at boot standings (due_at (Second first is_last) at_second) why is
          (subst (λ (s : Step). FailsAt w.standpoint s standings) (sym at_second) (inl (why, is)))
          (λ has_passed noted. subst (λ (s : Step). NoticesAt w.standpoint.epoch s standings has_passed) (sym at_second) noted)))

      module _ (new : Window) (second : List ℕ) (sees : Sees w new disk boot.number standings) (says : AreSaid standings second) (good : IsGood w.standpoint standings) where
        by_numbers : AreClear w.standpoint.epoch (slice_index first) (numbers_in standings) → AreClear new.standpoint.epoch (slice_index first) (slice_index second)
        by_numbers clear =
            subst (λ (v : Window). AreClear v.standpoint.epoch (slice_index first) (slice_index second)) (sym sees.rest)
            (λ host below.
            (let same : slice_index second host ≡ numbers_in standings host = ap (λ (l : List ℕ). slice_index l host) says.are ∙ counters_are_numbers standings host below in
            let now = clear host below in (omega (arith, now.0, same), λ own. now.1 (sym same ∙ own))))

        noted : NoticesAt w.standpoint.epoch step standings w.has_passed
        noted = subst (λ (s : Step). NoticesAt w.standpoint.epoch s standings w.has_passed) (sym at_second) (quiet good w.has_passed)

        pub second_shown : AreClear new.standpoint.epoch (slice_index first) (slice_index second) → (row : List ℕ) → row ≡ masked (λ host. slice_index_or (shown_in new.standpoint.epoch first second) host false) new.row
            → Hears w (record new { reading = None; row = row }) disk wanted (Told standings) (Some outcome.Row)
        second_shown clear row is_masked =
            subst (λ (v : Window). Hears w (record v { reading = None; row = row }) disk wanted (Told standings) (Some outcome.Row)) (sym sees.rest)
            (shown_hears w disk at boot standings (due_at (Second first is_last) at_second) new.sights second says good sees.others sees.sure sees.known sees.keeps sees.knows
            first is_last at_second (subst (λ (v : Window). AreClear v.standpoint.epoch (slice_index first) (slice_index second)) sees.rest clear) row
            (is_masked ∙ ap (λ (v : Window). masked (λ host. slice_index_or (shown_in v.standpoint.epoch first second) host false) v.row) sees.rest))

        pub second_last : (AreClear new.standpoint.epoch (slice_index first) (slice_index second) → ⊥) → is_last ≡ true
            → Hears w (record new { reading = None }) disk wanted (Told standings) (Some outcome.Failed)
        second_last unclear last =
            subst (λ (v : Window). Hears w (record v { reading = None }) disk wanted (Told standings) (Some outcome.Failed)) (sym sees.rest)
            (last_hears w disk at boot standings (due_at (Second first is_last) at_second) new.sights second says good sees.others sees.sure sees.known sees.keeps sees.knows
            (subst (λ (s : Step). FailsAt w.standpoint s standings) (sym at_second) (inr (last, λ clear. unclear (by_numbers clear)))) noted)

        pub second_again : (AreClear new.standpoint.epoch (slice_index first) (slice_index second) → ⊥) → is_last ≡ false
            → Hears w (record new { reading = Some (record { disk = disk; boot = boot; at = at; step = Row second true }) }) disk wanted (Told standings) None
        second_again unclear not_last =
            subst (λ (v : Window). Hears w (record v { reading = Some (record { disk = disk; boot = boot; at = at; step = Row second true }) }) disk wanted (Told standings) None) (sym sees.rest)
            (good_hears w disk at boot standings (due_at (Second first is_last) at_second) new.sights second says good sees.others sees.sure sees.known sees.keeps sees.knows true
            (subst (λ (s : Step). GoesOnAt w.standpoint s standings) (sym at_second) (good, not_last, λ clear. unclear (by_numbers clear))) noted
            (subst (λ (s : Step). left_at (Row second true) + 1 ≡ left_at s) (sym at_second) (subst (λ (b : Bool). left_at (Row second true) + 1 ≡ left_at (Second first b)) (sym not_last) refl)))
