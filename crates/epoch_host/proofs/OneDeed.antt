-- What one deed leaves of the cores and of the disks' pasts, and what a window follows then.
use Rattle.std.proofs.Common.{ℕ, ◌≡◌, ◌≢◌, ◌==◌, Bool, true, false, cond, ◌∷◌, ◌++◌, Some, None, refl, sym, ◌∙◌, ap, subst, []}
use Rattle.std.proofs.lemmas.List.{append-nil}
use Rattle.std.proofs.lemmas.Bool.{eq-eqb, ne_eqb}
use Rattle.disk.specs.Disk.{Call, Answer}
use Rattle.paxos_block.specs.Shape.{Shape}
use Rattle.host.specs.declared.task.Task.{Task}
use Rattle.host.specs.Host.{Host, Memory, Stopped, Running, fresh, starts, hears_from}
use Rattle.standings.specs.Past.{Made, Past}
use Rattle.window.specs.declared.step.Reading.{Reading}
use Rattle.window.specs.declared.window.Window.{Window}
use Rattle.window.specs.Calls.{Follows, length_of, sight_of}
use Rattle.window.specs.Knows.{Pasts, AddsCall, KnowsOf, HasRead, ShowsLater}
use Rattle.window.proofs.Following.{all_forget}
use Rattle.epoch_deeds.specs.Deeds.{Deed, Deeds, Calls, CallsIn, Starts, Begins, past_on, core_in, core_step}
use Rattle.epoch_deeds.specs.Knowing.{MayDo}
use Rattle.epoch_deeds.proofs.Lists.{core_in_next, past_both}
use Rattle.epoch_host.specs.Leading.{GoesOn, MakesAndGoesOn, MakesCall, MakeNone, pasts_of}
use Rattle.epoch_host.proofs.Going.{goes_none}

-- ONE DEED

module _ (c : Shape) (h : ℕ) (deeds : Deeds) where
  -- one that makes no call
  pub goes_by : (deed : Deed) (IsSo : Deeds → Type 0) → MakeNone (deed ∷ []) → MayDo c h deeds deed → IsSo (deeds ++ deed ∷ []) → GoesOn c h deeds IsSo
  goes_by deed IsSo none may so = record { more = deed ∷ []; none = none; may = (may, tt); so = so }

  -- one that makes one
  pub makes_by : (deed : Deed) (d : ℕ) (now : Made) (IsSo : Deeds → Type 0) → MakesCall d now deed → MayDo c h deeds deed → IsSo (deeds ++ deed ∷ []) → MakesAndGoesOn c h deeds d now IsSo
  makes_by deed d now IsSo makes may so = record { deed = deed; makes = makes; may = may; on = goes_none c h (deeds ++ deed ∷ []) IsSo so }

-- WHAT A DEED LEAVES

same_self : (e : ℕ) → (e == e) ≡ true
same_self e = eq-eqb e e refl

module _ (c : Shape) (h : ℕ) (deeds : Deeds) where
  -- THE CORES

  -- the host's own calls are none of its cores'
  pub core_by_call : (e d : ℕ) (m : Made) → core_in c h e (deeds ++ Calls d m ∷ []) ≡ core_in c h e deeds
  core_by_call e d m = core_in_next c h e deeds (Calls d m)

  pub core_started : (e : ℕ) → core_in c h e (deeds ++ Starts e ∷ []) ≡ Running fresh
  core_started e = core_in_next c h e deeds (Starts e) ∙ ap (λ (b : Bool). cond b (Running fresh) (core_in c h e deeds)) (same_self e)

  pub core_begun : (e : ℕ) (memory : Memory) (task : Task) → core_in c h e deeds ≡ Running memory → core_in c h e (deeds ++ Begins e task ∷ []) ≡ Running (starts c memory task)
  core_begun e memory task runs =
      core_in_next c h e deeds (Begins e task)
      ∙ ap (λ (core : Host). core_step c h e core (Begins e task)) runs
      ∙ ap (λ (b : Bool). cond b (Running (starts c memory task)) (Running memory)) (same_self e)

  pub core_heard : (e d : ℕ) (m : Made) (call : Call) (heard : Answer) (memory : Memory) → core_in c h e deeds ≡ Running memory
      → core_in c h e (deeds ++ CallsIn e d m call heard ∷ []) ≡ Running (hears_from c h memory memory.doing d heard)
  core_heard e d m call heard memory runs =
      core_in_next c h e deeds (CallsIn e d m call heard)
      ∙ ap (λ (core : Host). core_step c h e core (CallsIn e d m call heard)) runs
      ∙ ap (λ (b : Bool). cond b (Running (hears_from c h memory memory.doing d heard)) (Running memory)) (same_self e)

  -- those of other epochs stay as they are
  module _ (e other : ℕ) (apart : other ≢ e) where
    differs : (e == other) ≡ false
    differs = ne_eqb e other (λ same. apart (sym same))

    pub other_started : core_in c h other (deeds ++ Starts e ∷ []) ≡ core_in c h other deeds
    other_started = core_in_next c h other deeds (Starts e) ∙ ap (λ (b : Bool). cond b (Running fresh) (core_in c h other deeds)) differs

    pub other_begun : (task : Task) → core_in c h other deeds ≡ Stopped → core_in c h other (deeds ++ Begins e task ∷ []) ≡ Stopped
    other_begun task stopped =
        core_in_next c h other deeds (Begins e task) ∙ ap (λ (core : Host). core_step c h other core (Begins e task)) stopped ∙ ap (λ (b : Bool). cond b Stopped Stopped) differs

    pub other_heard : (d : ℕ) (m : Made) (call : Call) (heard : Answer) → core_in c h other deeds ≡ Stopped → core_in c h other (deeds ++ CallsIn e d m call heard ∷ []) ≡ Stopped
    other_heard d m call heard stopped =
        core_in_next c h other deeds (CallsIn e d m call heard)
        ∙ ap (λ (core : Host). core_step c h other core (CallsIn e d m call heard)) stopped
        ∙ ap (λ (b : Bool). cond b Stopped Stopped) differs

  -- THE PASTS

  pub past_by_start : (d e : ℕ) → past_on d (deeds ++ Starts e ∷ []) ≡ past_on d deeds
  past_by_start d e = past_both d deeds (Starts e ∷ []) ∙ append-nil (past_on d deeds)

  pub past_by_begin : (d e : ℕ) (task : Task) → past_on d (deeds ++ Begins e task ∷ []) ≡ past_on d deeds
  past_by_begin d e task = past_both d deeds (Begins e task ∷ []) ∙ append-nil (past_on d deeds)

  call_here : (d : ℕ) (m : Made) (b : Bool) → b ≡ true → past_on d deeds ++ cond b (m ∷ []) [] ≡ past_on d deeds ++ m ∷ []
  call_here d m b is = ap (λ (b : Bool). past_on d deeds ++ cond b (m ∷ []) []) is

  call_there : (d : ℕ) (m : Made) (b : Bool) → b ≡ false → past_on d deeds ++ cond b (m ∷ []) [] ≡ past_on d deeds
  call_there d m b is = ap (λ (b : Bool). past_on d deeds ++ cond b (m ∷ []) []) is ∙ append-nil (past_on d deeds)

  pub past_called : (d : ℕ) (m : Made) → past_on d (deeds ++ Calls d m ∷ []) ≡ past_on d deeds ++ m ∷ []
  past_called d m = past_both d deeds (Calls d m ∷ []) ∙ call_here d m (d == d) (same_self d)

  pub past_called_in : (e d : ℕ) (m : Made) (call : Call) (heard : Answer) → past_on d (deeds ++ CallsIn e d m call heard ∷ []) ≡ past_on d deeds ++ m ∷ []
  past_called_in e d m call heard = past_both d deeds (CallsIn e d m call heard ∷ []) ∙ call_here d m (d == d) (same_self d)

  pub adds_call : (d : ℕ) (m : Made) → AddsCall (pasts_of deeds) (pasts_of (deeds ++ Calls d m ∷ [])) d m
  adds_call d m =
      record {
        here = past_called d m;
        others = λ other apart. past_both other deeds (Calls d m ∷ []) ∙ call_there other m (d == other) (ne_eqb d other (λ same. apart (sym same)));
      }

  pub adds_call_in : (e d : ℕ) (m : Made) (call : Call) (heard : Answer) → AddsCall (pasts_of deeds) (pasts_of (deeds ++ CallsIn e d m call heard ∷ [])) d m
  adds_call_in e d m call heard =
      record {
        here = past_called_in e d m call heard;
        others = λ other apart. past_both other deeds (CallsIn e d m call heard ∷ []) ∙ call_there other m (d == other) (ne_eqb d other (λ same. apart (sym same)));
      }

-- WHAT A WINDOW FOLLOWS

-- the same pasts
pub follows_same : (w : Window) (old new : Pasts) → ((d : ℕ) → new d ≡ old d) → Follows w old → Follows w new
follows_same w old new same is =
    record {
      sights = λ d. subst (λ (p : Past). KnowsOf (length_of w) w.standpoint.epoch w.standpoint.host p (sight_of w d)) (sym (same d)) (is.sights d);
      reading = λ (r : Reading) some. subst (λ (p : Past). HasRead (length_of w) w.standpoint.epoch r.boot.number r.at w.row p r.step) (sym (same r.disk)) (is.reading r some);
      passed = λ so. (let shown = is.passed so in (shown.0, subst (ShowsLater (length_of w) w.standpoint.epoch) (sym (same shown.0)) shown.1));
    }

-- a call on a disk of which it has seen nothing, while no read is under way
pub follows_unseen : (w : Window) (old new : Pasts) (disk : ℕ) (m : Made) → AddsCall old new disk m → sight_of w disk ≡ None → w.reading ≡ None → Follows w old → Follows w new
follows_unseen w old new disk m adds unseen rests is =
    let all = all_forget (length_of w) w.standpoint.epoch w.standpoint.host old new disk (record { more = m ∷ []; here = adds.here; others = adds.others }) w.sights w.sights w.reading w.row w.has_passed is unseen (λ other apart. refl) in
    record { sights = all.sights; reading = λ (r : Reading) some. absurd (let none : None ≡ Some r = sym rests ∙ some in cc); passed = all.passed }
