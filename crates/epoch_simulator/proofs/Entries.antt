-- Entries that lead from one world to another.
use Rattle.std.specs.Prelude.{if◌then◌else◌}
use Rattle.std.proofs.Common.{ℕ, ◌<◌, ◌≡◌, ◌≢◌, Bool, List, [], ◌∷◌, ◌++◌, refl, sym, ap, ◌∙◌, subst, arith}
use Rattle.std.proofs.lemmas.List.{append_assoc, append-nil}
use Rattle.disk.specs.Disk.{DiskState, Step}
use Rattle.torn_block.specs.declared.layout.TheConstants.{HOSTS}
use Rattle.paxos_block.specs.Shape.{Shape}
use Rattle.standings.specs.Past.{Made}
use Rattle.epoch_deeds.specs.Deeds.{Deed, Deeds, Calls, CallsIn, Starts, Begins, Stops}
use Rattle.epoch_deeds.specs.Knowing.{MayDo, DoesFrom}
use Rattle.epoch_host.specs.Leading.{MakesCall, MakeNone}
use Rattle.epoch_runs.specs.World.{Entry, World, Does, after, with_disk, with_deeds, disks_by, StepsTo, HearsOf, model_crashes, GoesFrom}
use Rattle.epoch_simulator.specs.Doing.{done_by}
use Rattle.epoch_simulator.specs.Kept.{GoesTo}
use Rattle.epoch_simulator.proofs.Lists.{self_eq, not_eq}

module _ (c : Shape) where
  -- some entries, and then more
  pub goes_both : (old mid new : World) (first rest : List Entry) → GoesTo c old first mid → GoesTo c mid rest new → GoesTo c old (first ++ rest) new
  goes_both old mid new [] rest is on = subst (λ (w : World). GoesTo c w rest new) is on
  goes_both old mid new (entry ∷ first) rest goes on = (goes.0, goes.1, goes_both (after old entry goes.0) mid new first rest goes.2 on)

  -- each of them may follow those before it
  pub all_go : (old new : World) (entries : List Entry) → GoesTo c old entries new → GoesFrom model_crashes c old entries
  all_go old new [] is = tt
  all_go old new (entry ∷ entries) goes = (goes.0, goes.1, all_go (after old entry goes.0) new entries goes.2)

  -- Entries lead on from a world. Then one host has done this since its start, all others what they had, and the disks are these.
  pub record Goes (h : ℕ) (old : World) (entries : List Entry) (deeds : Deeds) (disk : ℕ → DiskState) : Type 0 where
    pub new : World
    pub goes : GoesTo c old entries new
    pub own : new.deeds h ≡ deeds
    pub others : (g : ℕ) → g ≢ h → new.deeds g ≡ old.deeds g
    pub disks : (d : ℕ) → new.disk d ≡ disk d
    pub firsts : (d : ℕ) → new.first d ≡ old.first d

  -- where disks take part in all epochs no call need fail
  in_all : (firsts : ℕ → ℕ) → ((d : ℕ) → firsts d ≡ 0) → (deed : Deed) → HearsOf firsts deed
  in_all firsts all (Calls d now) = tt
  in_all firsts all (CallsIn e d now call heard) = λ before. absurd (let none = all d in omega (arith, none, before))
  in_all firsts all (Starts e) = tt
  in_all firsts all (Begins e task) = tt
  in_all firsts all (Stops e) = tt

  module _ (h : ℕ) (inside : h < HOSTS) where
    -- what a host has done since its start, and what the others have
    pub own_deeds : (deeds : ℕ → Deeds) (left : Deeds) → with_deeds deeds h left h ≡ left
    own_deeds deeds left = ap (λ (b : Bool). if b then left else deeds h) (self_eq h)

    pub other_deeds : (deeds : ℕ → Deeds) (left : Deeds) (g : ℕ) → g ≢ h → with_deeds deeds h left g ≡ deeds g
    other_deeds deeds left g not = ap (λ (b : Bool). if b then left else deeds g) (not_eq g h not)

    -- it does one thing more first
    one_more : (old : World) (before : Deeds) (deed : Deed) (left : DiskState) (entries : List Entry) (more : Deeds) (disk : ℕ → DiskState) → old.deeds h ≡ before → MayDo c h before deed → StepsTo old deed left → ((d : ℕ) → old.first d ≡ 0)
        → Goes h (after old (Does h deed) left) entries ((before ++ deed ∷ []) ++ more) disk → Goes h old (Does h deed ∷ entries) (before ++ deed ∷ more) disk
    one_more old before deed left entries more disk is may step all on =
        record {
          new = on.new;
          goes = (left, (inside, subst (λ (deeds : Deeds). MayDo c h deeds deed) (sym is) may, step, in_all old.first all deed), on.goes);
          own = on.own ∙ append_assoc before (deed ∷ []) more;
          others = λ g not. on.others g not ∙ other_deeds old.deeds (old.deeds h ++ deed ∷ []) g not;
          disks = on.disks;
          firsts = on.firsts;
        }

    -- what it has done then
    did_more : (old : World) (before : Deeds) (deed : Deed) (left : DiskState) → old.deeds h ≡ before → (after old (Does h deed) left).deeds h ≡ before ++ deed ∷ []
    did_more old before deed left is = own_deeds old.deeds (old.deeds h ++ deed ∷ []) ∙ ap (λ (deeds : Deeds). deeds ++ deed ∷ []) is

    -- NO CALL

    pub goes_silent : (old : World) (before more : Deeds) → old.deeds h ≡ before → ((d : ℕ) → old.first d ≡ 0) → MakeNone more → DoesFrom c h before more → Goes h old (done_by h more) (before ++ more) old.disk
    goes_silent old before [] is all none may = record { new = old; goes = refl; own = is ∙ sym (append-nil before); others = λ g not. refl; disks = λ d. refl; firsts = λ d. refl }
    goes_silent old before (Calls d now ∷ more) is all none may = absurd none
    goes_silent old before (CallsIn e d now call heard ∷ more) is all none may = absurd none
    goes_silent old before (Starts e ∷ more) is all none may =
        let w : World = after old (Does h (Starts e)) (old.disk 0) in
        one_more old before (Starts e) (old.disk 0) (done_by h more) more old.disk is may.0 tt all
        (goes_silent w (before ++ Starts e ∷ []) more (did_more old before (Starts e) (old.disk 0) is) all none may.1)
    goes_silent old before (Begins e task ∷ more) is all none may =
        let w : World = after old (Does h (Begins e task)) (old.disk 0) in
        one_more old before (Begins e task) (old.disk 0) (done_by h more) more old.disk is may.0 tt all
        (goes_silent w (before ++ Begins e task ∷ []) more (did_more old before (Begins e task) (old.disk 0) is) all none may.1)
    goes_silent old before (Stops e ∷ more) is all none may =
        let w : World = after old (Does h (Stops e)) (old.disk 0) in
        one_more old before (Stops e) (old.disk 0) (done_by h more) more old.disk is may.0 tt all
        (goes_silent w (before ++ Stops e ∷ []) more (did_more old before (Stops e) (old.disk 0) is) all none may.1)

    -- A CALL

    -- on this disk
    call_step : (old : World) (d : ℕ) (now : Made) (deed : Deed) (left : DiskState) → MakesCall d now deed → Step (old.disk d) now.call now.answer left → StepsTo old deed left
    call_step old d now (Calls k own) left makes step =
        subst (λ (i : ℕ). Step (old.disk i) own.call own.answer left) (sym makes.0) (subst (λ (m : Made). Step (old.disk d) m.call m.answer left) (sym makes.1) step)
    call_step old d now (CallsIn e k own call heard) left makes step =
        subst (λ (i : ℕ). Step (old.disk i) own.call own.answer left) (sym makes.0) (subst (λ (m : Made). Step (old.disk d) m.call m.answer left) (sym makes.1) step)
    call_step old d now (Starts e) left makes step = absurd makes
    call_step old d now (Begins e task) left makes step = absurd makes
    call_step old d now (Stops e) left makes step = absurd makes

    call_disks : (disk : ℕ → DiskState) (d : ℕ) (now : Made) (deed : Deed) (left : DiskState) → MakesCall d now deed → (k : ℕ) → disks_by disk deed left k ≡ with_disk disk d left k
    call_disks disk d now (Calls i own) left makes k = ap (λ (j : ℕ). with_disk disk j left k) makes.0
    call_disks disk d now (CallsIn e i own call heard) left makes k = ap (λ (j : ℕ). with_disk disk j left k) makes.0
    call_disks disk d now (Starts e) left makes k = absurd makes
    call_disks disk d now (Begins e task) left makes k = absurd makes
    call_disks disk d now (Stops e) left makes k = absurd makes

    -- and then more with no call
    pub goes_by_call : (old : World) (before : Deeds) (d : ℕ) (now : Made) (deed : Deed) (more : Deeds) (left : DiskState) → old.deeds h ≡ before → ((k : ℕ) → old.first k ≡ 0) → MakesCall d now deed → MayDo c h before deed → MakeNone more
        → DoesFrom c h (before ++ deed ∷ []) more → Step (old.disk d) now.call now.answer left → Goes h old (done_by h (deed ∷ more)) (before ++ deed ∷ more) (with_disk old.disk d left)
    goes_by_call old before d now deed more left is all makes may none rest step =
        let w : World = after old (Does h deed) left in
        let on : Goes h w (done_by h more) ((before ++ deed ∷ []) ++ more) w.disk = goes_silent w (before ++ deed ∷ []) more (did_more old before deed left is) all none rest in
        one_more old before deed left (done_by h more) more (with_disk old.disk d left) is may (call_step old d now deed left makes step) all
        (record { new = on.new; goes = on.goes; own = on.own; others = on.others; disks = λ k. on.disks k ∙ call_disks old.disk d now deed left makes k; firsts = on.firsts })

    -- IT STOPS

    -- by one entry, after which it has done nothing
    pub goes_stopped : (old : World) (entry : Entry) (left : DiskState) (disk : ℕ → DiskState) → GoesTo c old (entry ∷ []) (after old entry left)
        → ((g : ℕ) → (after old entry left).deeds g ≡ with_deeds old.deeds h [] g) → ((d : ℕ) → (after old entry left).disk d ≡ disk d) → ((d : ℕ) → (after old entry left).first d ≡ old.first d) → Goes h old (entry ∷ []) [] disk
    goes_stopped old entry left disk goes deeds disks firsts =
        record {
          new = after old entry left;
          goes = goes;
          own = deeds h ∙ own_deeds old.deeds [];
          others = λ g not. deeds g ∙ other_deeds old.deeds [] g not;
          disks = disks;
          firsts = firsts;
        }
