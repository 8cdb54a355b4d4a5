-- A recovery that answers has missed nothing that was chosen before it began, nor before the attempt that found its slot empty.
use Rattle.std.specs.Prelude.{IsTrue, is_none, slice_get, map}
use Rattle.std.proofs.Common.{ℕ, zero, suc, ◌+◌, ◌-◌, ◌<◌, ◌≤◌, ◌≡◌, ◌⊎◌, inl, inr, Bool, true, false, Option, Some, None, List, [], ◌∷◌, ◌++◌, length, append_assoc, refl, sym, subst, ap, ap₂, ◌∙◌, arith}
use Rattle.std.proofs.Math.Path.{fun_ext}
use Rattle.std.proofs.lemmas.Bool.{cases_Bool, cases_eq}
use Rattle.std.proofs.lemmas.List.{length-map}
use Rattle.std.proofs.lemmas.Option.{slice_get_within}
use Rattle.lock_command.specs.Command.{spelling}
use Rattle.attempt.specs.Answers.{Answered, on}
use Rattle.attempt.specs.Calls as attempt
use Rattle.attempt.specs.Setup.{Setup}
use Rattle.paxos_block.specs.Shape.{Shape}
use Rattle.host.specs.declared.answer.HostAnswer.{HostAnswer}
use Rattle.host.specs.declared.answer.HostAnswer.TheVariants.{Recovered}
use Rattle.host.specs.declared.task.Task.TheVariants.{Recover}
use Rattle.host.specs.Host.{Attempt, Doing, Attempts, Memory, Host, Stopped, Running, setup_of, idles, said_of}
use Rattle.world.specs.Entry.{Filled, Begin, is_of, host_step}
use Rattle.world.specs.World.{World, IsRun}
use Rattle.world.specs.Chosen.{at, IsChosenAt, migrated}
use Rattle.world.proofs.Histories.{starts}
use Rattle.world.proofs.Runs.{each, migrated_fits}
use Rattle.agreement.specs.Majority.{IsMajority}
use Rattle.agreement.specs.State.{put, Cell, away, read_one, none_opened, Mind}
use Rattle.agreement.specs.State.Mind.{Opening}
use Rattle.agreement.specs.Chosen.{IsChosen, IsEmpty}
use Rattle.agreement.specs.Event.{Event, is_at, at_stage, all_away, after}
use Rattle.agreement.specs.Event.Event.{Starts}
use Rattle.agreement.specs.Log.{Slots, MayMove, AllMayMove, moved, moves, none_learned, IsHistory, slots_after}
use Rattle.agreement.specs.Log.Move.{At}
use Rattle.agreement.proofs.Puts.{all_put}
use Rattle.agreement.proofs.Slots.{no_shorter, chosen_below, holds_all_reached}
use Rattle.agreement.proofs.Steps.{state_by-append, may_early, may_late}
use Rattle.attempt_safety.specs.Follows.{StandsIn, Agrees, Follows}
use Rattle.attempt_safety.specs.Machine.{Machine}
use Rattle.attempt_safety.proofs.Beginning.{mind_none}
use Rattle.world_safety.specs.Goes.{Has, IsTryingAt}
use Rattle.world_safety.specs.Claims.{HasHeardNothing, EmptyShows, MissesNothing}
use Rattle.world_safety.specs.Tied.{Moves, machine, HostAt, IsDoing, IsRunning, IsTrying}
use Rattle.world_safety.specs.Tracks.{IsChosenBefore, Counts, IsTrue as IsTrueOfHost, IsTrueOf}
use Rattle.world_safety.proofs.Moves.Moving.{chosen_later}
use Rattle.world_safety.proofs.Runs.Tracks.{all_true}
use Rattle.world_safety.proofs.Moves.Machines.{machine_is}
use Rattle.world_safety.proofs.Runs.Places.{host_next, host_stays, at_end}
use Rattle.world_safety.proofs.Runs.Tracks.{moves_at, tied_at, step_at, later_places, chosen_before}

-- WHERE NOTHING WAS HEARD

-- a host tries a slot, or not
tries_in : (w : World) (h n : ℕ) (m : Memory) → w.host h ≡ Running m → (o : Option Doing) → m.doing ≡ o → IsTryingAt w h n ⊎ (IsTryingAt w h n → ⊥)
tries_in w h n m running (Some (Attempts t)) does = elim (cases_eq (length m.learned) n) [
  | inl here ↦ inl (record { memory = m; doing = t; running = running; does = does; is = here })
  | inr other ↦ inr (λ trying. (
      let both : Running m ≡ Running trying.memory = sym running ∙ trying.running in
      let same : m ≡ trying.memory = cc in
      other (ap (λ (k : Memory). length k.learned) same ∙ trying.is)))
]
tries_in w h n m running other does = inr (λ trying. (
    let both : Running m ≡ Running trying.memory = sym running ∙ trying.running in
    let same : m ≡ trying.memory = cc in
    let some : m.doing ≡ Some (Attempts trying.doing) = ap (λ (k : Memory). k.doing) same ∙ trying.does in
    absurd (cc)))

tries_at : (w : World) (h n : ℕ) (host : Host) → w.host h ≡ host → IsTryingAt w h n ⊎ (IsTryingAt w h n → ⊥)
tries_at w h n Stopped stopped = inr (λ trying. (let both : Stopped ≡ Running trying.memory = sym stopped ∙ trying.running in absurd (cc)))
tries_at w h n (Running m) running = tries_in w h n m running m.doing refl

tries_or_not : (w : World) (h n : ℕ) → IsTryingAt w h n ⊎ (IsTryingAt w h n → ⊥)
tries_or_not w h n = tries_at w h n (w.host h) refl

-- more than half of no disks is none
majority_asks : (disks : ℕ) (passes : ℕ → Bool) → IsMajority disks passes → 1 ≤ disks
majority_asks zero passes most = absurd (omega arith)
majority_asks (suc n) passes most = omega arith

-- what stands at a place is put there
put_back : {A : Type 0} (f : ℕ → A) (k : ℕ) (x : A) → f k ≡ x → put f k x ≡ f
put_back {A = A} f k x is = fun_ext (all_put (λ (i : ℕ) (y : A). y ≡ f i) f k x (sym is) (λ i off. refl))

-- A host that has just begun an attempt might begin it once more: nothing changes by that.
started_again : (m : Machine) (h : ℕ) → m.mind h ≡ Opening none_opened → ((d : ℕ) → (m.cell h d).stage ≡ away) → after m (Starts h) ≡ m
started_again m h mind stages =
    let cells : all_away (m.cell h) ≡ m.cell h = fun_ext (λ (d : ℕ). ap (λ (stage : ℕ). at_stage (m.cell h d) stage) (sym (stages d))) in
    ap₂ (λ (cell : ℕ → ℕ → Cell (List ℕ)) (minds : ℕ → Mind (List ℕ)). record { cell = cell; mind = minds; proposed = m.proposed; accepted = m.accepted })
    (put_back m.cell h (all_away (m.cell h)) (sym cells)) (put_back m.mind h (Opening none_opened) mind)

again : (x : Slots (List ℕ)) (n : ℕ) (e : Event (List ℕ)) → after (x.slot n) e ≡ x.slot n → moved x (At n e) ≡ x
again x n e same = ap (λ (slot : ℕ → Machine). record { slot = slot; learned = x.learned }) (put_back x.slot n (after (x.slot n) e) (sym same))

module _ (c : Shape) (log : List Filled) (run : IsRun c log) where
  -- behind the moves before place i, and among those before place j, the host has begun an attempt on slot n
  record Since (i j h n : ℕ) : Type 0 where
    pub early : Moves
    pub late : Moves
    pub is : moves_at c log run j ≡ (moves_at c log run i ++ early) ++ At n (Starts h) ∷ late

  since_later : (i j k h n : ℕ) → j ≤ k → Since i j h n → Since i k h n
  since_later i j k h n le since =
      let later = later_places c log run j k le in
      record {
        early = since.early;
        late = since.late ++ later.more;
        is = later.is ∙ ap (λ (l : Moves). l ++ later.more) since.is ∙ append_assoc (moves_at c log run i ++ since.early) (At n (Starts h) ∷ since.late) later.more;
      }

  -- it is among the moves of an entry behind i
  since_now : (i j h n : ℕ) (more : Moves) → i ≤ j → moves_at c log run (suc j) ≡ moves_at c log run j ++ more → Has more (At n (Starts h)) → Since i (suc j) h n
  since_now i j h n more le is has =
      let later = later_places c log run i j le in
      let start = moves_at c log run i in
      record {
        early = later.more ++ has.0;
        late = has.1;
        is = is ∙ ap (λ (l : Moves). l ++ more) later.is ∙ ap (λ (l : Moves). (start ++ later.more) ++ l) has.2
            ∙ sym (append_assoc (start ++ later.more) has.0 (At n (Starts h) ∷ has.1)) ∙ ap (λ (l : Moves). l ++ At n (Starts h) ∷ has.1) (append_assoc start later.more has.0);
      }

  -- a host that begins to recover tries nothing yet
  pub idle_before : (host : Host) (m : Memory) (t : Attempt) → IsTrue (idles host) → host ≡ Running m → m.doing ≡ Some (Attempts t) → ⊥
  idle_before Stopped m t idle is does = absurd (cc)
  idle_before (Running n) m t idle is does =
      let same : n ≡ m = cc in
      let busy : is_none n.doing ≡ false = ap (λ (o : Option Doing). is_none o) (ap (λ (k : Memory). k.doing) same ∙ does) in
      cc

  -- A host does not try slot n at place i.
  module _ (i h n : ℕ) (not_yet : IsTryingAt (at c log i) h n → ⊥) where
    -- where it tries the slot at a later place, it has begun to behind i
    abbrev BegunSince : ℕ → Type 0
    BegunSince j = IsTryingAt (at c log j) h n → Since i j h n

    own_step : (j : ℕ) → i ≤ j → BegunSince j → (e : Filled) → slice_get log j ≡ Some e → is_of h e ≡ true → BegunSince (suc j)
    own_step j le before e found of trying =
        let step = step_at c log run j h e found of in
        let now : host_step c h ((at c log j).host h) e ≡ Running trying.memory = sym (host_next c log j e h found of) ∙ trying.running in
        elim ((step.goes.host h of).begun trying.memory trying.doing now trying.does) [
          | inl was ↦ since_later i j (suc j) h n (omega arith) (before (subst (IsTryingAt (at c log j) h) trying.is was))
          | inr has ↦ since_now i j h n step.goes.more le step.is (subst (λ (k : ℕ). Has step.goes.more (At k (Starts h))) trying.is has)
        ]

    other_step : (j : ℕ) → BegunSince j → (at c log (suc j)).host h ≡ (at c log j).host h → BegunSince (suc j)
    other_step j before same trying =
        since_later i j (suc j) h n (omega arith) (before (record { memory = trying.memory; doing = trying.doing; running = sym same ∙ trying.running; does = trying.does; is = trying.is }))

    next_step : (j : ℕ) → i ≤ j → BegunSince j → (o : Option Filled) → slice_get log j ≡ o → BegunSince (suc j)
    next_step j le before None found = other_step j before (ap (λ (w : World). w.host h) (at_end c log j found))
    next_step j le before (Some e) found = elim (cases_Bool (is_of h e)) [
      | inl of ↦ own_step j le before e found of
      | inr off ↦ other_step j before (host_stays c log j e h found off)
    ]

    begun_since : (k : ℕ) → BegunSince (k + i)
    begun_since zero = let none : i ≡ zero + i = omega arith in subst BegunSince none (λ trying. absurd (not_yet trying))
    begun_since (suc k) =
        let number : suc (k + i) ≡ suc k + i = omega arith in
        subst BegunSince number (next_step (k + i) (omega arith) (begun_since k) (slice_get log (k + i)) refl)

    begun_at : (j : ℕ) → i ≤ j → BegunSince j
    begun_at j le = let number : (j - i) + i ≡ j = omega arith in subst BegunSince number (begun_since (j - i))

    -- SO IT MISSES NOTHING

    -- what was chosen before is below an empty slot
    below_empty : (j slot : ℕ) (value : List ℕ) → Since i j h n → IsEmpty c.disks (machine (moves_at c log run j) n) h → IsChosenBefore c log i slot value → slot < n
    below_empty j slot value since empty chosen =
        let start = moves_at c log run i in
        let all = tied_at c log run j in
        let history = subst (IsHistory c.disks) since.is all.history in
        let found = subst (λ (m : Machine). IsEmpty c.disks m h) (sym (machine_is ((start ++ since.early) ++ At n (Starts h) ∷ since.late) n)) (subst (λ (l : Moves). IsEmpty c.disks (machine l n) h) since.is empty) in
        let below = (no_shorter c.disks (start ++ since.early) since.late n h history found).0 in
        let at_i = chosen_before c log run i slot value chosen in
        let early_history = may_early moved (MayMove c.disks) none_learned (start ++ since.early) (At n (Starts h) ∷ since.late) history in
        let then_chosen = chosen_later c.disks start since.early slot value early_history at_i in
        below slot value (subst (λ (m : Machine). IsChosen c.disks m value) (sym (machine_is (start ++ since.early) slot)) then_chosen)

    begun_below : (j slot : ℕ) (value : List ℕ) → i ≤ j → IsTryingAt (at c log j) h n → IsEmpty c.disks (machine (moves_at c log run (suc j)) n) h → IsChosenBefore c log i slot value → slot < n
    begun_below j slot value le trying empty chosen = below_empty (suc j) slot value (since_later i j (suc j) h n (omega arith) (begun_at j le trying)) empty chosen

  -- A host tries slot n at place i, and its attempt has heard nothing: it might as well begin now.
  module _ (i h n : ℕ) (trying : IsTryingAt (at c log i) h n) (nothing : trying.doing.heard ≡ []) where
    abbrev start_moves : Moves
    start_moves = moves_at c log run i

    abbrev now : Slots (List ℕ)
    now = slots_after start_moves

    abbrev own : Setup
    own = setup_of c h trying.memory trying.doing.operation

    follows : Follows own [] (machine start_moves n)
    follows =
        let running : IsRunning c (at c log i) start_moves h trying.memory = subst (HostAt c (at c log i) start_moves h) trying.running ((tied_at c log run i).hosts h) in
        let tries : IsTrying c (at c log i) start_moves h trying.memory trying.doing = subst (IsDoing c (at c log i) start_moves h trying.memory) trying.does running.doing in
        subst (λ (k : ℕ). Follows own [] (machine start_moves k)) trying.is (subst (λ (l : List Answered). Follows own l (machine start_moves (length trying.memory.learned))) nothing tries.follows)

    stands_now : 1 ≤ c.disks → StandsIn own attempt.Opening (on []) (now.slot n)
    stands_now some = subst (StandsIn own attempt.Opening (on [])) (sym (machine_is start_moves n)) (subst (Agrees own (on []) (machine start_moves n)) (starts own some) follows.agrees)

    -- to begin changes nothing
    begins_again : 1 ≤ c.disks → moved now (At n (Starts h)) ≡ now
    begins_again some =
        let stands = stands_now some in
        again now n (Starts h) (started_again (now.slot n) h (stands.mind ∙ sym (mind_none own)) (λ d. stands.stages d refl))

    -- so what was chosen before is below the slot, where it is found empty
    fresh_below : (j slot : ℕ) (value : List ℕ) → 1 ≤ c.disks → i ≤ j → IsEmpty c.disks (machine (moves_at c log run j) n) h → IsChosenBefore c log i slot value → slot < n
    fresh_below j slot value some le empty chosen =
        let later = later_places c log run i j le in
        let history : IsHistory c.disks (start_moves ++ later.more) = subst (IsHistory c.disks) later.is (tied_at c log run j).history in
        let first = may_early moved (MayMove c.disks) none_learned start_moves later.more history in
        let rest = may_late moved (MayMove c.disks) none_learned start_moves later.more history in
        let same : now ≡ moved now (At n (Starts h)) = sym (begins_again some) in
        let found : IsEmpty c.disks ((moves now later.more).slot n) h =
        subst (λ (x : Slots (List ℕ)). IsEmpty c.disks (x.slot n) h) (state_by-append moved none_learned start_moves later.more)
        (subst (λ (m : Machine). IsEmpty c.disks m h) (sym (machine_is (start_moves ++ later.more) n)) (subst (λ (l : Moves). IsEmpty c.disks (machine l n) h) later.is empty)) in
        let below = chosen_below c.disks now (holds_all_reached c.disks start_moves first) later.more n h
        (subst (λ (x : Slots (List ℕ)). AllMayMove c.disks x later.more) same rest) (subst (λ (x : Slots (List ℕ)). IsEmpty c.disks ((moves x later.more).slot n) h) same found) in
        below slot value (subst (λ (m : Machine). IsChosen c.disks m value) (sym (machine_is start_moves slot)) (chosen_before c log run i slot value chosen))

  -- WHERE A RECOVERY ANSWERS

  -- every chosen slot is one of the cluster's
  answer_fits : (place slot : ℕ) (value : List ℕ) → IsChosenAt c log place slot value → slot < c.slots
  answer_fits place slot value chosen =
      let hears = chosen.hears in
      let running : IsRunning c (at c log place) (moves_at c log run place) hears.host hears.memory = subst (HostAt c (at c log place) (moves_at c log run place) hears.host) hears.running ((tied_at c log run place).hosts hears.host) in
      let trying : IsTrying c (at c log place) (moves_at c log run place) hears.host hears.memory hears.doing = subst (IsDoing c (at c log place) (moves_at c log run place) hears.host hears.memory) hears.does running.doing in
      let here : length hears.memory.learned ≡ slot = ap (λ (s : Setup). s.slot) (sym hears.is_setup) ∙ chosen.on_slot in
      let fits = trying.fits in
      omega arith

  slot_fits : (i slot : ℕ) (value : List ℕ) → IsChosenBefore c log i slot value → slot < c.slots
  slot_fits i slot value (inl is) = answer_fits is.place slot value is.is
  slot_fits i slot value (inr is) = let few = migrated_fits c log run in let within = slice_get_within (map spelling (migrated log)) slot value is.1 in let size = length-map (migrated log) spelling in omega arith

  -- a slot that is found empty was asked of some disk
  some_disk : (m : Machine) (h : ℕ) → IsEmpty c.disks m h → 1 ≤ c.disks
  some_disk m h empty = majority_asks c.disks (is_at read_one (m.cell h)) empty.prepared.majority

  -- at place i the host has heard nothing of slot n
  below_by : (i h n : ℕ) → HasHeardNothing (at c log i) h n → (j slot : ℕ) (value : List ℕ) → i ≤ j → IsTryingAt (at c log j) h n → IsEmpty c.disks (machine (moves_at c log run (suc j)) n) h → IsChosenBefore c log i slot value → slot < n
  below_by i h n nothing j slot value le trying empty chosen = elim (tries_or_not (at c log i) h n) [
    | inl tries ↦ fresh_below i h n tries (nothing tries) (suc j) slot value (some_disk (machine (moves_at c log run (suc j)) n) h empty) (omega arith) empty chosen
    | inr not_yet ↦ begun_below i h n not_yet j slot value le trying empty chosen
  ]

  answered : (i h n : ℕ) → HasHeardNothing (at c log i) h n → (j slot : ℕ) (value : List ℕ) → i ≤ j → (e : Filled) → slice_get log j ≡ Some e → is_of h e ≡ true → (m : Memory) → (at c log (suc j)).host h ≡ Running m → m.said ≡ Some (Recovered n) → n ≡ length m.learned
      → IsChosenBefore c log i slot value → slot < n
  answered i h n nothing j slot value le e found of m running said n_is chosen =
      let step = step_at c log run j h e found of in
      let now : host_step c h ((at c log j).host h) e ≡ Running m = sym (host_next c log j e h found of) ∙ running in
      elim ((step.goes.host h of).empty m n now said) [
        | inl full ↦ (let fits = slot_fits i slot value chosen in omega arith)
        | inr empty ↦
            (let trying : IsTryingAt (at c log j) h n = subst (IsTryingAt (at c log j) h) (sym n_is) empty.0 in
            let none : IsEmpty c.disks (machine (moves_at c log run (suc j)) n) h =
            subst (λ (l : Moves). IsEmpty c.disks (machine l n) h) (sym step.is) (subst (λ (k : ℕ). IsEmpty c.disks (machine (moves_at c log run j ++ step.goes.more) k) h) (sym n_is) empty.1) in
            below_by i h n nothing j slot value le trying none chosen)
      ]

  said_by : (host : Host) (n : ℕ) → said_of host ≡ Some (Recovered n) → (m : Memory) × (host ≡ Running m) × (m.said ≡ Some (Recovered n))
  said_by Stopped n is = absurd (cc)
  said_by (Running m) n is = (m, refl, is)

  pub empty_shows : EmptyShows c log
  empty_shows i j host n slot value nothing le says chosen =
      let number : j + 1 ≡ suc j = omega arith in
      let who = said_by ((at c log (suc j)).host host) n (subst (λ (k : ℕ). said_of ((at c log k).host host) ≡ Some (Recovered n)) number says.says) in
      let known : IsTrueOfHost c log (suc j) host who.0 = subst (IsTrueOf c log (suc j) host) who.1 (all_true c log run (suc j) host) in
      answered i host n nothing j slot value le says.entry says.is says.of_host who.0 who.1 who.2 (subst (λ (o : Option HostAnswer). Counts o (length who.0.learned)) who.2 known.counts) chosen

  -- a recovery begins where its host tries nothing
  pub misses_nothing : MissesNothing c log
  misses_nothing i j host n slot value is chosen =
      let idle : IsTrue (idles ((at c log i).host host)) = (each c log i (Begin host (Recover is.tries)) run is.begins).0 in
      empty_shows i j host n slot value (λ trying. absurd (idle_before ((at c log i).host host) trying.memory trying.doing idle trying.running trying.does)) is.order is.says chosen
