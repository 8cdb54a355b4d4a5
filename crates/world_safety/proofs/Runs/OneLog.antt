-- What is chosen in a run is a list, which grows by at most one value with an entry.
use Rattle.std.specs.Prelude.{slice_get, map}
use Rattle.std.proofs.Common.{ℕ, zero, suc, ◌<◌, ◌≤◌, ◌≡◌, ◌⊎◌, inl, inr, Some, List, [], ◌∷◌, ◌++◌, length, refl, sym, subst, ap, ◌∙◌, arith}
use Rattle.std.proofs.lemmas.Bool.{cases_lt}
use Rattle.std.proofs.lemmas.Option.{slice_get_within}
use Rattle.attempt.specs.Setup.{Setup}
use Rattle.lock_command.specs.Command.{spelling}
use Rattle.paxos_block.specs.Shape.{Shape}
use Rattle.host.specs.Host.{Memory, Stopped, Running}
use Rattle.world.specs.Entry.{Filled, Called}
use Rattle.world.specs.World.{IsRun}
use Rattle.world.specs.Chosen.{at, IsChosenAt, migrated, IsChosen, IsLog}
use Rattle.world.proofs.Runs.{begins_migrated}
use Rattle.agreement.proofs.Slots.{value_below, pushed}
use Rattle.world_safety.specs.Log.{IsLogBefore}
use Rattle.world_safety.specs.Tracks.{IsChosenBefore, IsTrue, IsTrueOf}
use Rattle.world_safety.proofs.Runs.Deciding.{chooses_at}
use Rattle.world_safety.proofs.Runs.Knowing.{later_chosen}
use Rattle.world_safety.proofs.Runs.Tracks.{all_true, none_before, one_before, one_value}

get_front : {A : Type 0} (l : List A) (x : A) (k : ℕ) (y : A) → slice_get l k ≡ Some y → slice_get (l ++ x ∷ []) k ≡ Some y
get_front [] x k y is = absurd (cc)
get_front (z ∷ l) x zero y is = is
get_front (z ∷ l) x (suc k) y is = get_front l x k y is

pub get_last : {A : Type 0} (l : List A) (x : A) → slice_get (l ++ x ∷ []) (length l) ≡ Some x
get_last [] x = refl
get_last (z ∷ l) x = get_last l x

module _ (c : Shape) (log : List Filled) (run : IsRun c log) where
  -- WHAT AN ENTRY CHOOSES

  slot_is : (i slot : ℕ) (v : List ℕ) (is : IsChosenAt c log i slot v) → length is.hears.memory.learned ≡ slot
  slot_is i slot v is = ap (λ (s : Setup). s.slot) (sym is.hears.is_setup) ∙ is.on_slot

  -- at one entry it is of one slot
  one_slot : (i j k : ℕ) (v u : List ℕ) → IsChosenAt c log i j v → IsChosenAt c log i k u → j ≡ k
  one_slot i j k v u first second =
      let both : Some (Called first.hears.host first.hears.disk first.hears.call first.hears.answer first.hears.left) ≡ Some (Called second.hears.host second.hears.disk second.hears.call second.hears.answer second.hears.left) =
      sym first.hears.entry ∙ second.hears.entry in
      let host : first.hears.host ≡ second.hears.host = cc in
      let runs : Running first.hears.memory ≡ Running second.hears.memory = sym first.hears.running ∙ ap (λ (h : ℕ). (at c log i).host h) host ∙ second.hears.running in
      let same : first.hears.memory ≡ second.hears.memory = cc in
      sym (slot_is i j v first) ∙ ap (λ (m : Memory). length m.learned) same ∙ slot_is i k u second

  -- all slots before were chosen before
  lower : (i slot k : ℕ) (v : List ℕ) → IsChosenAt c log i slot v → k < slot → (u : List ℕ) × IsChosenBefore c log i k u
  lower i slot k v is below =
      let hears = is.hears in
      let known : IsTrue c log i hears.host hears.memory = subst (IsTrueOf c log i hears.host) hears.running (all_true c log run i hears.host) in
      let here = slot_is i slot v is in
      let found = value_below hears.memory.learned k (omega arith) in
      (spelling found.0, (known.learned k found.0 found.1).1)

  now : (i s : ℕ) (v : List ℕ) → IsChosenAt c log i s v → IsChosenBefore c log (suc i) s v
  now i s v is = inl (record { place = i; before = omega arith; is = is })

  -- it was chosen before, or it is now
  before_or_now : (i s : ℕ) (v : List ℕ) → 0 < i → IsChosenBefore c log (suc i) s v → IsChosenBefore c log i s v ⊎ IsChosenAt c log i s v
  before_or_now i s v behind (inr is) = inl (inr (behind, is.1))
  before_or_now i s v behind (inl is) = elim (cases_lt is.place i) [
    | inl earlier ↦ inl (inl (record { place = is.place; before = earlier; is = is.is }))
    | inr not_earlier ↦ (let same : is.place ≡ i = (let b = is.before in omega arith) in inr (subst (λ (j : ℕ). IsChosenAt c log j s v) same is.is))
  ]

  -- THE LOG

  module _ (i : ℕ) (behind : 0 < i) (values : List (List ℕ)) (is : IsLogBefore c log i values) where
    log_same : ((s : ℕ) (v : List ℕ) → IsChosenAt c log i s v → slice_get values s ≡ Some v) → IsLogBefore c log (suc i) values
    log_same none =
        record {
          chosen = λ s v found. later_chosen c log i s v (is.chosen s v found);
          all = λ s v chosen. elim (before_or_now i s v behind chosen) [ inl before ↦ is.all s v before | inr at_i ↦ none s v at_i ];
        }

    log_more : (slot : ℕ) (value : List ℕ) → IsChosenAt c log i slot value → slot ≡ length values → IsLogBefore c log (suc i) (values ++ value ∷ [])
    log_more slot value chosen last =
        record {
          chosen = λ s v found. elim (pushed values value s v found) [
            | inl old ↦ later_chosen c log i s v (is.chosen s v old)
            | inr new ↦ (let here : slot ≡ s = last ∙ sym new.0 in now i s v (subst (λ (u : List ℕ). IsChosenAt c log i s u) new.1 (subst (λ (k : ℕ). IsChosenAt c log i k value) here chosen)))
          ];
          all = λ s v was. elim (before_or_now i s v behind was) [
            | inl before ↦ get_front values value s v (is.all s v before)
            | inr at_i ↦ (let here : s ≡ slot = one_slot i s slot v value at_i chosen in
                let one : value ≡ v = one_value c log run i i s v value at_i (subst (λ (k : ℕ). IsChosenAt c log i k value) (sym here) chosen) in
                subst (λ (u : List ℕ). slice_get (values ++ value ∷ []) s ≡ Some u) one (subst (λ (k : ℕ). slice_get (values ++ value ∷ []) k ≡ Some value) (sym (here ∙ last)) (get_last values value)))
          ];
        }

    not_beyond : (slot : ℕ) (value : List ℕ) → IsChosenAt c log i slot value → slot ≤ length values
    not_beyond slot value chosen = elim (cases_lt (length values) slot) [
      | inr within ↦ within
      | inl beyond ↦ (let found = lower i slot (length values) value chosen beyond in
          absurd (let less = slice_get_within values (length values) found.0 (is.all (length values) found.0 found.1) in omega arith))
    ]

    again : (slot : ℕ) (value : List ℕ) → IsChosenAt c log i slot value → slot < length values → (s : ℕ) (v : List ℕ) → IsChosenAt c log i s v → slice_get values s ≡ Some v
    again slot value chosen within s v at_i =
        let here : s ≡ slot = one_slot i s slot v value at_i chosen in
        let found = value_below values s (omega arith) in
        let one : v ≡ found.0 = one_before c log run i (suc i) s found.0 v (is.chosen s found.0 found.1) (now i s v at_i) in
        found.1 ∙ ap Some (sym one)

    log_next : (values' : List (List ℕ)) × IsLogBefore c log (suc i) values'
    log_next = elim (chooses_at c log i) [
      | inr none ↦ (values, log_same (λ s v at_i. absurd (none (s, v, at_i))))
      | inl some ↦ elim (cases_lt some.0 (length values)) [
        | inl within ↦ (values, log_same (again some.0 some.1 some.2 within))
        | inr behind ↦ (let most = not_beyond some.0 some.1 some.2 in let last : some.0 ≡ length values = omega arith in (values ++ some.1 ∷ [], log_more some.0 some.1 some.2 last))
      ]
    ]

  -- behind the first entry it is what was migrated, as no host has started yet
  stopped_first : (s : ℕ) (v : List ℕ) → IsChosenAt c log zero s v → ⊥
  stopped_first s v is = let both : Stopped ≡ Running is.hears.memory = is.hears.running in cc

  log_first : IsLogBefore c log (suc zero) (map spelling (migrated log))
  log_first = record { chosen = λ s v found. inr (omega arith, found); all = all }
    where
      all : (s : ℕ) (v : List ℕ) → IsChosenBefore c log (suc zero) s v → slice_get (map spelling (migrated log)) s ≡ Some v
      all s v (inr is) = is.1
      all s v (inl is) = let first : is.place ≡ zero = (let b = is.before in omega arith) in absurd (stopped_first s v (subst (λ (j : ℕ). IsChosenAt c log j s v) first is.is))

  -- at each place there is one
  pub log_before : (i : ℕ) → (values : List (List ℕ)) × IsLogBefore c log i values
  log_before zero = ([], record { chosen = λ s v is. absurd (cc); all = λ s v is. absurd (none_before c log run s v is) })
  log_before (suc zero) = (map spelling (migrated log), log_first)
  log_before (suc (suc i)) = let before = log_before (suc i) in log_next (suc i) (omega arith) before.0 before.1

  -- what was chosen before is chosen
  pub is_chosen : (i slot : ℕ) (v : List ℕ) → IsChosenBefore c log i slot v → IsChosen c log slot v
  is_chosen i slot v (inl is) = inl (is.place, is.is)
  is_chosen i slot v (inr is) = inr is.1

  -- and at the end it is the log
  module _ (values : List (List ℕ)) (is : IsLogBefore c log (length log) values) where
    in_time : (slot : ℕ) (v : List ℕ) → IsChosen c log slot v → IsChosenBefore c log (length log) slot v
    in_time slot v (inl chosen) = inl (record { place = chosen.0; before = slice_get_within log chosen.0 _ chosen.1.hears.entry; is = chosen.1 })
    in_time slot v (inr migrated) = inr (slice_get_within log 0 _ (begins_migrated log slot v migrated).first, migrated)

    pub log_is : IsLog c log values
    log_is =
        record {
          chosen = λ s v found. is_chosen (length log) s v (is.chosen s v found);
          whole = λ v chosen. (let found = is.all (length values) v (in_time (length values) v chosen) in let less = slice_get_within values (length values) v found in omega arith);
        }

    pub log_one : (slot : ℕ) (v : List ℕ) → IsChosen c log slot v → slice_get values slot ≡ Some v
    log_one slot v chosen = is.all slot v (in_time slot v chosen)
