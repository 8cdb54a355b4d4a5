-- The order of what is done is that of what is lived, and there each core is at each place what the deeds of its host make of it.
use Rattle.std.specs.Prelude.{take, drop, slice_get, ◌-◌}
use Rattle.std.proofs.Common.{ℕ, zero, suc, ◌≡◌, ◌==◌, ◌+◌, ◌<◌, ◌≤◌, ◌⊎◌, Bool, true, false, cond, Option, Some, None, List, [], ◌∷◌, ◌++◌, length, refl, sym, ◌∙◌, ap, inl, inr, arith}
use Rattle.std.proofs.lemmas.Bool.{cases_lt}
use Rattle.std.proofs.lemmas.List.Elements.{filter-append}
use Rattle.paxos_block.specs.Shape.{Shape}
use Rattle.host.specs.Host.{Memory, Host, Stopped, Running}
use Rattle.world.specs.Entry.{Filled, Start, Stop, Begin, Called, Torn, Crashed, Lost, Migrated, is_of, of_host, host_step, host_after}
use Rattle.endless.specs.Lived.{Lived, In, Crash, Loss, part, now}
use Rattle.epoch_deeds.specs.Deeds.{Deeds, Calls, CallsIn, Starts, Begins, Stops}
use Rattle.epoch_runs.specs.World.{Entry, Does, Breaks, BreaksIn, Ends, Crashes, Loses, Replaces, World, opening, no_deeds, deeds_after, after, Crashing, GoesFrom, Goes}
use Rattle.epoch_runs.specs.Living.{is_row, Showing, showing_next, shows_row, below, stops_below, has_stopped, lived_at, lived_from, lived_of, place_from, place_of, deeds_from, core_now}
use Rattle.epoch_runs.specs.Laws.{KeepsOrder, OrderIsKept}
use Rattle.epoch_runs.proofs.Hosts.{step, first_now}
use Rattle.epoch_runs.proofs.Lists.{after_both}

-- PLACES

place_rises : (c : Shape) (deeds : ℕ → Deeds) (i j : ℕ) (entries : List Entry) → i ≤ j → place_from c deeds i entries ≤ place_from c deeds j entries
place_rises c deeds zero j entries order = omega arith
place_rises c deeds (suc i) zero entries order = absurd (omega (arith, order))
place_rises c deeds (suc i) (suc j) [] order = omega arith
place_rises c deeds (suc i) (suc j) (entry ∷ entries) order = let rest = place_rises c (deeds_after deeds entry) i j entries (omega (arith, order)) in omega (arith, rest)

-- behind a list
get_behind : {A : Type 0} (one more : List A) (n : ℕ) → slice_get (one ++ more) (length one + n) ≡ slice_get more n
get_behind [] more n = ap (slice_get more) (let same : 0 + n ≡ n = omega arith in same)
get_behind (x ∷ one) more n = ap (slice_get (x ∷ one ++ more)) (let same : length (x ∷ one) + n ≡ suc (length one + n) = omega arith in same) ∙ get_behind one more n

get_within : {A : Type 0} (one more : List A) (n : ℕ) (x : A) → slice_get one n ≡ Some x → slice_get (one ++ more) n ≡ Some x
get_within [] more n x is = absurd (cc)
get_within (y ∷ one) more zero x is = is
get_within (y ∷ one) more (suc n) x is = get_within one more n x is

stands_from : (c : Shape) (deeds : ℕ → Deeds) (entries : List Entry) (i n : ℕ) (entry : Entry) (item : Lived) → slice_get entries i ≡ Some entry →
    slice_get (lived_at c (deeds_from deeds i entries) entry (drop (suc i) entries)) n ≡ Some item → slice_get (lived_from c deeds entries) (place_from c deeds i entries + n) ≡ Some item
stands_from c deeds [] i n entry item here there = absurd (cc)
stands_from c deeds (x ∷ entries) zero n entry item here there =
    let same : x ≡ entry = cc in
    ap (slice_get (lived_from c deeds (x ∷ entries))) (let none : 0 + n ≡ n = omega arith in none)
    ∙ get_within (lived_at c deeds x entries) (lived_from c (deeds_after deeds x) entries) n item (ap (λ (y : Entry). slice_get (lived_at c deeds y entries) n) same ∙ there)
stands_from c deeds (x ∷ entries) (suc i) n entry item here there =
    ap (slice_get (lived_from c deeds (x ∷ entries)))
    (let same : length (lived_at c deeds x entries) + place_from c (deeds_after deeds x) i entries + n ≡ length (lived_at c deeds x entries) + (place_from c (deeds_after deeds x) i entries + n) = omega arith in same)
    ∙ get_behind (lived_at c deeds x entries) (lived_from c (deeds_after deeds x) entries) (place_from c (deeds_after deeds x) i entries + n)
    ∙ stands_from c (deeds_after deeds x) entries i n entry item here there

-- CORES

-- behind a list, what is done in the epoch is that of the list, and then of the rest
taken : (e : ℕ) (one more : List Lived) (p : ℕ) → take (now e (length one + p) (one ++ more)) (part e (one ++ more)) ≡ part e one ++ take (now e p more) (part e more)
taken e [] more p = ap (λ (n : ℕ). take (now e n more) (part e more)) (let same : 0 + p ≡ p = omega arith in same)
taken e (In epoch entry ∷ one) more p =
    ap (λ (n : ℕ). take (now e n (In epoch entry ∷ one ++ more)) (part e (In epoch entry ∷ one ++ more))) (let same : length (In epoch entry ∷ one) + p ≡ suc (length one + p) = omega arith in same)
    ∙ either (epoch == e) (taken e one more p)
  where
    n : ℕ
    n = now e (length one + p) (one ++ more)

    rest : List Filled
    rest = part e (one ++ more)

    either : (b : Bool) → take n rest ≡ part e one ++ take (now e p more) (part e more) → take (cond b (suc n) n) (cond b (entry ∷ rest) rest) ≡ cond b (entry ∷ part e one) (part e one) ++ take (now e p more) (part e more)
    either true then = ap (λ (l : List Filled). entry ∷ l) then
    either false then = then
taken e (Crash disk left ∷ one) more p =
    ap (λ (n : ℕ). take (now e n (Crash disk left ∷ one ++ more)) (part e (Crash disk left ∷ one ++ more))) (let same : length (Crash disk left ∷ one) + p ≡ suc (length one + p) = omega arith in same)
    ∙ ap (λ (l : List Filled). Crashed disk (left e) ∷ l) (taken e one more p)
taken e (Loss disk ∷ one) more p =
    ap (λ (n : ℕ). take (now e n (Loss disk ∷ one ++ more)) (part e (Loss disk ∷ one ++ more))) (let same : length (Loss disk ∷ one) + p ≡ suc (length one + p) = omega arith in same)
    ∙ ap (λ (l : List Filled). Lost disk ∷ l) (taken e one more p)

module _ (crashing : Crashing) (c : Shape) (h e : ℕ) where
  -- what the host is by place p of what is lived, if it was this at first
  abbrev by_place : Host → List Lived → ℕ → Host
  by_place host lived p = host_after c h host (of_host h (take (now e p lived) (part e lived)))

  by_behind : (host : Host) (one more : List Lived) (p : ℕ) → by_place host (one ++ more) (length one + p) ≡ by_place (host_after c h host (of_host h (part e one))) more p
  by_behind host one more p =
      ap (λ (l : List Filled). host_after c h host (of_host h l)) (taken e one more p)
      ∙ ap (host_after c h host) (filter-append (is_of h) (part e one) (take (now e p more) (part e more)))
      ∙ after_both c h host (of_host h (part e one)) (of_host h (take (now e p more) (part e more)))

  cores_from : (entries : List Entry) (w : World) (i : ℕ) → GoesFrom crashing c w entries →
      by_place (core_now c h e w.deeds entries) (lived_from c w.deeds entries) (place_from c w.deeds i entries) ≡ core_now c h e (deeds_from w.deeds i entries) (drop i entries)
  cores_from entries w zero goes = refl
  cores_from [] w (suc i) goes = refl
  cores_from (entry ∷ entries) w (suc i) goes =
      by_behind (core_now c h e w.deeds (entry ∷ entries)) (lived_at c w.deeds entry entries) (lived_from c (deeds_after w.deeds entry) entries) (place_from c (deeds_after w.deeds entry) i entries)
      ∙ ap (λ (host : Host). by_place host (lived_from c (deeds_after w.deeds entry) entries) (place_from c (deeds_after w.deeds entry) i entries)) (step crashing c w entries e entry goes.0 h goes.1 goes.2).1
      ∙ cores_from entries (after w entry goes.0) i goes.2

  -- WHO RUNS

  -- the host stops in some epoch, or another does
  abbrev IsEnd : Lived → Type 0
  IsEnd (In epoch (Stop g)) = Unit {0}
  IsEnd (In epoch (Torn g k call left)) = Unit {0}
  IsEnd other = ⊥

  abbrev AreEnds : List Lived → Type 0
  AreEnds [] = Unit {0}
  AreEnds (x ∷ xs) = IsEnd x × AreEnds xs

  -- an entry by which the host stops, or that is of another
  stopped_by : (epoch : ℕ) (entry : Filled) (lived : List Lived) (p : ℕ) → host_step c h Stopped entry ≡ Stopped → by_place Stopped lived p ≡ Stopped → by_place Stopped (In epoch entry ∷ lived) (suc p) ≡ Stopped
  stopped_by epoch entry lived p stops rest = either (epoch == e)
    where
      mine : (b : Bool) → host_after c h Stopped (cond b (entry ∷ of_host h (take (now e p lived) (part e lived))) (of_host h (take (now e p lived) (part e lived)))) ≡ Stopped
      mine true = ap (λ (host : Host). by_place host lived p) stops ∙ rest
      mine false = rest

      either : (b : Bool) → host_after c h Stopped (of_host h (take (cond b (suc (now e p lived)) (now e p lived)) (cond b (entry ∷ part e lived) (part e lived)))) ≡ Stopped
      either true = mine (is_of h entry)
      either false = rest

  -- by a place of such a list it is what it was, or it has stopped
  abbrev HasEnded : Host → List Lived → ℕ → Type 0
  HasEnded host lived p = (by_place host lived p ≡ host) ⊎ (by_place host lived p ≡ Stopped)

  ended_by : (host : Host) (epoch : ℕ) (entry : Filled) (lived : List Lived) (p : ℕ) → host_step c h host entry ≡ Stopped → by_place Stopped lived p ≡ Stopped → HasEnded host lived p → HasEnded host (In epoch entry ∷ lived) (suc p)
  ended_by host epoch entry lived p stops stopped rest = either (epoch == e)
    where
      Either : Host → Type 0
      Either new = (new ≡ host) ⊎ (new ≡ Stopped)

      mine : (b : Bool) → Either (host_after c h host (cond b (entry ∷ of_host h (take (now e p lived) (part e lived))) (of_host h (take (now e p lived) (part e lived)))))
      mine true = inr (ap (λ (old : Host). by_place old lived p) stops ∙ stopped)
      mine false = rest

      either : (b : Bool) → Either (host_after c h host (of_host h (take (cond b (suc (now e p lived)) (now e p lived)) (cond b (entry ∷ part e lived) (part e lived)))))
      either true = mine (is_of h entry)
      either false = rest

  -- a host that has stopped stays so
  stays : (lived more : List Lived) (p : ℕ) → AreEnds lived → p ≤ length lived → by_place Stopped (lived ++ more) p ≡ Stopped
  stays lived more zero ends within = refl
  stays [] more (suc p) ends within = absurd (omega (arith, within))
  stays (In epoch (Stop g) ∷ lived) more (suc p) ends within = stopped_by epoch (Stop g) (lived ++ more) p refl (stays lived more p ends.1 (omega (arith, within)))
  stays (In epoch (Torn g k call left) ∷ lived) more (suc p) ends within = stopped_by epoch (Torn g k call left) (lived ++ more) p refl (stays lived more p ends.1 (omega (arith, within)))
  stays (In epoch (Start g) ∷ lived) more (suc p) ends within = absurd ends.0
  stays (In epoch (Begin g task) ∷ lived) more (suc p) ends within = absurd ends.0
  stays (In epoch (Called g k call answer left) ∷ lived) more (suc p) ends within = absurd ends.0
  stays (In epoch (Crashed k left) ∷ lived) more (suc p) ends within = absurd ends.0
  stays (In epoch (Lost k) ∷ lived) more (suc p) ends within = absurd ends.0
  stays (In epoch (Migrated disks log) ∷ lived) more (suc p) ends within = absurd ends.0
  stays (Crash disk left ∷ lived) more (suc p) ends within = absurd ends.0
  stays (Loss disk ∷ lived) more (suc p) ends within = absurd ends.0

  ended : (host : Host) (lived more : List Lived) (p : ℕ) → AreEnds lived → p ≤ length lived → HasEnded host (lived ++ more) p
  ended host lived more zero ends within = inl refl
  ended host [] more (suc p) ends within = absurd (omega (arith, within))
  ended host (In epoch (Stop g) ∷ lived) more (suc p) ends within =
      ended_by host epoch (Stop g) (lived ++ more) p refl (stays lived more p ends.1 (omega (arith, within))) (ended host lived more p ends.1 (omega (arith, within)))
  ended host (In epoch (Torn g k call left) ∷ lived) more (suc p) ends within =
      ended_by host epoch (Torn g k call left) (lived ++ more) p refl (stays lived more p ends.1 (omega (arith, within))) (ended host lived more p ends.1 (omega (arith, within)))
  ended host (In epoch (Start g) ∷ lived) more (suc p) ends within = absurd ends.0
  ended host (In epoch (Begin g task) ∷ lived) more (suc p) ends within = absurd ends.0
  ended host (In epoch (Called g k call answer left) ∷ lived) more (suc p) ends within = absurd ends.0
  ended host (In epoch (Crashed k left) ∷ lived) more (suc p) ends within = absurd ends.0
  ended host (In epoch (Lost k) ∷ lived) more (suc p) ends within = absurd ends.0
  ended host (In epoch (Migrated disks log) ∷ lived) more (suc p) ends within = absurd ends.0
  ended host (Crash disk left ∷ lived) more (suc p) ends within = absurd ends.0
  ended host (Loss disk ∷ lived) more (suc p) ends within = absurd ends.0

  stops_end : (g : ℕ) (stopped : ℕ → Bool) (n : ℕ) → AreEnds (stops_below g stopped n)
  stops_end g stopped zero = tt
  stops_end g stopped (suc n) = either (stopped n) (stops_end g stopped n)
    where
      either : (b : Bool) → AreEnds (stops_below g stopped n) → AreEnds (cond b (stops_below g stopped n) (In n (Stop g) ∷ stops_below g stopped n))
      either true rest = rest
      either false rest = (tt, rest)

  -- what is lived by one entry is one thing at most, or hosts stop
  short_or_ends : (deeds : ℕ → Deeds) (entry : Entry) (entries : List Entry) → (length (lived_at c deeds entry entries) ≤ 1) ⊎ AreEnds (lived_at c deeds entry entries)
  short_or_ends deeds (Does g (Calls k made)) entries = inl (either (showing_next g entries))
    where
      either : (next : Option Showing) → length (shows_row g k next) ≤ 1
      either None = omega arith
      either (Some s) = omega arith
  short_or_ends deeds (Does g (CallsIn epoch k made call heard)) entries = inl (either (is_row call heard))
    where
      either : (b : Bool) → length (cond b [] (In epoch (Called g k call heard []) ∷ [])) ≤ 1
      either true = omega arith
      either false = omega arith
  short_or_ends deeds (Does g (Starts epoch)) entries = inl (omega arith)
  short_or_ends deeds (Does g (Begins epoch task)) entries = inl (omega arith)
  short_or_ends deeds (Does g (Stops epoch)) entries = inl (omega arith)
  short_or_ends deeds (Breaks g k call) entries = inr (stops_end g (has_stopped c g (deeds g)) (below (deeds g)))
  short_or_ends deeds (BreaksIn epoch g k call) entries = inr (tt, stops_end g _ (below (deeds g)))
  short_or_ends deeds (Ends g) entries = inr (stops_end g (has_stopped c g (deeds g)) (below (deeds g)))
  short_or_ends deeds (Crashes k) entries = inl (omega arith)
  short_or_ends deeds (Loses k) entries = inl (omega arith)
  short_or_ends deeds (Replaces k first newest) entries = inl (omega arith)

  -- whoever runs at place p of what is lived does so by what was done before an entry whose place is no later
  record RunsBy (deeds : ℕ → Deeds) (entries : List Entry) (p : ℕ) (memory : Memory) : Type 0 where
    entry : ℕ
    by : place_from c deeds entry entries ≤ p
    runs : core_now c h e (deeds_from deeds entry entries) (drop entry entries) ≡ Running memory

  runs_from : (entries : List Entry) (w : World) (p : ℕ) (memory : Memory) → GoesFrom crashing c w entries → by_place (core_now c h e w.deeds entries) (lived_from c w.deeds entries) p ≡ Running memory → RunsBy w.deeds entries p memory
  runs_from [] w p memory goes runs = record { entry = 0; by = omega arith; runs = sym (nothing p) ∙ runs }
    where
      nothing : (q : ℕ) → by_place (core_now c h e w.deeds []) [] q ≡ core_now c h e w.deeds []
      nothing zero = refl
      nothing (suc q) = refl
  runs_from (entry ∷ entries) w p memory goes runs =
      elim (cases_lt p (length one)) [
        | inl within ↦ record { entry = 0; by = omega arith; runs = at_first within }
        | inr past ↦
            let q = p - length one in
            let is : p ≡ length one + q = omega (arith, past) in
            let rest = runs_from entries (after w entry goes.0) q memory goes.2 (behind q (ap (by_place old (one ++ more)) (sym is) ∙ runs)) in
            record { entry = suc rest.entry; by = (let low = rest.by in omega (arith, low, is)); runs = rest.runs }
      ]
    where
      one : List Lived
      one = lived_at c w.deeds entry entries

      more : List Lived
      more = lived_from c (deeds_after w.deeds entry) entries

      old : Host
      old = core_now c h e w.deeds (entry ∷ entries)

      behind : (q : ℕ) → by_place old (one ++ more) (length one + q) ≡ Running memory → by_place (core_now c h e (deeds_after w.deeds entry) entries) more q ≡ Running memory
      behind q is = ap (λ (host : Host). by_place host more q) (sym (step crashing c w entries e entry goes.0 h goes.1 goes.2).1) ∙ sym (by_behind old one more q) ∙ is

      at_zero : (q : ℕ) → q ≤ 0 → by_place old (one ++ more) q ≡ old
      at_zero zero low = refl
      at_zero (suc q) low = absurd (omega (arith, low))

      at_first : p < length one → old ≡ Running memory
      at_first within =
          elim (short_or_ends w.deeds entry entries) [
            | inl short ↦ sym (at_zero p (omega (arith, within, short))) ∙ runs
            | inr ends ↦
                elim (ended old one more p ends (omega (arith, within))) [
                  | inl same ↦ sym same ∙ runs
                  | inr stopped ↦ absurd (let clash : Stopped ≡ Running memory = sym stopped ∙ runs in cc)
                ]
          ]

-- THE ORDER IS KEPT

module _ (crashing : Crashing) (c : Shape) (entries : List Entry) (goes : Goes crashing c entries) where
  first : (e h : ℕ) → core_now c h e no_deeds entries ≡ Stopped
  first e h = first_now crashing c h e entries (opening c) goes refl

  keeps_order : KeepsOrder c entries
  keeps_order =
      record {
        rises = λ i j order. place_rises c no_deeds i j entries order;
        stands = λ i n entry item here there. stands_from c no_deeds entries i n entry item here there;
        cores = λ i e h.
            ap (λ (host : Host). host_after c h host (of_host h (take (now e (place_of c entries i) (lived_of c entries)) (part e (lived_of c entries))))) (sym (first e h))
            ∙ cores_from crashing c h e entries (opening c) i goes;
        runs = λ p e h memory running.
            (let by = runs_from crashing c h e entries (opening c) p memory goes
            (ap (λ (host : Host). host_after c h host (of_host h (take (now e p (lived_of c entries)) (part e (lived_of c entries))))) (first e h) ∙ running) in
            (by.entry, by.by, by.runs));
      }

pub order_is_kept : (crashing : Crashing) → OrderIsKept crashing
order_is_kept crashing c entries goes = keeps_order crashing c entries goes
