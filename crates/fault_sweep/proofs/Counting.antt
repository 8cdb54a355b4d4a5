-- How many variants there are by an event.
use Rattle.std.specs.Prelude.{take, drop, slice_get, sum_by}
use Rattle.std.proofs.Common.{ℕ, suc, ◌+◌, ◌*◌, ◌<◌, ◌≤◌, ◌≡◌, Option, Some, None, List, [], ◌∷◌, ◌++◌, length, get_or, map, refl, sym, ap, ◌∙◌, subst, arith, length-append, append_assoc}
use Rattle.std.specs.Option.{option_map}
use Rattle.std.proofs.lemmas.List.{length-map, take-map, drop-map}
use Rattle.std.proofs.lemmas.List.Sums.{sum_by-append, sum_by-cons}
use Rattle.std.proofs.lemmas.Option.{slice_get-get_or, slice_get-map}
use Rattle.paxos_block.specs.Shape.{Shape}
use Rattle.lock_script.specs.declared.event.Event as code
use Rattle.world.specs.Entry.{Filled}
use Rattle.world.specs.World.{world}
use Rattle.world.specs.Happens.{Event, happen}
use Rattle.world.specs.Opening.{Opening, begun, run_of, world_after}
use Rattle.simulator.specs.declared.simulated_cluster.Said.{Said}
use Rattle.fault_sweep.specs.declared.tally.Sweep.{Sweep}
use Rattle.simulator.specs.Events.{event_of, events_of}
use Rattle.simulator.specs.Kept.{Kept, LeadsTo, Brings}
use Rattle.fault_sweep.specs.Sweeping.{changes, changes_before, changes_at, changed, recovered_behind, variants_below}
use Rattle.fault_sweep.specs.Replayed.{Played, IsOf, GoesOn}
use Rattle.simulator.proofs.OneMore.{past_leads, take_on}
use Rattle.fault_sweep.proofs.Replaying.{goes_further}

-- before event i: what is kept is of the events before it, and the variants of those have been counted
pub record HasSwept (o : Opening) (events : List code.Event) (i : ℕ) (k : Kept) (swept : Sweep) : Type 0 where
  pub own : k.shape ≡ o.shape
  pub leads : LeadsTo (run_of o (events_of (take i events))) k
  pub runs : swept.runs ≡ length (variants_below o (events_of events) i)
  pub few : swept.runs ≤ 6 * i
  pub recovered : swept.recovered ≡ sum_by (recovered_behind o) (variants_below o (events_of events) i)
  pub counted : (swept.recovered ≤ 2 * swept.runs) × (swept.wrong ≤ swept.runs)
  pub wrong : swept.wrong ≡ 0
  pub first : swept.first ≡ None

-- what is put before event i
changes_are : (o : Opening) (events : List code.Event) (i : ℕ) (event : code.Event) → i < length events → event ≡ get_or events i event
    → changes_at o (events_of events) i ≡ changes o.shape (world_after o (events_of (take i events))) (event_of event)
changes_are o events i event within is =
    let before : take i (events_of events) ≡ events_of (take i events) = take-map event_of i events in
    let found : slice_get (events_of events) i ≡ Some (event_of event) =
    slice_get-map event_of events i ∙ ap (option_map event_of) (slice_get-get_or events i event within ∙ ap Some (sym is)) in
    ap (λ (l : List Event). changes_before o.shape (world_after o l) (slice_get (events_of events) i)) before
    ∙ ap (changes_before o.shape (world_after o (events_of (take i events)))) found

more_below : (o : Opening) (events : List Event) (i : ℕ) → length (variants_below o events (i + 1)) ≡ length (variants_below o events i) + length (changes_at o events i)
more_below o events i =
    let next : i + 1 ≡ suc i = omega arith in
    ap (λ (n : ℕ). length (variants_below o events n)) next
    ∙ length-append (variants_below o events i) (map (changed events i) (changes_at o events i))
    ∙ ap (λ (n : ℕ). length (variants_below o events i) + n) (length-map (changes_at o events i) (changed events i))

-- what is summed over a list's image, is summed over the list
sum_over : {A B : Type 0} (f : B → ℕ) (g : A → B) (xs : List A) → sum_by f (map g xs) ≡ sum_by (λ x. f (g x)) xs
sum_over f g [] = refl
sum_over f g (x ∷ xs) =
    sum_by-cons f (g x) (map g xs) ∙ ap (λ (n : ℕ). f (g x) + n) (sum_over f g xs) ∙ sym (sum_by-cons (λ y. f (g y)) x xs)

recovered_more : (o : Opening) (events : List Event) (i : ℕ) → sum_by (recovered_behind o) (variants_below o events (i + 1))
    ≡ sum_by (recovered_behind o) (variants_below o events i) + sum_by (λ change. recovered_behind o (changed events i change)) (changes_at o events i)
recovered_more o events i =
    let next : i + 1 ≡ suc i = omega arith in
    ap (λ (n : ℕ). sum_by (recovered_behind o) (variants_below o events n)) next
    ∙ sum_by-append (recovered_behind o) (variants_below o events i) (map (changed events i) (changes_at o events i))
    ∙ ap (λ (n : ℕ). sum_by (recovered_behind o) (variants_below o events i) + n) (sum_over (recovered_behind o) (changed events i) (changes_at o events i))

-- one event more
pub one_swept : (o : Opening) (events : List code.Event) (i : ℕ) (event : code.Event) (old new : Kept) (put : List code.Event) (before after : Sweep) (said : Option Said)
    → i < length events → event ≡ get_or events i event → HasSwept o events i old before
    → ((log : List Filled) → LeadsTo log old → events_of put ≡ changes old.shape (world old.shape log) (event_of event))
    → length put ≤ 6 → after.runs ≡ before.runs + length put
    → after.recovered ≡ before.recovered + sum_by (λ change. recovered_behind o (changed (events_of events) i (event_of change))) put → (after.recovered ≤ 2 * after.runs) × (after.wrong ≤ after.runs)
    → (after.wrong ≡ before.wrong) × (after.first ≡ before.first)
    → ((log : List Filled) → LeadsTo log old → Brings log (event_of event) old new said)
    → HasSwept o events (i + 1) new after
one_swept o events i event old new put before after said within is so_far puts few runs recovered counted right brings =
    let log = run_of o (events_of (take i events)) in
    let here : Brings (happen old.shape (begun o) (events_of (take i events))) (event_of event) old new said =
    subst (λ (s : Shape). Brings (happen s (begun o) (events_of (take i events))) (event_of event) old new said) (sym so_far.own) (brings log so_far.leads) in
    let own : new.shape ≡ o.shape = here.shape ∙ so_far.own in
    let same : events_of put ≡ changes_at o (events_of events) i =
    puts log so_far.leads ∙ ap (λ (s : Shape). changes s (world s log) (event_of event)) so_far.own ∙ sym (changes_are o events i event within is) in
    let many : length put ≡ length (changes_at o (events_of events) i) = sym (length-map put event_of) ∙ ap length same in
    record {
      own = own;
      leads = subst (λ (s : Shape). LeadsTo (happen s (begun o) (events_of (take (i + 1) events))) new) own
          (past_leads (begun o) (take i events) event old new said here (take (i + 1) events) (take_on events i event within is));
      runs = runs ∙ ap (λ (n : ℕ). n + length put) so_far.runs ∙ ap (λ (n : ℕ). length (variants_below o (events_of events) i) + n) many ∙ sym (more_below o (events_of events) i);
      few = omega (arith, runs, few, so_far.few);
      recovered =
          recovered
          ∙ ap (λ (n : ℕ). n + sum_by (λ change. recovered_behind o (changed (events_of events) i (event_of change))) put) so_far.recovered
          ∙ ap (λ (n : ℕ). sum_by (recovered_behind o) (variants_below o (events_of events) i) + n)
          (sym (sum_over (λ change. recovered_behind o (changed (events_of events) i change)) event_of put)
          ∙ ap (sum_by (λ change. recovered_behind o (changed (events_of events) i change))) same)
          ∙ sym (recovered_more o (events_of events) i);
      counted = counted;
      wrong = right.0 ∙ so_far.wrong;
      first = right.1 ∙ so_far.first;
    }

-- a variant is the events before the place, the one that is put there, and the others
changed_is : (events : List code.Event) (i : ℕ) (change : code.Event) → (events_of (take i events) ++ event_of change ∷ []) ++ events_of (drop i events) ≡ changed (events_of events) i (event_of change)
changed_is events i change =
    append_assoc (events_of (take i events)) (event_of change ∷ []) (events_of (drop i events))
    ∙ ap (λ (l : List Event). l ++ event_of change ∷ events_of (drop i events)) (sym (take-map event_of i events))
    ∙ ap (λ (l : List Event). take i (events_of events) ++ event_of change ∷ l) (sym (drop-map event_of i events))

pub variant_goes : (o : Opening) (events : List code.Event) (i : ℕ) (change : code.Event) (fresh early put late : Played) → IsOf (record { opening = o; events = [] }) fresh
    → GoesOn fresh early (events_of (take i events)) → GoesOn early put (event_of change ∷ []) → GoesOn put late (events_of (drop i events))
    → IsOf (record { opening = o; events = changed (events_of events) i (event_of change) }) late
variant_goes o events i change fresh early put late is before here after =
    let begun = goes_further fresh early put (events_of (take i events)) (event_of change ∷ []) before here in
    let all = goes_further fresh put late (events_of (take i events) ++ event_of change ∷ []) (events_of (drop i events)) begun after in
    subst (λ (l : List Event). IsOf (record { opening = o; events = l }) late) (changed_is events i change) (all (record { opening = o; events = [] }) is)
