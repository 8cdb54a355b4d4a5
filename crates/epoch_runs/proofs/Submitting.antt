-- Whoever submits in an epoch by what it knows there submits what is due: behind a command for which a client may ask all that carries the table over stands.
use Rattle.std.specs.Prelude.{slice_get, slice_index_or, map, Contains, Option, None}
use Rattle.std.proofs.Common.{ℕ, zero, suc, ◌<◌, ◌≡◌, true, false, true≢false, inl, inr, Some, List, [], ◌∷◌, length, refl, sym, subst, ap, ◌∙◌, arith}
use Rattle.std.proofs.lemmas.Bool.{eqb-true}
use Rattle.std.proofs.lemmas.List.Elements.{at_from_Contains}
use Rattle.std.proofs.lemmas.Option.{slice_get_within}
use Rattle.lock_command.specs.declared.command.Command.{Command}
use Rattle.lock_command.specs.Command.{spelling, is_submittable}
use Rattle.paxos_block.specs.Shape.{Shape}
use Rattle.host.specs.Host.{Operation, Submitting, Recovering, Attempt, Attempts, Memory, Host, Running, input_of, learned_of}
use Rattle.world.specs.Entry.{Filled, Start, Stop, Begin, Called, Torn, Crashed, Lost, Migrated, is_of}
use Rattle.world.specs.World.{IsRun, ReadsBack}
use Rattle.world.specs.Chosen.{at, migrated, IsMigrated}
use Rattle.world_safety.specs.Goes.{ProposesWith}
use Rattle.world_safety.specs.Tracks.{AreChosen, IsTrue, IsTrueOf, IsTrueDoing}
use Rattle.world_safety.proofs.Runs.Tracks.{all_true, IsPutBefore, put_by_then}
use Rattle.endless.specs.Epochs.{IsCallAt}
use Rattle.endless.specs.Headline.{IsDue, SubmitsWhatIsDue}
use Rattle.endless.proofs.Puts.{one_spelled, learned_chosen}
use Rattle.epoch_deeds.specs.Knowing.{HasClients}
use Rattle.epoch_runs.specs.Submitting.{AllSubmitByKnowing}

-- an element stands somewhere
stands_at : {X : Type 0} (xs : List X) (x : X) (k : ℕ) → k < length xs → ((d : X) → slice_index_or xs k d ≡ x) → slice_get xs k ≡ Some x
stands_at [] x k within is = absurd (omega (arith, within))
stands_at {X = X} (y ∷ xs) x zero within is = ap (λ (z : X). Some z) (is y)
stands_at (y ∷ xs) x (suc k) within is = stands_at xs x k (omega (arith, within)) is

index_of : {X : Type 0} (xs : List X) (x : X) → Contains xs x → (k : ℕ) × (slice_get xs k ≡ Some x)
index_of xs x is = let there = at_from_Contains xs x is in (there.0, stands_at xs x there.0 there.1 there.2)

-- a place before another one of a list has an element
within_has : {X : Type 0} (xs : List X) (k : ℕ) → k < length xs → (x : X) × (slice_get xs k ≡ Some x)
within_has [] k within = absurd (omega (arith, within))
within_has (x ∷ xs) zero within = (x, refl)
within_has (x ∷ xs) (suc k) within = within_has xs k (omega (arith, within))

-- WHO PUTS SOMETHING IN

input_is : (operation : Operation) (v : List ℕ) → input_of operation ≡ Some v → (command : Command) × (operation ≡ Submitting command) × (v ≡ spelling command)
input_is (Submitting command) v is = (command, refl, (let same : spelling command ≡ v = cc in sym same))
input_is Recovering v is = absurd (cc)

-- whoever proposes makes a call
is_call : (c : Shape) (log : List Filled) (i h : ℕ) (memory : Memory) (doing : Attempt) (value : List ℕ) (entry : Filled) → slice_get log i ≡ Some entry → is_of h entry ≡ true → ProposesWith c h memory doing entry value → IsCallAt log i h
is_call c log i h memory doing value (Called g disk call answer left) is of proposes = (disk, call, answer, left, is ∙ ap (λ (j : ℕ). Some (Called j disk call answer left)) (eqb-true g h of))
is_call c log i h memory doing value (Start g) is of proposes = absurd proposes
is_call c log i h memory doing value (Stop g) is of proposes = absurd proposes
is_call c log i h memory doing value (Begin g task) is of proposes = absurd proposes
is_call c log i h memory doing value (Torn g disk call left) is of proposes = absurd proposes
is_call c log i h memory doing value (Crashed disk left) is of proposes = absurd proposes
is_call c log i h memory doing value (Lost disk) is of proposes = absurd proposes
is_call c log i h memory doing value (Migrated disks commands) is of proposes = absurd proposes

module _ (c : Shape) (log : List Filled) (over : List Command) (run : IsRun c log) (fresh : migrated log ≡ []) (carried : (k : ℕ) (wanted : Command) → slice_get over k ≡ Some wanted → is_submittable wanted ≡ false)
    (submits : AllSubmitByKnowing c log over) where
  none_migrated : (slot : ℕ) (value : List ℕ) → IsMigrated log slot value → ⊥
  none_migrated slot value is = absurd (let gone : IsMigrated [] slot value = subst (λ (l : List Command). slice_get (map spelling l) slot ≡ Some value) fresh is in cc)

  -- at this place of the log it is due
  abbrev DueAt : ℕ → Type 0
  DueAt i =
      (h : ℕ) (memory : Memory) (doing : Attempt) (command : Command) → IsCallAt log i h → (at c log i).host h ≡ Running memory → memory.doing ≡ Some (Attempts doing) → doing.operation ≡ Submitting command →
      IsDue (slice_get over (length memory.learned)) command

  -- where that is so at all places before, no client's command was learned in one of the first slots
  module _ (i h : ℕ) (before : (j : ℕ) → j < i → DueAt j) (memory : Memory) (running : (at c log i).host h ≡ Running memory) where
    chosen : AreChosen c log i memory.learned
    chosen = subst (λ (host : Host). AreChosen c log i (learned_of host)) running (learned_chosen c log run i h)

    put_first : (k : ℕ) (earlier wanted : Command) → ReadsBack earlier → is_submittable earlier ≡ true → slice_get over k ≡ Some wanted → IsPutBefore c log run i k (spelling earlier) → ⊥
    put_first k earlier wanted reads client here is =
        let put = is.put in
        let by = input_is put.doing.operation (spelling earlier) put.input in
        let known : IsTrue c log is.place put.host put.memory = subst (IsTrueOf c log is.place put.host) put.running (all_true c log run is.place put.host) in
        let under_way : IsTrueDoing c log is.place put.host (length put.memory.learned) (Some (Attempts put.doing)) = subst (IsTrueDoing c log is.place put.host (length put.memory.learned)) put.does known.doing in
        let begun = under_way.0 by.0 by.1 in
        let call = is_call c log is.place put.host put.memory put.doing (spelling earlier) is.entry is.is put.of put.proposes in
        let due = before is.place is.before put.host put.memory put.doing by.0 call put.running put.does by.1 in
        let same_command : by.0 ≡ wanted = subst (λ (o : Option Command). IsDue o by.0) (ap (slice_get over) (sym put.on_slot) ∙ here) due in
        let same : earlier ≡ by.0 = one_spelled earlier by.0 reads begun.reads by.2 in
        true≢false (sym client ∙ ap is_submittable (same ∙ same_command) ∙ carried k wanted here)

    none_first : (k : ℕ) (earlier wanted : Command) → slice_get memory.learned k ≡ Some earlier → is_submittable earlier ≡ true → slice_get over k ≡ Some wanted → ⊥
    none_first k earlier wanted found client here =
        let known = chosen k earlier found in
        elim (put_by_then c log run i k (spelling earlier) known.1) [
          | inl put ↦ put_first k earlier wanted known.0 client here put
          | inr first ↦ none_migrated k (spelling earlier) first
        ]

    behind : (wanted command : Command) → slice_get over (length memory.learned) ≡ Some wanted → HasClients memory.learned → command ≡ wanted
    behind wanted command here clients =
        let at_index = index_of memory.learned clients.0 clients.1 in
        let inside = slice_get_within memory.learned at_index.0 clients.0 at_index.1 in
        let long = slice_get_within over (length memory.learned) wanted here in
        let other = within_has over at_index.0 (omega (arith, inside, long)) in
        absurd (none_first at_index.0 clients.0 other.0 at_index.1 clients.2 other.1)

    due_by : (command : Command) (o : Option Command) → slice_get over (length memory.learned) ≡ o → HasClients memory.learned → is_submittable command ≡ true → IsDue o command
    due_by command None here clients client = client
    due_by command (Some wanted) here clients client = behind wanted command here clients

  due_at : (i : ℕ) → ((j : ℕ) → j < i → DueAt j) → DueAt i
  due_at i before h memory doing command call running does operation =
      elim (submits i h memory doing command call running does operation) [
        | inl due ↦ due
        | inr clients ↦ due_by i h before memory running command (slice_get over (length memory.learned)) refl clients.0 clients.1
      ]

  due_below : (n j : ℕ) → j < n → DueAt j
  due_below zero j below = absurd (omega (arith, below))
  due_below (suc n) j below = due_at j (λ k before. due_below n k (omega (arith, before, below)))

  pub what_is_due : SubmitsWhatIsDue c log over
  what_is_due i h memory doing command call running does operation = due_below (suc i) i (omega arith) h memory doing command call running does operation
