-- Who put in what is chosen, in a run that begins on zeros.
use Rattle.std.specs.Prelude.{slice_get}
use Rattle.std.proofs.Common.{ℕ, suc, ◌<◌, ◌≡◌, true, inl, inr, Some, List, length, map, refl, sym, subst, ap, ◌∙◌, arith, ◌≤◌, ◌⊎◌}
use Rattle.std.proofs.lemmas.Bool.{eqb-true}
use Rattle.std.proofs.lemmas.List.{length-map}
use Rattle.std.proofs.lemmas.Option.{slice_get_within}
use Rattle.lock_command.specs.declared.command.Command.{Command}
use Rattle.lock_command.specs.Command.{spelling}
use Rattle.lock_command.specs.Reading.{decoded}
use Rattle.paxos_block.specs.Shape.{Shape}
use Rattle.host.specs.Host.{Operation, Submitting, Recovering, Attempt, Attempts, Memory, Host, Stopped, Running, input_of, learned_of}
use Rattle.world.specs.Entry.{Filled, Start, Stop, Begin, Called, Torn, Crashed, Lost, Migrated, is_of}
use Rattle.world.specs.World.{IsRun, ReadsBack}
use Rattle.world.specs.Chosen.{at, migrated, IsMigrated, IsChosen}
use Rattle.world.proofs.Runs.{migrated_fits}
use Rattle.world_safety.specs.Goes.{ProposesWith}
use Rattle.world_safety.specs.Tracks.{IsChosenBefore, IsSubmittedBy, AreChosen, IsTrue, IsTrueOf, IsTrueDoing}
use Rattle.world_safety.specs.Tied.{HostAt, IsDoing, IsRunning, IsTrying}
use Rattle.world_safety.proofs.Runs.Tracks.{moves_at, tied_at, all_true, IsPutBefore, put_by_then}
use Rattle.endless.specs.Epochs.{IsCallAt}

-- with a call a host put the value in, which is the spelling of the command that it was submitting, for the slot behind those that it had learned
pub record IsPutBy (c : Shape) (log : List Filled) (slot : ℕ) (value : List ℕ) : Type 0 where
  pub place : ℕ
  pub host : ℕ
  pub memory : Memory
  pub doing : Attempt
  pub command : Command
  pub call : IsCallAt log place host
  pub running : (at c log place).host host ≡ Running memory
  pub does : memory.doing ≡ Some (Attempts doing)
  pub submits : doing.operation ≡ Submitting command
  pub spelled : value ≡ spelling command
  pub on_slot : slot ≡ length memory.learned
  pub begun : IsSubmittedBy log place host command

-- two commands of one spelling, each of which reads back
pub one_spelled : (command wanted : Command) → ReadsBack command → ReadsBack wanted → spelling command ≡ spelling wanted → command ≡ wanted
one_spelled command wanted one other same = let both : Some command ≡ Some wanted = sym one ∙ ap decoded same ∙ other in cc

module _ (c : Shape) (log : List Filled) (run : IsRun c log) where
  input_is : (operation : Operation) (v : List ℕ) → input_of operation ≡ Some v → (command : Command) × (operation ≡ Submitting command) × (v ≡ spelling command)
  input_is (Submitting command) v is = (command, refl, (let same : spelling command ≡ v = cc in sym same))
  input_is Recovering v is = absurd (cc)

  -- whoever proposes makes a call
  is_call : (i h : ℕ) (memory : Memory) (doing : Attempt) (value : List ℕ) (entry : Filled) → slice_get log i ≡ Some entry → is_of h entry ≡ true → ProposesWith c h memory doing entry value → IsCallAt log i h
  is_call i h memory doing value (Called g disk call answer left) is of proposes = (disk, call, answer, left, is ∙ ap (λ (j : ℕ). Some (Called j disk call answer left)) (eqb-true g h of))
  is_call i h memory doing value (Start g) is of proposes = absurd proposes
  is_call i h memory doing value (Stop g) is of proposes = absurd proposes
  is_call i h memory doing value (Begin g task) is of proposes = absurd proposes
  is_call i h memory doing value (Torn g disk call left) is of proposes = absurd proposes
  is_call i h memory doing value (Crashed disk left) is of proposes = absurd proposes
  is_call i h memory doing value (Lost disk) is of proposes = absurd proposes
  is_call i h memory doing value (Migrated disks commands) is of proposes = absurd proposes

  put_then : (i slot : ℕ) (value : List ℕ) → IsPutBefore c log run i slot value → IsPutBy c log slot value
  put_then i slot value is =
      let put = is.put in
      let by = input_is put.doing.operation value put.input in
      let known : IsTrue c log is.place put.host put.memory = subst (IsTrueOf c log is.place put.host) put.running (all_true c log run is.place put.host) in
      let under_way : IsTrueDoing c log is.place put.host (length put.memory.learned) (Some (Attempts put.doing)) = subst (IsTrueDoing c log is.place put.host (length put.memory.learned)) put.does known.doing in
      record {
        place = is.place;
        host = put.host;
        memory = put.memory;
        doing = put.doing;
        command = by.0;
        call = is_call is.place put.host put.memory put.doing value is.entry is.is put.of put.proposes;
        running = put.running;
        does = put.does;
        submits = by.1;
        spelled = by.2;
        on_slot = put.on_slot;
        begun = under_way.0 by.0 by.1;
      }

  -- it was put in so, or migrated
  put_or_migrated : (i slot : ℕ) (value : List ℕ) → IsChosenBefore c log i slot value → IsPutBy c log slot value ⊎ IsMigrated log slot value
  put_or_migrated i slot value chosen = elim (put_by_then c log run i slot value chosen) [ inl is ↦ inl (put_then i slot value is) | inr is ↦ inr is ]

  chosen_or_migrated : (slot : ℕ) (value : List ℕ) → IsChosen c log slot value → IsPutBy c log slot value ⊎ IsMigrated log slot value
  chosen_or_migrated slot value (inl is) = put_or_migrated (suc is.0) slot value (inl (record { place = is.0; before = omega arith; is = is.1 }))
  chosen_or_migrated slot value (inr is) = inr is

  -- a slot that was migrated is one of the first
  migrated_below : (slot : ℕ) (value : List ℕ) → IsMigrated log slot value → slot < length (migrated log)
  migrated_below slot value is = let within = slice_get_within (map spelling (migrated log)) slot value is in omega (arith, within, length-map (migrated log) spelling)

  -- behind these it was put in
  pub put_before : (i slot : ℕ) (value : List ℕ) → length (migrated log) ≤ slot → IsChosenBefore c log i slot value → IsPutBy c log slot value
  put_before i slot value past chosen = elim (put_or_migrated i slot value chosen) [ inl is ↦ is | inr is ↦ absurd (let below = migrated_below slot value is in omega (arith, below, past)) ]

  pub put_chosen : (slot : ℕ) (value : List ℕ) → length (migrated log) ≤ slot → IsChosen c log slot value → IsPutBy c log slot value
  put_chosen slot value past chosen = elim (chosen_or_migrated slot value chosen) [ inl is ↦ is | inr is ↦ absurd (let below = migrated_below slot value is in omega (arith, below, past)) ]

  put_fits : (slot : ℕ) (value : List ℕ) → IsPutBy c log slot value → slot < c.slots
  put_fits slot value put =
      let running : IsRunning c (at c log put.place) (moves_at c log run put.place) put.host put.memory = subst (HostAt c (at c log put.place) (moves_at c log run put.place) put.host) put.running ((tied_at c log run put.place).hosts put.host) in
      let trying : IsTrying c (at c log put.place) (moves_at c log run put.place) put.host put.memory put.doing = subst (IsDoing c (at c log put.place) (moves_at c log run put.place) put.host put.memory) put.does running.doing in
      let fits = trying.fits in
      omega (arith, fits, put.on_slot)

  -- what is chosen is chosen for a slot of the log
  pub chosen_fits : (slot : ℕ) (value : List ℕ) → IsChosen c log slot value → slot < c.slots
  chosen_fits slot value is = elim (chosen_or_migrated slot value is) [
    | inl put ↦ put_fits slot value put
    | inr first ↦ (let below = migrated_below slot value first in let few = migrated_fits c log run in omega (arith, below, few))
  ]

  -- what a host has learned was chosen, and reads back
  learned_true : (i : ℕ) (host : Host) (h : ℕ) → IsTrueOf c log i h host → AreChosen c log i (learned_of host)
  learned_true i Stopped h is = λ k command found. absurd (cc)
  learned_true i (Running m) h is = is.learned

  pub learned_chosen : (i h : ℕ) → AreChosen c log i (learned_of ((at c log i).host h))
  learned_chosen i h = learned_true i ((at c log i).host h) h (all_true c log run i h)
