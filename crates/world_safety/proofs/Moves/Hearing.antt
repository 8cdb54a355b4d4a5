-- An answer to a device call: the events of the attempt, and where all stands behind them.
use Rattle.torn_block.specs.Layout.{cluster_version}
use Rattle.std.specs.Prelude.{map}
use Rattle.std.specs.List.{All}
use Rattle.std.proofs.Common.{ℕ, ◌≡◌, ◌==◌, inl, inr, cond, Some, List, [], ◌∷◌, ◌++◌, length, append_assoc, refl, sym, subst, ap, ◌∙◌}
use Rattle.std.proofs.lemmas.List.{length-map}
use Rattle.std.proofs.lemmas.List.Elements.{All-head, All-tail}
use Rattle.disk.specs.Disk.{DiskState, Call, Answer}
use Rattle.attempt.specs.Answers.{Answered, Answers, on, heard_as, more}
use Rattle.attempt.specs.Prepared.{Proposes}
use Rattle.attempt.specs.Setup.{Setup}
use Rattle.attempt.proofs.More.{on_more, by_disk}
use Rattle.lock_command.specs.Command.{spelling}
use Rattle.paxos_block.specs.Shape.{Shape}
use Rattle.host.specs.Host.{Attempt, Memory, setup_of}
use Rattle.world.specs.Entry.{Filled, Called, disk_step}
use Rattle.world.specs.World.{World}
use Rattle.agreement.specs.Event.{Event, state_after}
use Rattle.agreement.specs.Chosen.{IsInput}
use Rattle.agreement.specs.Log.{IsHistory, slots_after, events_of_slot}
use Rattle.attempt_safety.specs.Machine.{Machine}
use Rattle.attempt_safety.specs.Follows.{Follows}
use Rattle.attempt_safety.specs.Leads.{IsOfAttempt, Arrives, Leads}
use Rattle.attempt_safety.specs.Slots.{in_slot}
use Rattle.attempt_safety.proofs.Choosing.{chosen as chosen_by, proposed as proposed_by}
use Rattle.attempt_safety.proofs.Following.{leads}
use Rattle.attempt_safety.proofs.Slotting.{events_append, moves_on, events_here, learned_same}
use Rattle.world_safety.specs.Goes.{Carries}
use Rattle.world_safety.specs.Knows.{Knows}
use Rattle.world_safety.specs.Marks.{KeepsMarks}
use Rattle.world_safety.specs.Tied.{Moves, machine, TiedBut}
use Rattle.attempt.specs.Votes.{TellsVotes}
use Rattle.world_safety.proofs.Moves.Due.{IsCall, Due, due_of}
use Rattle.world_safety.proofs.Moves.Settling.{Ready, ready}
use Rattle.world_safety.proofs.Moves.Changing.{Changes, but_then, known_then, marks_then}
use Rattle.world_safety.proofs.Moves.Machines.{machine_runs, input_append, input_in, slot_in}
use Rattle.world_safety.proofs.Moves.OneBlock.{with_disks}
use Rattle.attempt.proofs.Votes.{votes_more}

-- the value is the attempt's own, and the attempt now proposes it in its slot
pub record IsPutIn (s : Setup) (heard : List Answered) (j : ℕ) (v : List ℕ) : Type 0 where
  pub on_slot : j ≡ s.slot
  pub input : s.input ≡ Some v
  pub proposes : Proposes s (on heard) v

-- The attempt has heard the answer: the machines have come to where hosts and disks stand, but for what the host does next.
pub record IsAnswerHeard (c : Shape) (w w' : World) (ms : Moves) (h : ℕ) (m : Memory) (t : Attempt) (heard : List Answered) : Type 0 where
  pub early : Moves
  pub tied : TiedBut c w' (ms ++ early) h
  pub learned : (slots_after (ms ++ early)).learned h ≡ map spelling m.learned
  pub follows : Follows (setup_of c h m t.operation) heard (machine (ms ++ early) (length m.learned))
  pub knows : (d : ℕ) → Knows (w'.disk d) (setup_of c h m t.operation) (on heard) d ((machine (ms ++ early) (length m.learned)).cell h d)
  pub votes : (d : ℕ) → TellsVotes cluster_version (on heard d)
  pub inputs : (j : ℕ) (v : List ℕ) → IsInput (events_of_slot j early) v → IsPutIn (setup_of c h m t.operation) heard j v
  pub carries : Carries (machine (ms ++ early) (length m.learned)) (setup_of c h m t.operation) (on heard)
  pub marks : KeepsMarks c w w'

module _ (c : Shape) (w : World) (ms : Moves) (h k : ℕ) (call : Call) (answer : Answer) (left : List ℕ) (m : Memory) (t : Attempt) (now : IsCall c w ms h k call answer left m t) (known : Due c w ms h k call answer left m t now) where
  open now use {tied, step}
  open known use {run, trying, answered, is, step_by, due_at, reached, waiting, phase_is, may, inside, image, image_then, shows}

  abbrev s : Setup
  s = setup_of c h m t.operation

  abbrev f : Answers
  f = on t.heard

  abbrev slot : ℕ
  slot = length m.learned

  abbrev x : Answered
  x = record { disk = k; heard = heard_as answer }

  abbrev new : DiskState
  new = disk_step (w.disk k) (Called h k call answer left)

  -- THE ATTEMPT'S EVENTS

  abbrev e : Filled
  e = Called h k call answer left

  abbrev disks : ℕ → DiskState
  disks d = cond (k == d) (disk_step (w.disk d) e) (w.disk d)

  module _ (r : Ready c w ms h k m t (heard_as answer)) where
    abbrev ms1 : Moves
    ms1 = ms ++ r.pre

    lead : Leads s (events_of_slot slot ms1) t.heard x
    lead = leads s (events_of_slot slot ms1) t.heard x (record { version = refl; is_host = run.below }) (machine_runs c.disks ms1 slot r.tied.history) r.trying.follows answered r.allows

    abbrev ms2 : Moves
    ms2 = ms1 ++ in_slot slot lead.events

    history_then : IsHistory c.disks ms2
    history_then = moves_on s ms1 t.heard x lead r.tied.history (sym (ap length r.learned ∙ length-map m.learned spelling))

    here_then : machine ms2 slot ≡ state_after (events_of_slot slot ms1 ++ lead.events)
    here_then = ap state_after (events_here slot ms1 lead.events)

    arrives : Arrives s t.heard x (machine ms1 slot) (machine ms2 slot)
    arrives = subst (Arrives s t.heard x (machine ms1 slot)) (sym here_then) lead.arrives

    changes : Changes c w ms h k call answer left m t now known r lead.events
    changes = record { history = history_then; others = arrives.others; block = arrives.block }

    votes_then : (d : ℕ) → TellsVotes cluster_version (more f k (heard_as answer) d)
    votes_then = by_disk f k (heard_as answer) (λ d a. TellsVotes cluster_version a) (votes_more cluster_version (f k) (heard_as answer) (trying.votes k) shows) (λ d off. trying.votes d)

    abbrev early : Moves
    early = r.pre ++ in_slot slot lead.events

    regroup : ms2 ≡ ms ++ early
    regroup = append_assoc ms r.pre (in_slot slot lead.events)

    abbrev heard : List Answered
    heard = t.heard ++ x ∷ []

    input_event : (events : List (Event (List ℕ))) → All (IsOfAttempt s (on heard)) events → (v : List ℕ) → IsInput events v → (s.input ≡ Some v) × Proposes s (on heard) v
    input_event [] all v input = absurd input
    input_event (first ∷ events) all v (inl puts) = (let one = All-head (IsOfAttempt s (on heard)) first events all in (one.input v puts, one.proposes v puts))
    input_event (first ∷ events) all v (inr rest) = input_event events (All-tail (IsOfAttempt s (on heard)) first events all) v rest

    input_then : (j : ℕ) (v : List ℕ) → IsInput (events_of_slot j early) v → IsPutIn s heard j v
    input_then j v input =
        elim (input_append (events_of_slot j r.pre) (events_of_slot j (in_slot slot lead.events)) v (subst (λ (es : List (Event (List ℕ))). IsInput es v) (events_append j r.pre (in_slot slot lead.events)) input)) [
          | inl before ↦ absurd (r.quiet j v before)
          | inr later ↦ (let put = input_event lead.events lead.own v (input_in j slot lead.events v later) in record { on_slot = slot_in j slot lead.events v later; input = put.0; proposes = put.1 })
        ]

    hears_by : IsAnswerHeard c w (with_disks w disks) ms h m t heard
    hears_by =
        record {
          early = early;
          tied = subst (λ (l : Moves). TiedBut c (with_disks w disks) l h) regroup (but_then c w ms h k call answer left m t now known r lead.events changes);
          learned = subst (λ (l : Moves). (slots_after l).learned h ≡ map spelling m.learned) regroup (ap (λ (l : ℕ → List (List ℕ)). l h) (learned_same slot ms1 lead.events) ∙ r.learned);
          follows = subst (λ (l : Moves). Follows s heard (machine l slot)) regroup arrives.follows;
          knows = subst (λ (l : Moves). (d : ℕ) → Knows (disks d) s (on heard) d ((machine l slot).cell h d)) regroup (subst (λ (g : Answers). (d : ℕ) → Knows (disks d) s g d ((machine ms2 slot).cell h d)) (sym (on_more t.heard x)) (known_then c w ms h k call answer left m t now known r lead.events changes));
          votes = subst (λ (g : Answers). (d : ℕ) → TellsVotes cluster_version (g d)) (sym (on_more t.heard x)) votes_then;
          inputs = input_then;
          carries = subst (λ (l : Moves). Carries (machine l slot) s (on heard)) regroup (subst (λ (n : Machine). Carries n s (on heard)) (sym here_then) (record {
            proposed = λ v proposes. proposed_by s (events_of_slot slot ms1) t.heard x v lead proposes;
            chosen = λ v chooses. chosen_by s (events_of_slot slot ms1) t.heard x v lead chooses;
          }));
          marks = marks_then c w ms h k call answer left m t now known r lead.events changes;
        }

-- each answer is a few events of the attempt
pub hears : (c : Shape) (w : World) (ms : Moves) (h k : ℕ) (call : Call) (answer : Answer) (left : List ℕ) (m : Memory) (t : Attempt) → IsCall c w ms h k call answer left m t
    → IsAnswerHeard c w (with_disks w (λ d. cond (k == d) (disk_step (w.disk d) (Called h k call answer left)) (w.disk d))) ms h m t (t.heard ++ record { disk = k; heard = heard_as answer } ∷ [])
hears c w ms h k call answer left m t now =
    let known = due_of c w ms h k call answer left m t now in
    hears_by c w ms h k call answer left m t now known (ready c w ms h k call answer left m t now known)
