-- Behind an answer the host goes by the status of its attempt.
use Rattle.std.specs.Prelude.{map, nat_le, max, ◌-◌, if◌then◌else◌}
use Rattle.std.proofs.Common.{ℕ, ◌<◌, ◌≡◌, inr, Bool, true, false, Option, Some, None, List, [], ◌∷◌, ◌++◌, length, refl, subst}
use Rattle.torn_block.specs.Layout.{cluster_version}
use Rattle.torn_block.specs.declared.layout.TheConstants.{HOSTS}
use Rattle.attempt.specs.Answers.{Answered, on}
use Rattle.attempt.specs.Proposal.{ballot}
use Rattle.attempt.specs.Setup.{Setup}
use Rattle.attempt.specs.Status as attempt
use Rattle.attempt.specs.Status.{Status, Due, Ended, Decided, End, status, taken}
use Rattle.lock_command.specs.declared.command.Command.{Command}
use Rattle.lock_command.specs.Command.{spelling}
use Rattle.lock_command.specs.Reading.{decoded}
use Rattle.paxos_block.specs.Shape.{Shape}
use Rattle.attempt.specs.declared.refusal.Refusal.TheVariants as refusal
use Rattle.host.specs.declared.answer.HostAnswer.TheVariants.{Ack, Recovered, Refused}
use Rattle.host.specs.Host.{Attempt, Attempts, Memory, input_of, setup_of, says, does, begins, with_floor, learns, reply_after, is_submitted, after_learning, takes, tries_again, ended, by_status}
use Rattle.host.proofs.Hosts.{decoded_spelled}
use Rattle.world.specs.World.{World}
use Rattle.agreement.specs.Chosen.{IsCommitted, IsChosenBy, IsChosen, IsEmpty}
use Rattle.agreement.specs.Log.{slots_after, events_of_slot}
use Rattle.agreement.proofs.Agreeing.{commits_chosen}
use Rattle.agreement.proofs.Runs.{holds_reached}
use Rattle.attempt_safety.specs.Follows.{Agrees, Follows}
use Rattle.world_safety.specs.Knows.{Knows}
use Rattle.world_safety.specs.Tied.{Moves, machine, IsTrying, TiedBut}
use Rattle.attempt.specs.Votes.{IsLong, TellsVotes}
use Rattle.world_safety.proofs.Moves.Machines.{machine_runs}
use Rattle.world_safety.proofs.Moves.Hosts.{Late, stays_late, says_late, begins_late, goes_on_late, taught, but_learns, learned_then, learns_late}

module _ (c : Shape) (w : World) (ms : Moves) (h : ℕ) (m : Memory) (t : Attempt) (heard : List Answered) (tied : TiedBut c w ms h) (below : h < HOSTS) (fits : length m.learned < c.slots) (input : IsLong cluster_version (input_of t.operation))
    (learned : (slots_after ms).learned h ≡ map spelling m.learned) (follows : Follows (setup_of c h m t.operation) heard (machine ms (length m.learned)))
    (knows : (d : ℕ) → Knows (w.disk d) (setup_of c h m t.operation) (on heard) d ((machine ms (length m.learned)).cell h d)) (votes : (d : ℕ) → TellsVotes cluster_version (on heard d))
    (decides : (v : List ℕ) → status (setup_of c h m t.operation) (on heard) ≡ Ended (Decided v) → IsChosen c.disks (machine ms (length m.learned)) v) where
  abbrev s : Setup
  s = setup_of c h m t.operation

  abbrev going : Attempt
  going = record { operation = t.operation; tries = t.tries; heard = heard }

  abbrev trying : Option ℕ
  trying = Some (length m.learned)

  -- the attempt goes on
  due_late : Late c w ms h trying (does m (Attempts going))
  due_late =
      let now : IsTrying c w ms h (does m (Attempts going)) going = record { fits = fits; follows = follows; knows = knows; votes = votes; input = input } in
      stays_late c w ms h trying (does m (Attempts going)) tied (record { below = below; learned = learned; doing = now }) (λ other is. refl) (λ n is. absurd (cc))

  -- a value is chosen, which spells a command
  module _ (by : ℕ) (value : List ℕ) (chosen : IsChosenBy c.disks (machine ms (length m.learned)) by value) (command : Command) (reads : decoded value ≡ Some command) where
    spelled : value ≡ spelling command
    spelled = decoded_spelled value command reads

    abbrev now : Moves
    now = taught c w ms h m tied learned by value command spelled chosen

    but : TiedBut c w now h
    but = but_learns c w ms h m tied learned by value command spelled chosen

    learned_now : (slots_after now).learned h ≡ map spelling (m.learned ++ command ∷ [])
    learned_now = learned_then c w ms h m tied learned by value command spelled chosen

    placed_late : (own : Bool) → Late c w now h trying (after_learning c m going command own)
    placed_late true = says_late c w now h (learns m command) but below learned_now trying (Ack (length m.learned) (reply_after m.learned command)) 0 (λ n is. absurd (cc))
    placed_late false = goes_on_late c w now h (learns m command) but below learned_now trying t.operation t.tries input

    learned_late : Late c w ms h trying (after_learning c m going command (is_submitted t.operation value))
    learned_late =
        learns_late c w ms h m tied learned by value command spelled chosen trying (after_learning c m going command (is_submitted t.operation value)) (placed_late (is_submitted t.operation value))

  taken_late : (b by : ℕ) (value : List ℕ) → IsChosenBy c.disks (machine ms (length m.learned)) by value → (o : Option Command) → decoded value ≡ o → Late c w ms h trying (takes c m going b value o)
  taken_late b by value chosen None reads = says_late c w ms h m tied below learned trying (Refused refusal.NotACommand) (max m.floor b) (λ n is. absurd (cc))
  taken_late b by value chosen (Some command) reads = learned_late by value chosen command reads

  -- what it committed is chosen
  commits : {b : ℕ} {value : List ℕ} → IsCommitted c.disks (machine ms (length m.learned)) h b value → IsChosenBy c.disks (machine ms (length m.learned)) b value
  commits {b} {value} committed =
      let slot = length m.learned in
      commits_chosen c.disks (machine ms slot) (holds_reached c.disks (events_of_slot slot ms) (machine_runs c.disks ms slot tied.history)) h b value committed

  -- it was outrun
  module _ (b mbal : ℕ) where
    abbrev after : Memory
    after = with_floor (with_floor m b) mbal

    tries_late : (last : Bool) → Late c w ms h trying (if last then says after (Refused refusal.Outrun) else begins after t.operation (t.tries - 1))
    tries_late true = says_late c w ms h after tied below learned trying (Refused refusal.Outrun) after.floor (λ n is. absurd (cc))
    tries_late false = begins_late c w ms h after tied below learned trying t.operation (t.tries - 1) fits input

  outrun_late : (b mbal : ℕ) → Late c w ms h trying (tries_again (with_floor (with_floor m b) mbal) t.operation t.tries)
  outrun_late b mbal = tries_late b mbal (nat_le t.tries 1)

  ended_late : (b : ℕ) (end : End) → status s (on heard) ≡ Ended end → Late c w ms h trying (ended c m going b end)
  ended_late b (attempt.Committed value) is = taken_late b (ballot s (on heard)) value (commits (subst (Agrees s (on heard) (machine ms (length m.learned))) is follows.agrees)) (decoded value) refl
  ended_late b (attempt.Decided value) is = let chosen = decides value is in taken_late b chosen.0 value chosen.1 (decoded value) refl
  ended_late b attempt.Empty is =
      let empty : IsEmpty c.disks (machine ms (length m.learned)) h = subst (Agrees s (on heard) (machine ms (length m.learned))) is follows.agrees in
      says_late c w ms h m tied below learned trying (Recovered (length m.learned)) (max m.floor b) (λ n same. inr (record { empty = empty; tried = refl }))
  ended_late b (attempt.Outrun mbal) is = outrun_late b mbal
  ended_late b attempt.NoMajority is = says_late c w ms h m tied below learned trying (Refused refusal.NoMajority) (max m.floor b) (λ n same. absurd (cc))
  ended_late b attempt.BallotsSpent is = says_late c w ms h m tied below learned trying (Refused refusal.BallotsSpent) (max m.floor b) (λ n same. absurd (cc))

  status_late : (b : ℕ) (st : Status) → status s (on heard) ≡ st → Late c w ms h trying (by_status c m going b st)
  status_late b (Due p d) is = due_late
  status_late b (Ended end) is = ended_late b end is

  -- what the host does behind the answer
  pub answered_late : Late c w ms h trying (by_status c m going (taken s (on heard)) (status s (on heard)))
  answered_late = status_late (taken s (on heard)) (status s (on heard)) refl
