-- An acknowledgement is of the command that was submitted, at its slot, with its reply.
use Rattle.std.proofs.Common.{ℕ, ◌≡◌, inl, inr, Bool, true, false, Option, Some, None, List, [], ◌∷◌, ◌++◌, length, refl, sym, ◌∙◌}
use Rattle.std.proofs.lemmas.Slice.Eq.{bytes_eq-Decides}
use Rattle.attempt.specs.Answers.{on, heard_as}
use Rattle.attempt.specs.Status as attempt
use Rattle.attempt.specs.Status.{Status, Due, Ended, End, status, taken}
use Rattle.lock_command.specs.declared.command.Command.{Command}
use Rattle.lock_command.specs.Command.{spelling}
use Rattle.lock_command.specs.Reading.{decoded}
use Rattle.lock_command.specs.declared.reply.Reply.{Reply}
use Rattle.paxos_block.specs.Shape.{Shape}
use Rattle.host.specs.declared.answer.HostAnswer.TheVariants.{Ack}
use Rattle.host.specs.Host.{Operation, Submitting, Recovering, Attempt, Memory, setup_of, with_heard, with_floor, learns, reply_after, is_submitted, after_learning, takes, by_status}
use Rattle.host.proofs.Hosts.{decoded_spelled}
use Rattle.world.specs.Entry.{Filled}
use Rattle.world.specs.World.{IsRun}
use Rattle.world.specs.Chosen.{SaysAt}
use Rattle.world_safety.specs.Acks.{Acks, AcksAt}
use Rattle.world_safety.proofs.Runs.Knowing.{reads_back}
use Rattle.world_safety.proofs.Runs.Saying.{went_on, full_acks, again, memory_at, whence}

-- WHAT A HOST SAYS

module _ (c : Shape) (slot : ℕ) (reply : Reply) where
  -- whose command was committed
  pub submitted_is : (operation : Operation) (value : List ℕ) → is_submitted operation value ≡ true → (command : Command) × (operation ≡ Submitting command) × (spelling command ≡ value)
  submitted_is (Submitting command) value is = (command, refl, (bytes_eq-Decides (spelling command) value).0 is)
  submitted_is Recovering value is = absurd (cc)

  module _ (m : Memory) (t : Attempt) (b : ℕ) where
    learned_acks : (value : List ℕ) (command : Command) → decoded value ≡ Some command → (own : Bool) → is_submitted t.operation value ≡ own → (after_learning c m t command own).said ≡ Some (Ack slot reply)
        → Acks m t (after_learning c m t command own) slot reply
    learned_acks value command reads false own is =
        absurd (full_acks t.operation (length (m.learned ++ command ∷ [])) slot reply (went_on c (learns m command) t.operation t.tries (Ack slot reply) is).0)
    learned_acks value command reads true own is =
        let by = submitted_is t.operation value own in
        record {
          command = by.0;
          submitting = by.1;
          read = command;
          reads = reads_back value command reads;
          same = by.2 ∙ decoded_spelled value command reads;
          slot_is = (let one : length m.learned ≡ slot = cc in sym one);
          reply_is = (let one : reply_after m.learned command ≡ reply = cc in sym one);
          learned = refl;
        }

    taken_acks : (value : List ℕ) (o : Option Command) → decoded value ≡ o → (takes c m t b value o).said ≡ Some (Ack slot reply) → Acks m t (takes c m t b value o) slot reply
    taken_acks value None reads is = absurd (cc)
    taken_acks value (Some command) reads is = learned_acks value command reads (is_submitted t.operation value) refl is

    status_acks : (st : Status) → (by_status c m t b st).said ≡ Some (Ack slot reply) → Acks m t (by_status c m t b st) slot reply
    status_acks (Due p d) is = absurd (cc)
    status_acks (Ended (attempt.Committed value)) is = taken_acks value (decoded value) refl is
    status_acks (Ended (attempt.Decided value)) is = taken_acks value (decoded value) refl is
    status_acks (Ended attempt.Empty) is = absurd (cc)
    status_acks (Ended (attempt.Outrun mbal)) is = absurd (let no = again c m t b (with_floor (with_floor m b) mbal) (Ack slot reply) is in cc)
    status_acks (Ended attempt.NoMajority) is = absurd (cc)
    status_acks (Ended attempt.BallotsSpent) is = absurd (cc)

-- an acknowledgement goes by what was under way, whatever it had heard
acks_heard : (m : Memory) (t other : Attempt) (new : Memory) (slot : ℕ) (reply : Reply) → other.operation ≡ t.operation → Acks m other new slot reply → Acks m t new slot reply
acks_heard m t other new slot reply same is =
    record { command = is.command; submitting = sym same ∙ is.submitting; read = is.read; reads = is.reads; same = is.same; slot_is = is.slot_is; reply_is = is.reply_is; learned = is.learned }

-- AT AN ENTRY

-- an acknowledgement is of the command that was submitted
pub acks_at : (c : Shape) (log : List Filled) (i h slot : ℕ) (reply : Reply) → IsRun c log → SaysAt c log i h (Ack slot reply) → AcksAt c log i h slot reply
acks_at c log i h slot reply run says = elim (whence c log i h (Ack slot reply) (λ none. none) run says).is [
  | inl first ↦ absurd (full_acks first.operation (length first.memory.learned) slot reply first.says.0)
  | inr later ↦
      (let call = later.0 in
      let going = with_heard call.doing (record { disk = call.disk; heard = heard_as call.answer }) in
      let s = setup_of c h call.memory call.doing.operation in
      record {
        memory = call.memory;
        doing = call.doing;
        new = memory_at c log i h (Ack slot reply) call;
        running = call.running;
        does = call.does;
        runs_on = call.runs_on;
        acks = acks_heard call.memory call.doing going (memory_at c log i h (Ack slot reply) call) slot reply refl (status_acks c slot reply call.memory going (taken s (on going.heard)) (status s (on going.heard)) later.1);
      })
]
