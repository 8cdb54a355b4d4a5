-- No acknowledgement and no recovery without a majority of the disks that answered.
use Rattle.std.specs.Prelude.{slice_get}
use Rattle.std.proofs.Common.{ℕ, ◌≤◌, ◌≡◌, ◌⊎◌, inl, inr, true, is_some, Option, Some, None, List, length, refl, sym, subst, arith}
use Rattle.paxos_block.specs.Row.{DecodedBlock}
use Rattle.attempt.specs.Answers.{on, heard_as, row_in}
use Rattle.attempt.specs.Calls.{Opening}
use Rattle.attempt.specs.History.{IsHistory}
use Rattle.attempt.specs.Prepared.{IsPrepared, IsAccepted}
use Rattle.attempt.specs.Setup.{Setup}
use Rattle.attempt.specs.Status.{Ended, Decided, status, taken}
use Rattle.attempt.specs.Visits.{visited, is_left}
use Rattle.attempt.proofs.Deciding.{mark_seen}
use Rattle.attempt.proofs.Histories.{history_reached}
use Rattle.attempt.proofs.Statuses.{HasDecided, told_by}
use Rattle.attempt.proofs.Visitors.{left_is, left_over}
use Rattle.attempt.proofs.Preparing as preparing
use Rattle.lock_command.specs.declared.command.Command.{Command}
use Rattle.lock_command.specs.Command.{spelling}
use Rattle.paxos_block.specs.Shape.{Shape}
use Rattle.host.specs.declared.answer.HostAnswer.{HostAnswer}
use Rattle.host.specs.declared.answer.HostAnswer.TheVariants.{Ack, Recovered}
use Rattle.host.specs.Host.{Operation, Submitting, Recovering, setup_of, with_heard}
use Rattle.world.specs.Entry.{Filled}
use Rattle.world.specs.World.{IsRun}
use Rattle.world.specs.Chosen.{SaysAt}
use Rattle.world.proofs.Histories.{heard_then}
use Rattle.world_safety.specs.Claims.{IsPreparedAt, IsAcceptedAt, IsToldAt, IsToldOwnAt, IsFullAt, AcknowledgesByMajority, RecoversByMajority}
use Rattle.world_safety.proofs.Claims.Acknowledging.{submitted_is}
use Rattle.world_safety.proofs.Runs.Saying.{full_recovers, full_acks, status_recovers, status_gives, beginning_of, AtACall, heard_at, hears_at, whence}

module _ (c : Shape) (log : List Filled) (run : IsRun c log) (i h : ℕ) where
  module _ (said : HostAnswer) (call : AtACall c log i h said) where
    abbrev s : Setup
    s = setup_of c h call.memory call.doing.operation

    -- what the attempt has heard is a history of it
    history_at : IsHistory s (heard_at c log i h said call)
    history_at = heard_then c log i s (heard_at c log i h said call) run (hears_at c log i h said call)

    prepared_at : IsPrepared s (heard_at c log i h said call) → IsPreparedAt c log i h
    prepared_at is = record { setup = s; heard = heard_at c log i h said call; hears = hears_at c log i h said call; of_host = refl; prepared = is }

    some_row : (o : Option (List DecodedBlock)) → is_some o ≡ true → (row : List DecodedBlock) × (o ≡ Some row)
    some_row None is = absurd (cc)
    some_row (Some row) is = (row, refl)

    -- an attempt that is told what was decided has read the row of more than half of the disks
    told_at : (slot : ℕ) → s.slot ≡ slot → (value : List ℕ) → status s (on (heard_at c log i h said call)) ≡ Ended (Decided value) → IsToldAt c log i h slot
    told_at slot here value ended =
        let f = on (heard_at c log i h said call) in
        let has : HasDecided s value f = told_by s f (Ended (Decided value)) ended in
        record {
          setup = s;
          heard = heard_at c log i h said call;
          hears = hears_at c log i h said call;
          of_host = refl;
          on_slot = here;
          value = value;
          opened = record {
            those = is_left s Opening f;
            most = has.over.enough;
            each = λ d below left. some_row (row_in Opening (f d))
                (((history_reached s (heard_at c log i h said call) history_at).disk d).read Opening (left_is s Opening (visited s Opening f) f d left).good (left_over s Opening f d has.over.visits below left));
          };
          marked = mark_seen s f value s.disks (omega arith) has.decided_is;
        }

    -- and of what its host was submitting, where that is the value
    told_own : (slot : ℕ) → s.slot ≡ slot → (value : List ℕ) → status s (on (heard_at c log i h said call)) ≡ Ended (Decided value) → (command : Command) → call.doing.operation ≡ Submitting command → value ≡ spelling command → IsToldOwnAt c log i h slot
    unfolding told_at
    told_own slot here value ended command submitting own = record { told = told_at slot here value ended; command = command; submitting = submitting; own = own }

  -- ACKNOWLEDGEMENTS

  -- one comes behind a call with which a value is committed, or told
  pub acknowledged : (slot : ℕ) (reply : _) → SaysAt c log i h (Ack slot reply) → IsAcceptedAt c log i h slot ⊎ IsToldOwnAt c log i h slot
  acknowledged slot reply says = elim (whence c log i h (Ack slot reply) (λ none. none) run says).is [
    | inl first ↦ absurd (full_acks first.operation (length first.memory.learned) slot reply first.says.0)
    | inr later ↦
        (let call = later.0 in
        let heard = heard_at c log i h (Ack slot reply) call in
        let own = s (Ack slot reply) call in
        let by = status_gives c call.memory (with_heard call.doing (record { disk = call.disk; heard = heard_as call.answer })) (taken own (on heard)) (status own (on heard)) slot reply later.1 in
        let own_command = submitted_is c slot reply call.doing.operation by.value by.own in
        elim by.gives [
          | inl committed ↦ inl (record {
            setup = own;
            heard = heard;
            hears = hears_at c log i h (Ack slot reply) call;
            of_host = refl;
            on_slot = by.on_slot;
            command = own_command.0;
            submitting = own_command.1;
            accepted = subst (IsAccepted own heard) (sym own_command.2) (preparing.accepted own heard (history_at (Ack slot reply) call) by.value committed);
          })
          | inr decided ↦ inr (told_own (Ack slot reply) call slot by.on_slot by.value decided own_command.0 own_command.1 (sym own_command.2))
        ])
  ]

  -- RECOVERIES

  full_at : (operation : Operation) (tries learned n : ℕ) → operation ≡ Recovering → learned ≡ n → c.slots ≤ learned → slice_get log i ≡ Some (beginning_of h operation tries) → IsFullAt c log i h n
  full_at (Submitting command) tries learned n is same full entry = absurd (cc)
  full_at Recovering tries learned n is same full entry = record { tries = tries; begins = entry; full = omega arith }

  -- one comes behind a call with which its slot is found empty, or the last slot is learned; or where it begins
  pub recovered : (n : ℕ) → SaysAt c log i h (Recovered n) → IsPreparedAt c log i h ⊎ (((slot : ℕ) × IsToldAt c log i h slot) ⊎ IsFullAt c log i h n)
  recovered n says = elim (whence c log i h (Recovered n) (λ none. none) run says).is [
    | inl first ↦
        (let is = full_recovers first.operation (length first.memory.learned) n first.says.0 in
        inr (inr (full_at first.operation first.tries (length first.memory.learned) n is.0 is.1 first.says.1 first.entry)))
    | inr later ↦
        (let call = later.0 in
        let heard = heard_at c log i h (Recovered n) call in
        let own = s (Recovered n) call in
        let over = status_recovers c call.memory (with_heard call.doing (record { disk = call.disk; heard = heard_as call.answer })) (taken own (on heard)) (status own (on heard)) n later.1 in
        let history = history_at (Recovered n) call in
        elim over.ended [
          | inl empty ↦ inl (prepared_at (Recovered n) call (preparing.prepared_empty own heard history empty))
          | inr last ↦ elim last.1 [
            | inl committed ↦ inl (prepared_at (Recovered n) call (preparing.prepared own heard history last.0 (preparing.committed own (on heard) last.0 committed)))
            | inr decided ↦ inr (inl (own.slot, told_at (Recovered n) call own.slot refl last.0 decided))
          ]
        ])
  ]

pub acknowledges_by_majority : (c : Shape) (log : List Filled) → IsRun c log → AcknowledgesByMajority c log
acknowledges_by_majority c log run i h slot reply says = acknowledged c log run i h slot reply says

pub recovers_by_majority : (c : Shape) (log : List Filled) → IsRun c log → RecoversByMajority c log
recovers_by_majority c log run i h n says = recovered c log run i h n says
