-- What C is told where an operation ends.
use Rattle.std.specs.Prelude.{◌≡◌, ◌⊎◌, ℕ, ℤ, true, List, length}
use Rattle.disk.specs.Disk as disk
use Rattle.lock_command.specs.declared.command.Command.{Command}
use Rattle.lock_command.specs.Command.{Fits}
use Rattle.lock_command.specs.declared.reply.Reply.{Reply}
use Rattle.paxos_block.specs.Shape.{Shape}
use Rattle.attempt.specs.declared.refusal.Refusal.{Refusal}
use Rattle.host.specs.Host.{Operation, Submitting, Recovering, fresh}
use Rattle.host.specs.Kept.{Kept, LeadsTo, is_idle}
use Rattle.dlm_images.specs.Operations.{IsKnown, Standing, HasOperated, HasMarked, HasLooked, IsAcknowledged}
use Rattle.c_host.specs.declared.answer.Answer.{Answer}
use Rattle.c_host.specs.Numbers.{done, no_answer, answer_of, status_of, operation_number}
use Rattle.c_host.specs.Told.{counted, answer_told, status_told}

-- The command is acknowledged: it is the last of those learned, and C is told its slot and the lock table's reply to it there.
pub record TellsAcknowledged (command : Command) (learned : List Command) (answer : Answer) (status : ℤ) : Type 0 where
  pub slot : ℕ
  pub reply : Reply
  pub is : IsAcknowledged command slot reply learned
  pub told : answer ≡ answer_of slot reply
  pub returned : status ≡ status_of reply

-- The operation was refused, and C is told why, and of no slot.
pub record TellsRefused (answer : Answer) (status : ℤ) : Type 0 where
  pub refusal : Refusal
  pub told : answer ≡ no_answer
  pub returned : status ≡ operation_number refusal

-- C is told how many commands are learned
abbrev pub TellsLearned : List Command → Answer → ℤ → Type 0
TellsLearned learned answer status = (answer ≡ counted (length learned)) × (status ≡ done)

-- or of a marking, on how many disks the mark stands
abbrev pub TellsMarked : Answer → ℤ → Type 0
TellsMarked answer status = ((count : ℕ) × (answer ≡ counted count) × (status ≡ done)) ⊎ TellsRefused answer status

abbrev pub TellsEnd : Operation → List Command → Answer → ℤ → Type 0
TellsEnd (Submitting command) learned answer status = TellsAcknowledged command learned answer status ⊎ TellsRefused answer status
TellsEnd Recovering learned answer status = TellsLearned learned answer status ⊎ TellsRefused answer status

-- a command that is submitted has its numbers in their ranges
abbrev pub HasNumbersInRange : Operation → Type 0
HasNumbersInRange (Submitting command) = Fits command
HasNumbersInRange Recovering = Unit {0}

-- Between operations a host rests, and something is known of it.
pub record IsResting (k : Kept) : Type 0 where
  pub known : IsKnown k
  pub idle : is_idle k ≡ true

-- so it is of a host that was opened
abbrev pub OpenedRest : Type 0
OpenedRest = (c : Shape) (h : ℕ) (k : Kept) → LeadsTo c h fresh k → IsResting k

-- and after each operation, of which C is told how it ended
abbrev pub OperationsTell : {D : Type 0} → (D → disk.Call → disk.Answer → D → Type 0) → Type 0
OperationsTell {D = D} gives = (operation : Operation) (tries : ℕ) (old new : Standing D) →
    IsResting old.core → HasNumbersInRange operation → HasOperated gives operation tries old new →
    IsResting new.core × TellsEnd operation new.core.prefix (answer_told new.core.said) (status_told new.core.said)

-- and after each marking, which learns nothing
abbrev pub MarkingsTell : {D : Type 0} → (D → disk.Call → disk.Answer → D → Type 0) → Type 0
MarkingsTell {D = D} gives = (slot : ℕ) (old new : Standing D) →
    IsResting old.core → HasMarked gives slot old new →
    IsResting new.core × (new.core.prefix ≡ old.core.prefix) × TellsMarked (answer_told new.core.said) (status_told new.core.said)

-- and after each look, of which C is told how many commands are learned, or why it was refused
abbrev pub LooksTell : {D : Type 0} → (D → disk.Call → disk.Answer → D → Type 0) → Type 0
LooksTell {D = D} gives = (old new : Standing D) →
    IsResting old.core → HasLooked gives old new →
    IsResting new.core × (TellsLearned new.core.prefix (answer_told new.core.said) (status_told new.core.said) ⊎ TellsRefused (answer_told new.core.said) (status_told new.core.said))
