-- What C is told of how a task of a host over all epochs ended: what the host said.
use Rattle.std.specs.Prelude.{ℕ, ℤ, Option, Some, None}
use Rattle.lock_command.specs.declared.reply.Reply.{Reply}
use Rattle.epoch_host.specs.declared.answer.EpochAnswer.{EpochAnswer}
use Rattle.epoch_host.specs.declared.answer.EpochAnswer.TheVariants.{Ack, Recovered, Looked, Beaten, Marked, Refused}
use Rattle.c_host.specs.declared.answer.Answer.{Answer}
use Rattle.c_host.specs.Numbers.{answer_of, done, no_answer, nothing_said, operation_number, status_of}
use Rattle.c_epochs.specs.declared.answer.PlacedAnswer.{PlacedAnswer}

-- a reply, as C is told it of a log that ends, and beside it what is told of a log without an end
abbrev pub beside : Answer → (place learned marked : ℕ) → PlacedAnswer
beside told place learned marked = record {
  place = place;
  learned = learned;
  reply = told.reply;
  purged = told.purged;
  held = told.held;
  wanted = told.wanted;
  marked = marked;
  unused = 0;
}

-- the command is acknowledged at this place, with this reply
abbrev pub placed : ℕ → Reply → PlacedAnswer
placed place reply = beside (answer_of 0 reply) place 0 0

-- all places below this one are learned
abbrev pub learned_upto : ℕ → PlacedAnswer
learned_upto upto = beside no_answer 0 upto 0

-- the mark stands on so many disks
abbrev pub marked_on : ℕ → PlacedAnswer
marked_on count = beside no_answer 0 0 count

-- nothing was done
abbrev pub nothing_told : PlacedAnswer
nothing_told = beside no_answer 0 0 0

abbrev pub answer_told : Option EpochAnswer → PlacedAnswer
answer_told None = nothing_told
answer_told (Some (Ack place reply)) = placed place reply
answer_told (Some (Recovered upto)) = learned_upto upto
answer_told (Some (Looked upto)) = learned_upto upto
answer_told (Some (Beaten host)) = nothing_told
answer_told (Some (Marked count)) = marked_on count
answer_told (Some (Refused refusal)) = nothing_told

abbrev pub status_told : Option EpochAnswer → ℤ
status_told None = nothing_said
status_told (Some (Ack place reply)) = status_of reply
status_told (Some (Recovered upto)) = done
status_told (Some (Looked upto)) = done
status_told (Some (Beaten host)) = nothing_said
status_told (Some (Marked count)) = done
status_told (Some (Refused refusal)) = operation_number refusal
