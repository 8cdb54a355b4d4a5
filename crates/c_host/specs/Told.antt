-- What C is told of how an operation ended: what the host said.
use Rattle.std.specs.Prelude.{ℕ, ℤ, pos, negsuc, Option, Some, None}
use Rattle.host.specs.declared.answer.HostAnswer.{HostAnswer}
use Rattle.host.specs.declared.answer.HostAnswer.TheVariants.{Ack, Recovered, Looked, Beaten, Marked, Refused}
use Rattle.c_host.specs.declared.answer.Answer.{Answer}
use Rattle.c_host.specs.Numbers.{done, nothing_said, no_mode, answer_of, no_answer, operation_number, status_of}

-- an answer that tells a count alone: of the commands learned, or of the disks marked
abbrev pub counted : ℕ → Answer
counted n = record { slot = negsuc 0; reply = pos 0; purged = 0; held = no_mode; wanted = no_mode; count = n }

abbrev pub answer_told : Option HostAnswer → Answer
answer_told None = no_answer
answer_told (Some (Ack slot reply)) = answer_of slot reply
answer_told (Some (Recovered length)) = counted length
answer_told (Some (Looked length)) = counted length
answer_told (Some (Beaten host)) = no_answer
answer_told (Some (Marked count)) = counted count
answer_told (Some (Refused refusal)) = no_answer

abbrev pub status_told : Option HostAnswer → ℤ
status_told None = nothing_said
status_told (Some (Ack slot reply)) = status_of reply
status_told (Some (Recovered length)) = done
status_told (Some (Looked length)) = done
status_told (Some (Beaten host)) = nothing_said
status_told (Some (Marked count)) = done
status_told (Some (Refused refusal)) = operation_number refusal
