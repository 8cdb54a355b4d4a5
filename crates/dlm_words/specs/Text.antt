-- The printed text of what hosts answer.
use Rattle.std.specs.Prelude.{ℕ, List, ◌++◌, codes, decimal, Option, Some, None, if◌then◌else◌}
use Rattle.lock_command.specs.declared.mode.Mode.{Mode}
use Rattle.lock_command.specs.declared.state.LockState.{LockState}
use Rattle.lock_command.specs.declared.state.LockState.TheVariants.{Granted as Holding, Converting, Waiting}
use Rattle.lock_command.specs.declared.reply.Answer as done
use Rattle.lock_command.specs.declared.reply.LockValue.{LockValue}
use Rattle.lock_command.specs.declared.reply.Reply.{Reply}
use Rattle.lock_command.specs.declared.reply.Answer.TheVariants.{Granted, Queued, Released, Cancelled, Purged, Forgotten, State, Refused}
use Rattle.lock_command.specs.declared.reply.Refusal as table
use Rattle.lock_command.specs.Refusals as of_table
use Rattle.attempt.specs.declared.refusal.Refusal as operation
use Rattle.attempt.specs.Refusals as of_operation
use Rattle.host.specs.declared.answer.HostAnswer.{HostAnswer}
use Rattle.host.specs.declared.answer.HostAnswer.TheVariants.{Ack, Recovered, Looked, Beaten, Marked, Refused as Ended}
use Rattle.inspect.specs.Text.{mode_name, is_zeros, value_text}

-- a mode, or a dash where there is none
abbrev pub mode_text : Option Mode → List ℕ
mode_text None = codes "-"
mode_text (Some mode) = mode_name mode

-- the mode that a lock holds, and the one that it wants
abbrev pub held_mode : LockState → Option Mode
held_mode (Holding mode) = Some mode
held_mode (Converting held wanted) = Some held
held_mode (Waiting wanted) = None

abbrev pub wanted_mode : LockState → Option Mode
wanted_mode (Holding mode) = None
wanted_mode (Converting held wanted) = Some wanted
wanted_mode (Waiting wanted) = Some wanted

-- a refusal of the lock table
abbrev pub table_refusal_text : table.Refusal → List ℕ
table_refusal_text refusal = decimal (of_table.refusal_number refusal) ++ codes " " ++ of_table.refusal_name refusal

-- the modes of a lock
abbrev pub modes_text : LockState → List ℕ
modes_text state = codes "held=" ++ mode_text (held_mode state) ++ codes ", wanted=" ++ mode_text (wanted_mode state)

-- zeros that are valid are not told
abbrev pub shown_value : Option LockValue → Option LockValue
shown_value None = None
shown_value (Some value) = if is_zeros value then None else Some value

-- what a command did, and the value that is told of it
abbrev pub done_text : done.Answer → Option LockValue → List ℕ
done_text Granted None = codes "Granted"
done_text Granted (Some value) = codes "Granted(" ++ value_text value ++ codes ")"
done_text Queued value = codes "Queued"
done_text Released value = codes "Released"
done_text Cancelled value = codes "Cancelled"
done_text (Purged count) value = codes "Purged(" ++ decimal count ++ codes ")"
done_text Forgotten value = codes "Forgotten"
done_text (State state) None = codes "State(" ++ modes_text state ++ codes ")"
done_text (State state) (Some value) = codes "State(" ++ modes_text state ++ codes ", value=" ++ value_text value ++ codes ")"
done_text (Refused refusal) value = table_refusal_text refusal

-- what the lock table replies
abbrev pub reply_text : Reply → List ℕ
reply_text reply = done_text reply.answer (shown_value reply.value)

-- a refusal that ends an operation
abbrev pub refusal_text : operation.Refusal → List ℕ
refusal_text refusal = decimal (of_operation.refusal_number refusal) ++ codes " " ++ of_operation.refusal_name refusal

-- what a host answers
abbrev pub answer_text : HostAnswer → List ℕ
answer_text (Ack slot reply) = codes "ack " ++ decimal slot ++ codes " " ++ reply_text reply
answer_text (Recovered length) = codes "recovered " ++ decimal length
answer_text (Looked length) = codes "looked " ++ decimal length
answer_text (Beaten host) = codes "beaten " ++ decimal host
answer_text (Marked count) = codes "marked " ++ decimal count
answer_text (Ended refusal) = codes "refused " ++ refusal_text refusal
