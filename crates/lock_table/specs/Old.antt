-- The lock table of the first layout, which has no values, and what stands for it today.
use Rattle.std.specs.Prelude.{ℕ, ◌==◌, nat_lt, nat_le, Bool, not, List, [], ◌∷◌, ◌++◌, length, map, fold, filter, find, Option, Some, None, if◌then◌else◌}
use Rattle.lock_command.specs.declared.old.OldCommand.{OldCommand}
use Rattle.lock_command.specs.Old.{same_action}
use Rattle.lock_table.specs.declared.clients.TheConstants.{CLIENTS}
use Rattle.lock_command.specs.declared.record.LockRecord.{LockRecord}
use Rattle.lock_table.specs.declared.known_client.KnownClient.{KnownClient}
use Rattle.lock_command.specs.declared.reply.Answer.{Answer}
use Rattle.lock_command.specs.declared.reply.Answer.TheVariants.{Refused}
use Rattle.lock_command.specs.declared.reply.Refusal.TheVariants.{ClientsFull, Stale}
use Rattle.lock_command.specs.declared.reply.Reply.{Reply}
use Rattle.lock_table.specs.Values.{zeros, returned}
use Rattle.lock_table.specs.Apply.{Plain, done}

-- a known client's last request, and the answer to it
pub record OldClient : Type 0 where
  pub client : ℕ
  pub request : ℕ
  pub answer : Answer

-- the locks, and the known clients
pub record OldTable : Type 0 where
  pub locks : List LockRecord
  pub clients : List OldClient

-- the table that an old command leaves, and its answer
pub record OldApplied : Type 0 where
  pub table : OldTable
  pub answer : Answer

abbrev pub is_old_client : ℕ → OldClient → Bool
is_old_client client k = k.client == client

-- the command is carried out, and its number and answer are kept
abbrev pub old_carried_out : OldTable → OldCommand → OldApplied
old_carried_out t c =
    let outcome = done t.locks c.host c.client (same_action c.action) in
    let last : OldClient = record { client = c.client; request = c.request; answer = outcome.answer } in
    record { table = record { locks = outcome.locks; clients = filter (λ k. not (is_old_client c.client k)) t.clients ++ last ∷ [] }; answer = outcome.answer }

abbrev pub old_unchanged : OldTable → Answer → OldApplied
old_unchanged t answer = record { table = t; answer = answer }

-- what is kept of the client decides
abbrev pub old_applied_after : OldTable → OldCommand → Option OldClient → OldApplied
old_applied_after t c None =
    if nat_le CLIENTS (length t.clients) then old_unchanged t (Refused ClientsFull) else old_carried_out t c
old_applied_after t c (Some k) =
    if nat_lt c.request k.request then old_unchanged t (Refused Stale)
    else if c.request == k.request then old_unchanged t k.answer
    else old_carried_out t c

-- the table after an old command, and the answer
abbrev pub old_applied : OldTable → OldCommand → OldApplied
old_applied t c = old_applied_after t c (find (is_old_client c.client) t.clients)

-- the table after a list of old commands
abbrev pub old_table_after : List OldCommand → OldTable
old_table_after commands = fold (λ t c. (old_applied t c).table) (record { locks = []; clients = [] }) commands

-- WHAT STANDS FOR IT

-- the same answer, and where a value is returned, zeros that are valid
abbrev pub with_zeros : Answer → Reply
with_zeros answer = record { answer = answer; value = returned answer zeros }

abbrev pub known_again : OldClient → KnownClient
known_again k = record { client = k.client; request = k.request; reply = with_zeros k.answer }

-- the same locks, and each name has zeros that are valid
abbrev pub again : OldTable → Plain
again t = record { locks = t.locks; values = λ name. zeros; clients = map known_again t.clients }
