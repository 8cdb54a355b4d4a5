use Rattle.std.proofs.Common.{◌≡◌, List, map, ap, ◌∙◌, subst}
use Rattle.lock_command.specs.Command.{spelling}
use Rattle.lock_command.specs.declared.record.LockRecord.{LockRecord}
use Rattle.lock_command.specs.declared.reply.LockValue.{LockValue}
use Rattle.lock_table.specs.declared.known_client.KnownClient.{KnownClient}
use Rattle.lock_table.specs.Carrying.{carried_client, carried_locks}
use Rattle.lock_table.specs.Picture.{Shown}
use Rattle.epoch_host.specs.Leading.{AreSpelled}
use Rattle.epoch_host.proofs.Carrying.{both_spelled, none_left_out}
use Rattle.epoch_host.proofs.carried.carried_over.Goals as goal

pub returns-in-Ok-carried_over-clause-bytes : goal.returns-in-Ok-carried_over-clause-bytes
returns-in-Ok-carried_over-clause-bytes c = c.in-Ok-carried_over.ensures.commands ∙ ap (map spelling) (none_left_out c.args.table.now)

pub returns-in-Ok-carried_over-clause-spelled : goal.returns-in-Ok-carried_over-clause-spelled
returns-in-Ok-carried_over-clause-spelled c =
    let table = c.args.table.now in
    let locks : c.locks.result.now ≡ table.locks = c.locks.ensures.locks ∙ ap (λ (s : Shown). s.locks) c.in-Ok.ensures.shown in
    let values : c.values.result.now ≡ table.values = c.values.ensures.values ∙ ap (λ (s : Shown). s.values) c.in-Ok.ensures.shown in
    let clients : c.clients.result.now ≡ table.clients = c.clients.ensures.clients ∙ ap (λ (s : Shown). s.clients) c.in-Ok.ensures.shown in
    both_spelled (carried_locks table.locks table.values) (map carried_client table.clients)
    (subst (λ (l : List LockRecord). AreSpelled (carried_locks l table.values)) locks (subst (λ (v : List LockValue). AreSpelled (carried_locks c.locks.result.now v)) values c.locks_read_back.ensures))
    (subst (λ (k : List KnownClient). AreSpelled (map carried_client k)) clients c.clients_read_back.ensures)
