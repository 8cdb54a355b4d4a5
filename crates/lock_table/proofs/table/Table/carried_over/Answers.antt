use Rattle.std.proofs.Common.{◌++◌, filter, map, ap, ◌∙◌}
use Rattle.lock_command.specs.Command.{spelling}
use Rattle.lock_command.specs.declared.record.LockRecord.{LockRecord}
use Rattle.lock_table.specs.declared.known_client.KnownClient.{KnownClient}
use Rattle.lock_table.specs.Carrying.{carried_lock, carried_client, carried_over, is_among, stays_known, without_clients}
use Rattle.lock_table.specs.Picture.{Shown}
use Rattle.lock_table.specs.Stored.{value_in}
use Rattle.lock_table.proofs.Carrying.{all_listed}
use Rattle.lock_table.proofs.table.Table.carried_over.Goals as goal

pub returns-clause-commands : goal.returns-clause-commands
returns-clause-commands c =
    let t = c.self.inside.plain in
    let locks = c.carry_locks.ensures.commands ∙ (λ i. map (λ (r : LockRecord). spelling (carried_lock r (value_in (c.entries.ensures.entries i) r.name))) (c.locks-locks.ensures.locks i)) in
    let leave = is_among c.args.leave.now in
    let known = c.carry_clients.ensures.commands ∙ (λ i. locks i ++ map (λ (k : KnownClient). spelling (carried_client k)) (filter (stays_known leave (c.locks-locks.ensures.locks i)) (c.clients.ensures.clients i))) in
    known
    ∙ all_listed t.locks (value_in t.entries) (filter (stays_known leave t.locks) t.clients)
    ∙ ap (λ (s : Shown). map spelling (carried_over (without_clients leave s))) c.self.view_is
