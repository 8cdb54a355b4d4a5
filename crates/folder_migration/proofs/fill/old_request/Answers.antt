use Rattle.std.proofs.Common.{◌≡◌, List, Some, slice_get, sym, ◌∙◌, ap, subst}
use Rattle.lock_command.specs.declared.command.Action.TheVariants.{Status}
use Rattle.lock_table.specs.declared.known_client.KnownClient.{KnownClient}
use Rattle.lock_table.specs.Apply.{table_after}
use Rattle.lock_table.specs.Picture.{Shown}
use Rattle.folder_migration.proofs.Filling.{first_is_known}
use Rattle.folder_migration.proofs.fill.old_request.Goals as goal

pub returns-clause-old : goal.returns-clause-old
returns-clause-old g c =
    let shown = c.table.result.now in
    let known = c.in-Some.known.now in
    let same : c.clients.result.now ≡ shown.clients = c.clients.ensures.clients ∙ ap (λ (s : Shown). s.clients) c.in_ok-picture.ensures.shown in
    let first : slice_get shown.clients 0 ≡ Some known = subst (λ (l : List KnownClient). slice_get l 0 ≡ Some known) same (sym c.in-Some.ensures.value) in
    record { known = first_is_known shown (table_after c.args.host.now.core.prefix) known c.table.ensures first; asks = ap Status c.first_lock.ensures }
