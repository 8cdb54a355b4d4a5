use Rattle.std.proofs.Common.{cond, List, Option, sym, ap, ◌∙◌, ℕ}
use Rattle.lock_table.specs.declared.known_client.KnownClient.{KnownClient}
use Rattle.lock_table.specs.Apply.{kept, keeps_none, without_client}
use Rattle.lock_table.specs.Picture.{client_cmp}
use Rattle.lock_index.specs.Placed.{in_order}
use Rattle.lock_table.proofs.KnownPlaces.{others, others_in_order}
use Rattle.lock_table.proofs.indexed_table.keep_after.Goals as goal

pub returns-in-Some : goal.returns-in-Some
returns-in-Some c =
    let old = c.args.clients.now in
    let all = cond (keeps_none c.args.action.now) old (kept old c.args.last) in
    c.forget.ensures
    ∙ ap (others c.in-Some.gone) c.keep_last.ensures
    ∙ others_in_order c.in-Some.gone all
    ∙ ap (λ (o : Option ℕ). in_order client_cmp (without_client o all)) (sym c.in-Some.is ∙ c.forgotten_by.ensures)
