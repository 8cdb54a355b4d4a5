use Rattle.std.proofs.Common.{◌≡◌, ◌<◌, ◌≤◌, ◌∙◌, ℕ, arith, refl, length, slice_index_or, slice_set, sym, ap, subst}
use Rattle.std.proofs.lemmas.Option.{slice_get_read}
use Rattle.lock_command.specs.declared.record.LockRecord.{LockRecord}
use Rattle.inspect.specs.Marks.{IsSeen}
use Rattle.inspect.proofs.MarkLemmas.{queue_marked, seen_more}
use Rattle.inspect.proofs.edges.mark_queue.Goals as goal

pub returns-then-from-to-clause-complete : goal.returns-then-from-to-clause-complete
returns-then-from-to-clause-complete c =
    let own = c.index-locks-i.result in
    let client : c.from-client.result ≡ own.client = c.from-client.ensures ∙ c.get.ensures.value ∙ ap (λ (r : LockRecord). r.client) (sym c.index-locks-i.is) in
    queue_marked c.args.locks.now c.args.i c.args.queue c.args.end c.max-from.result c.min-to.result c.args.edges.now c.mark_places.new.edges c.args.seen.now own c.index-locks-i.is c.requires.queue c.mark_places.ensures.kept c.requires.seen
    (subst (λ n. (j : ℕ) → c.args.queue ≤ j → j < c.max-from.result → j < slice_index_or c.args.seen.now n 0) client (λ j le lt. omega (arith, le, lt, c.max-from.ensures)))
    (λ j le lt. omega (arith, le, lt, c.min-to.ensures)) c.mark_places.ensures.complete

pub returns-then-from-to-clause-seen : goal.returns-then-from-to-clause-seen
returns-then-from-to-clause-seen c =
    let own = c.index-locks-i.result in
    let client : c.from-client.result ≡ own.client = c.from-client.ensures ∙ c.get.ensures.value ∙ ap (λ (r : LockRecord). r.client) (sym c.index-locks-i.is) in
    let is_own = slice_get_read c.args.locks.now (length c.args.locks.now) c.args.i own refl c.requires.place c.index-locks-i.is in
    subst (λ n. IsSeen c.args.locks.now c.args.queue c.args.end c.mark_places.new.edges (slice_set c.args.seen.now n c.min-to.result)) (sym client)
    (seen_more c.args.locks.now c.args.i c.args.queue c.args.end c.max-from.result c.min-to.result c.args.edges.now c.mark_places.new.edges c.args.seen.now own c.index-locks-i.is c.requires.place (omega (arith, client)) c.requires.queue c.requires.name (c.requires.waits own is_own) c.mark_places.ensures.kept c.requires.seen
    (subst (λ n. (j : ℕ) → c.args.queue ≤ j → j < c.max-from.result → j < slice_index_or c.args.seen.now n 0) client (λ j le lt. omega (arith, le, lt, c.max-from.ensures)))
    (omega (arith, c.min-to.ensures)) (omega (arith, c.min-to.ensures)) c.mark_places.ensures.complete)

pub returns-else-from-to-clause-complete : goal.returns-else-from-to-clause-complete
returns-else-from-to-clause-complete c =
    let own = c.index-locks-i.result in
    let client : c.from-client.result ≡ own.client = c.from-client.ensures ∙ c.get.ensures.value ∙ ap (λ (r : LockRecord). r.client) (sym c.index-locks-i.is) in
    let none : c.min-to.result ≤ c.max-from.result = omega (arith, c.if-from-to.false) in
    queue_marked c.args.locks.now c.args.i c.args.queue c.args.end c.max-from.result c.min-to.result c.args.edges.now c.args.edges.now c.args.seen.now own c.index-locks-i.is c.requires.queue (λ a b m. m) c.requires.seen
    (subst (λ n. (j : ℕ) → c.args.queue ≤ j → j < c.max-from.result → j < slice_index_or c.args.seen.now n 0) client (λ j le lt. omega (arith, le, lt, c.max-from.ensures)))
    (λ j le lt. omega (arith, le, lt, c.min-to.ensures)) (λ j le lt. absurd (omega (arith, none, le, lt)))
