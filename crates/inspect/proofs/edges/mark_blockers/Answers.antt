use Rattle.std.proofs.Common.{◌≡◌, true, false, sym, ◌∙◌, arith, subst}
use Rattle.std.proofs.lemmas.Option.{get_or_from_slice_get}
use Rattle.lock_command.specs.declared.record.LockRecord.{LockRecord}
use Rattle.lock_command.specs.State.{is_waiting}
use Rattle.inspect.proofs.MarkLemmas.{as_read, is_not, was_not, starts_within, none_of_run, of_run, none_of_queue, marks_both, seen_kept}
use Rattle.inspect.proofs.edges.mark_blockers.Goals as goal

pub returns-then-ne-clause-complete : goal.returns-then-ne-clause-complete
returns-then-ne-clause-complete c = none_of_run c.args.locks.now c.args.i c.args.start c.args.end c.index-locks-i.result c.index-locks-start.result c.args.edges.now (starts_within c.requires.fits) c.index-locks-i.is c.index-locks-start.is (as_read c.args.locks.now c.args.i c.args.start c.index-locks-i.result c.index-locks-start.result false c.index-locks-i.is c.index-locks-start.is (is_not _ (sym c.ne.ensures ∙ c.if-ne.true))) c.requires.run

pub mark_places-requires-clause-name : goal.mark_places-requires-clause-name
mark_places-requires-clause-name c = λ j x y from lt. of_run c.args.locks.now c.args.i c.args.start c.args.end j c.index-locks-i.result c.index-locks-start.result (starts_within c.requires.fits) c.index-locks-i.is c.index-locks-start.is (as_read c.args.locks.now c.args.i c.args.start c.index-locks-i.result c.index-locks-start.result true c.index-locks-i.is c.index-locks-start.is (was_not _ (sym c.ne.ensures ∙ c.if-ne.false))) c.requires.run from (omega (arith, lt, c.requires.within.1)) x y

pub mark_queue-requires-clause-name : goal.mark_queue-requires-clause-name
mark_queue-requires-clause-name c = λ j x y from lt. of_run c.args.locks.now c.args.i c.args.start c.args.end j c.index-locks-i.result c.index-locks-start.result (starts_within c.requires.fits) c.index-locks-i.is c.index-locks-start.is (as_read c.args.locks.now c.args.i c.args.start c.index-locks-i.result c.index-locks-start.result true c.index-locks-i.is c.index-locks-start.is (was_not _ (sym c.ne.ensures ∙ c.if-ne.false))) c.requires.run (omega (arith, from, c.requires.within.0)) lt x y

pub mark_queue-requires-clause-waits : goal.mark_queue-requires-clause-waits
mark_queue-requires-clause-waits c = λ x at_x.
    let is_x = c.index-locks-i-2.is ∙ get_or_from_slice_get c.args.locks.now c.args.i x c.index-locks-i-2.result at_x in
    subst (λ (r : LockRecord). is_waiting r.state ≡ true) is_x (sym c.is_waiting.ensures ∙ c.if-is_waiting.true)

pub mark_queue-requires-clause-seen : goal.mark_queue-requires-clause-seen
mark_queue-requires-clause-seen c = seen_kept c.args.locks.now c.args.queue c.args.end c.args.edges.now c.mark_places.new.edges c.args.seen.now c.mark_places.ensures.kept c.requires.seen

pub returns-then-is_waiting-clause-complete : goal.returns-then-is_waiting-clause-complete
returns-then-is_waiting-clause-complete c = marks_both c.args.locks.now c.args.i c.args.start c.args.queue c.args.end c.mark_places.new.edges c.mark_queue.new.edges c.mark_queue.ensures.kept c.mark_places.ensures.complete c.mark_queue.ensures.complete

pub returns-else-is_waiting-clause-complete : goal.returns-else-is_waiting-clause-complete
returns-else-is_waiting-clause-complete c = marks_both c.args.locks.now c.args.i c.args.start c.args.queue c.args.end c.mark_places.new.edges c.mark_places.new.edges (λ a b m. m) c.mark_places.ensures.complete (none_of_queue c.args.locks.now c.args.i c.args.queue c.args.end c.index-locks-i-2.result c.mark_places.new.edges c.index-locks-i-2.is (sym c.is_waiting.ensures ∙ c.if-is_waiting.false) c.requires.queue)

pub returns-else-is_waiting-clause-seen : goal.returns-else-is_waiting-clause-seen
returns-else-is_waiting-clause-seen c = seen_kept c.args.locks.now c.args.queue c.args.end c.args.edges.now c.mark_places.new.edges c.args.seen.now c.mark_places.ensures.kept c.requires.seen
