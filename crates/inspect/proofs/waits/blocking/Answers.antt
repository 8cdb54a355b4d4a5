use Rattle.std.proofs.Common.{List, subst, sym}
use Rattle.lock_command.specs.declared.record.LockRecord.{LockRecord}
use Rattle.inspect.specs.Blocked.{IsBlockedBy}
use Rattle.inspect.specs.Marks.{Marked}
use Rattle.inspect.proofs.TrailLemmas.{cycle_by}
use Rattle.inspect.proofs.waits.blocking.Goals as goal

pub returns-in-Some : goal.returns-in-Some
returns-in-Some c =
    cycle_by (Marked c.edges_of-edges.result) (IsBlockedBy c.args.picture.now.locks)
    (λ a b m. subst (λ (locks : List LockRecord). IsBlockedBy locks a b) c.locks-locks.ensures.locks (c.edges_of-edges.ensures.sound a b m)) c.cycle_from.result.items c.cycle_from.ensures

pub returns-in-None : goal.returns-in-None
returns-in-None c = λ a b blocked.
    let marked : Marked c.edges_of-edges.result a b =
    c.edges_of-edges.ensures.complete a b (subst (λ (locks : List LockRecord). IsBlockedBy locks a b) (sym c.locks-locks.ensures.locks) blocked) in
    c.of-peeling.ensures.peeled.falls a b marked (c.in-None.ensures.none a)
