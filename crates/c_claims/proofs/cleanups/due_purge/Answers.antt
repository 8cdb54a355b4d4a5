use Rattle.std.proofs.Common.{◌≡◌, refl, rules}
use Rattle.lock_command.specs.declared.command.Command.{Command}
use Rattle.cleanup.specs.declared.purging.PurgeOrder.TheVariants.{Submit}
use Rattle.c_claims.proofs.NoPurge.{none_due_by}
use Rattle.c_claims.proofs.cleanups.due_purge.Goals as goal

pub returns-in-Submit-clause-some : goal.returns-in-Submit-clause-some
returns-in-Submit-clause-some c = c.in-Submit.ensures.submits c.in-Submit.command refl

pub returns-in-TrySign : goal.returns-in-TrySign
returns-in-TrySign c = record {
  some = search rules;
  none = λ _.
      let other : (command : Command) → c.next.result ≡ Submit command → ⊥ = search rules in
      none_due_by c.args.purging.now c.args.table.now c.next.result c.next.ensures.tries c.next.ensures.done c.next.ensures.number other;
}
