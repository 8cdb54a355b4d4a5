use Rattle.std.proofs.Common.{◌≡◌, ◌∙◌, arith, rules}
use Rattle.std.proofs.lemmas.Grind.{common_steps}
use Rattle.lock_command.specs.declared.state.LockState.TheVariants.{Granted}
use Rattle.lock_command.specs.Locks.{put, in_state, settled}
use Rattle.lock_index.proofs.Numbered.{IsDistinct-put}
use Rattle.lock_index.proofs.Shown.{shown, shown-settled}
use Rattle.lock_table.proofs.locks.Locks.convert.Goals as goal

pub returns-then-admits-clause-locks : goal.returns-then-admits-clause-locks
returns-then-admits-clause-locks c =
    let own = c.in-Some.own in
    let now = c.self.inside.index in
    let new = in_state own (Granted c.args.mode) in
    let direct : c.settle_behind.new.self ≡ shown (settled (put now new) own.name) =
    c.settle_behind.ensures ∙ (λ i. shown (settled (c.restate-group.ensures.put i) (c.beside-name.ensures i))) ∙ shown-settled own.name (put now new) (IsDistinct-put now new c.in-Some.ensures.distinct) in
    first_of (search rules, grind (arith, common_steps, direct))
