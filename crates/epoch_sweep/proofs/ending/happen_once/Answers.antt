use Rattle.std.proofs.Common.{Option, None, Some, sym, subst, append-nil}
use Rattle.std.proofs.lemmas.Result.{on_ok_weaker}
use Rattle.epoch_player.specs.declared.happening.Said.{Said}
use Rattle.epoch_player.specs.Happening.{Happens}
use Rattle.epoch_sweep.proofs.Running.{once}
use Rattle.epoch_sweep.proofs.ending.happen_once.Goals as goal

pub returns-in-None : goal.returns-in-None
returns-in-None c =
    let told = c.args.told.now.items in
    once c.args.config c.args.event.now c.args.cluster.now c.happen.new.cluster None told told
    (subst (λ (said : Option Said). Happens c.args.config c.args.event.now c.args.cluster.now c.happen.new.cluster said) c.in-None.is c.in_ok-happen.ensures)
    (sym (append-nil told))

pub returns-in-Some : goal.returns-in-Some
returns-in-Some c =
    on_ok_weaker c.list.result
    (λ listed.
    once c.args.config c.args.event.now c.args.cluster.now c.happen.new.cluster (Some c.in-Some.said) c.args.told.now.items c.list.new.told.items
    (subst (λ (said : Option Said). Happens c.args.config c.args.event.now c.args.cluster.now c.happen.new.cluster said) c.in-Some.is c.in_ok-happen.ensures)
    listed)
    c.list.ensures
