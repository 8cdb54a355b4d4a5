-- What is due is shown, and then what the event has its host say is printed.
use Rattle.std.proofs.Common.{Option, Some, subst}
use Rattle.epoch_player.specs.declared.happening.Said.{Said}
use Rattle.epoch_player.specs.Happening.{Happens}
use Rattle.epoch_player.proofs.Parts.{one}
use Rattle.epoch_player.proofs.playing.happen_once.Goals as goal

pub returns-in_ok-tell-in-Some : goal.returns-in_ok-tell-in-Some
returns-in_ok-tell-in-Some g c =
    let config = c.args.config in
    let event = c.args.event.now in
    let old = c.args.cluster.now in
    let new = c.happen.new.cluster in
    let happens = subst (λ (said : Option Said). Happens config event old new said) c.in-Some.is c.in_ok-happen.ensures in
    one config event c.args.place c.args.shows.now c.in_ok-left.left.now old new (Some c.in-Some.said) (g.O.Write.contents c.args.out.now) (g.O.Write.contents c.show_due.new.out) (g.O.Write.contents c.tell.new.out)
    c.in_ok-left.ensures.shown c.in_ok-left.ensures.ahead happens c.in_ok-tell-in-Some.ensures
