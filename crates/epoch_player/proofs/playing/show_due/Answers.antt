use Rattle.std.proofs.Common.{List, subst, arith}
use Rattle.lock_script.specs.declared.show.Show.{Show}
use Rattle.epoch_player.specs.Playing.{ShowsDue}
use Rattle.epoch_player.proofs.Parts.{none_due, one_due}
use Rattle.epoch_player.proofs.playing.show_due.Goals as goal

pub loop-show-init : goal.loop-show-init
loop-show-init g c = none_due c.args.place c.args.shows.now c.args.cluster.now (g.O.Write.contents c.args.out.now)

pub loop-show-preserved : goal.loop-show-preserved
loop-show-preserved g c =
    let at = c.loop-show in
    let shows = c.args.shows.now in
    let k = c.args.cluster.now in
    let before = g.O.Write.contents c.args.out.now in
    let now = g.O.Write.contents at.out in
    let shown = c.in_ok-show_host.ensures in
    one_due c.args.place shows c.in-Some.show.now c.in-Some.later.now k shown.0 before now (g.O.Write.contents c.show_host.new.out) (omega (arith, c.if-show-place.false))
    (subst (λ (l : List Show). ShowsDue c.args.place shows l k before now) c.in-Some.ensures.cases.0 at.invariant)
    shown.1 shown.2
