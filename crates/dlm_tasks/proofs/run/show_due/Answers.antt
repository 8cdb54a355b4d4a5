use Rattle.std.proofs.Common.{List, [], subst, arith}
use Rattle.lock_script.specs.declared.show.Show.{Show}
use Rattle.dlm_tasks.specs.Printed.{WritesPart}
use Rattle.dlm_tasks.proofs.Shown.{nothing, shown_due}
use Rattle.dlm_tasks.proofs.run.show_due.Goals as goal

pub loop-show-init : goal.loop-show-init
loop-show-init g c = λ log leads. nothing log c.args.place c.args.shows.now c.args.cluster.now (g.O.Write.contents c.args.out.now) leads

pub loop-show-preserved : goal.loop-show-preserved
loop-show-preserved g c = λ log leads.
    let at = c.loop-show in
    let shows = c.args.shows.now in
    let show = c.in-Some.show.now in
    let left = c.in-Some.later.now in
    let k = c.args.cluster.now in
    let before = g.O.Write.contents c.args.out.now in
    let shown = c.in_ok-show_host.ensures.written in
    shown_due log c.args.place shows show left k shown.0 before (g.O.Write.contents at.out) (g.O.Write.contents c.show_host.new.out) (omega (arith, c.if-show-place.false))
    (subst (λ (l : List Show). WritesPart log [] c.args.place shows l k k before (g.O.Write.contents at.out)) c.in-Some.ensures.cases.0 (at.invariant log leads))
    leads shown.1 shown.2
