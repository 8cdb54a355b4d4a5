use Rattle.std.proofs.Common.{◌+◌, ◌<◌, ◌≡◌, List, [], length, drop, subst, arith}
use Rattle.std.proofs.KnownBytes.{Appends-nil}
use Rattle.std.proofs.Math.ListN.{drop_of_length-le}
use Rattle.lock_script.specs.declared.show.Show.{Show}
use Rattle.dlm_tasks.proofs.Shown.{ShowsLast, shown_last, all_shown, next_of}
use Rattle.dlm_tasks.proofs.run.show_all.Goals as goal

pub loop-show-init : goal.loop-show-init
loop-show-init g c = λ log leads. record { text = []; written = Appends-nil (g.O.Write.contents c.args.out.now); goes_on = λ rest text place. text place }

pub loop-show-preserved : goal.loop-show-preserved
loop-show-preserved g c = λ log leads.
    let at = c.loop-show in
    let shows = c.args.shows.now in
    let show = c.show-item.result in
    let k = c.args.cluster.now in
    let before = g.O.Write.contents c.args.out.now in
    let shown = c.in_ok-show_host.ensures.written in
    let within : at.show-index < length shows = omega arith in
    shown_last log shows show (drop (at.show-index + 1) shows) k shown.0 before (g.O.Write.contents at.out) (g.O.Write.contents c.show_host.new.out)
    (subst (λ (l : List Show). ShowsLast log shows l k before (g.O.Write.contents at.out)) (next_of shows at.show-index show within c.show-item.is) (at.invariant log leads))
    leads shown.1 shown.2

pub returns-clause-written : goal.returns-clause-written
returns-clause-written g c = λ log place leads.
    let at = c.loop-show in
    let shows = c.args.shows.now in
    let before = g.O.Write.contents c.args.out.now in
    let none : List Show = [] in
    let none_left : drop at.show-index shows ≡ none = drop_of_length-le shows (omega arith) in
    all_shown log shows c.args.cluster.now before (g.O.Write.contents at.out)
    (subst (λ (l : List Show). ShowsLast log shows l c.args.cluster.now before (g.O.Write.contents at.out)) none_left (at.invariant log leads)) place
