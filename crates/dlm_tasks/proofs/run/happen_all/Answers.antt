use Rattle.std.specs.Prelude.{replicate}
use Rattle.std.proofs.Common.{◌+◌, ◌<◌, ◌≡◌, List, [], length, drop, subst, ap, sym, arith}
use Rattle.std.proofs.Math.ListN.{drop_of_length-le}
use Rattle.std.proofs.lemmas.List.{length-replicate}
use Rattle.std.proofs.lemmas.Result.{on_ok_weaker}
use Rattle.world.specs.Happens.{Event}
use Rattle.lock_script.specs.Events.{each_event}
use Rattle.lock_script.specs.declared.events.Run.{Run}
use Rattle.lock_script.specs.declared.show.Show.{Show}
use Rattle.simulator.specs.Events.{event_of, events_of}
use Rattle.dlm_tasks.proofs.Shown.{ShownSoFar, none_so_far, next, ended, run_first, run_count}
use Rattle.dlm_tasks.proofs.run.happen_all.Goals as goal

pub loop-run-init : goal.loop-run-init
loop-run-init g c =
    let script = c.args.script.now in
    let at = g.O.Write.contents c.args.out.now in
    record {
      room = omega (arith, c.runs-run-items.ensures.few, ap length c.runs-run-items.ensures.runs);
      so_far = λ log leads.
          subst (λ (later : List Show). ShownSoFar log (events_of script.events) (events_of (each_event c.runs-run-items.result.now)) 0 script.shows.items later c.args.cluster.now c.args.cluster.now at at)
          (sym c.as_slice-shows.ensures.value)
          (subst (λ (left : List Event). ShownSoFar log (events_of script.events) left 0 script.shows.items script.shows.items c.args.cluster.now c.args.cluster.now at at)
          (ap events_of (sym c.runs-run-items.ensures.runs)) (none_so_far log (events_of script.events) script.shows.items c.args.cluster.now at leads));
    }

pub loop-run-preserved : goal.loop-run-preserved
loop-run-preserved g c =
    let at = c.loop-run in
    let run = c.run-item.result in
    let runs = c.runs-run-items.result.now in
    let script = c.args.script.now in
    let within : at.run-index < length runs = omega arith in
    let a = replicate run.times (event_of run.event) in
    let left = events_of (each_event (drop (at.run-index + 1) runs)) in
    record {
      room = omega (arith, run_count runs at.run-index run within c.run-item.is);
      so_far = λ log leads.
          next log (events_of script.events) a left at.place run.times script.shows.items at.shows.now c.in_ok-shows.shows.now c.args.cluster.now at.cluster c.happen_run.new.cluster
          (g.O.Write.contents c.args.out.now) (g.O.Write.contents at.out) (g.O.Write.contents c.happen_run.new.out)
          (subst (λ (l : List Event). ShownSoFar log (events_of script.events) l at.place script.shows.items at.shows.now c.args.cluster.now at.cluster (g.O.Write.contents c.args.out.now) (g.O.Write.contents at.out))
          (run_first runs at.run-index run within c.run-item.is) (at.invariant.so_far log leads))
          c.in_ok-shows.ensures.written (length-replicate run.times (event_of run.event));
    }

pub returns-clause-written : goal.returns-clause-written
returns-clause-written g c =
    let at = c.loop-run in
    let runs = c.runs-run-items.result.now in
    let script = c.args.script.now in
    let none : List Run = [] in
    let none_left : drop at.run-index runs ≡ none = drop_of_length-le runs (omega arith) in
    on_ok_weaker c.show_all.result
    (λ rest log leads.
    ended log (events_of script.events) at.place script.shows.items at.shows.now c.args.cluster.now at.cluster (g.O.Write.contents c.args.out.now) (g.O.Write.contents at.out) (g.O.Write.contents c.show_all.new.out)
    (subst (λ (l : List Run). ShownSoFar log (events_of script.events) (events_of (each_event l)) at.place script.shows.items at.shows.now c.args.cluster.now at.cluster (g.O.Write.contents c.args.out.now) (g.O.Write.contents at.out))
    none_left (at.invariant.so_far log leads))
    rest)
    c.show_all.ensures.written
