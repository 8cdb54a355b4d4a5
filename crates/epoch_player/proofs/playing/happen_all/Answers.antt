use Rattle.std.proofs.Common.{◌+◌, ◌<◌, ◌≡◌, List, [], length, drop, subst, ap, sym, arith}
use Rattle.std.specs.Prelude.{replicate}
use Rattle.std.proofs.Math.ListN.{drop_of_length-le}
use Rattle.std.proofs.lemmas.List.{length-replicate}
use Rattle.std.proofs.lemmas.Result.{on_ok_weaker}
use Rattle.lock_script.specs.Events.{each_event}
use Rattle.lock_script.specs.declared.event.Event.{Event}
use Rattle.lock_script.specs.declared.events.Run.{Run}
use Rattle.lock_script.specs.declared.show.Show.{Show}
use Rattle.epoch_player.proofs.Parts.{SoFar, none_so_far, next, ended, run_first, run_count}
use Rattle.epoch_player.proofs.playing.happen_all.Goals as goal

pub loop-run-init : goal.loop-run-init
loop-run-init g c =
    let script = c.args.script.now in
    let at = g.O.Write.contents c.args.out.now in
    let k = c.args.cluster.now in
    record {
      room = omega (arith, c.runs-run-items.ensures.few, ap length c.runs-run-items.ensures.runs);
      so_far =
          subst (λ (later : List Show). SoFar script.config script.events (each_event c.runs-run-items.result.now) 0 script.shows.items later k k at at) (sym c.as_slice-shows.ensures.value)
          (subst (λ (left : List Event). SoFar script.config script.events left 0 script.shows.items script.shows.items k k at at) (sym c.runs-run-items.ensures.runs)
          (none_so_far script.config script.events script.shows.items k at));
    }

pub loop-run-preserved : goal.loop-run-preserved
loop-run-preserved g c =
    let at = c.loop-run in
    let run = c.run-item.result in
    let runs = c.runs-run-items.result.now in
    let script = c.args.script.now in
    let within : at.run-index < length runs = omega arith in
    let start = g.O.Write.contents c.args.out.now in
    let now = g.O.Write.contents at.out in
    record {
      room = omega (arith, run_count runs at.run-index run within c.run-item.is);
      so_far =
          next script.config script.events (replicate run.times run.event) (each_event (drop (at.run-index + 1) runs)) at.place run.times script.shows.items at.shows.now c.in_ok-shows.shows.now c.args.cluster.now at.cluster
          c.happen_run.new.cluster start now (g.O.Write.contents c.happen_run.new.out)
          (subst (λ (l : List Event). SoFar script.config script.events l at.place script.shows.items at.shows.now c.args.cluster.now at.cluster start now) (run_first runs at.run-index run within c.run-item.is) at.invariant.so_far)
          c.in_ok-shows.ensures (length-replicate run.times run.event);
    }

pub returns : goal.returns
returns g c =
    let at = c.loop-run in
    let runs = c.runs-run-items.result.now in
    let script = c.args.script.now in
    let start = g.O.Write.contents c.args.out.now in
    let now = g.O.Write.contents at.out in
    let none : List Run = [] in
    let none_left : drop at.run-index runs ≡ none = drop_of_length-le runs (omega arith) in
    on_ok_weaker c.show_all.result
    (λ rest.
    ended script at.place at.shows.now c.args.cluster.now at.cluster start now (g.O.Write.contents c.show_all.new.out)
    (subst (λ (l : List Run). SoFar script.config script.events (each_event l) at.place script.shows.items at.shows.now c.args.cluster.now at.cluster start now) none_left at.invariant.so_far)
    rest)
    c.show_all.ensures
