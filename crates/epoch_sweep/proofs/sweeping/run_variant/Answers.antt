use Rattle.std.specs.Prelude.{take, drop}
use Rattle.std.proofs.Common.{◌≡◌, ◌-◌, ◌++◌, ◌∷◌, ◌∙◌, List, [], length, length-drop, sym, ap, subst, append_assoc, arith}
use Rattle.std.proofs.lemmas.List.{take_all}
use Rattle.std.proofs.lemmas.Result.{IfOk-weaker}
use Rattle.lock_script.specs.declared.event.Event.{Event}
use Rattle.epoch_player.specs.declared.happening.Said.{Said}
use Rattle.epoch_sweep.specs.declared.tally.End.{End}
use Rattle.epoch_sweep.specs.Sweeping.{Happen, HappenOn, EndsSo, changed}
use Rattle.epoch_sweep.proofs.Running.{on}
use Rattle.epoch_sweep.proofs.sweeping.run_variant.Goals as goal

pub returns-clause-ended : goal.returns-clause-ended
returns-clause-ended c =
    let config = c.args.config in
    let events : List Event = c.args.events.now in
    let i = c.args.place in
    let change = c.args.change.now in
    let old = c.in_ok-cluster.cluster in
    let k1 = c.follow.new.cluster in
    let k2 = c.happen_once.new.cluster in
    let k3 = c.follow-2.new.cluster in
    let k4 = c.stop_all.new.cluster in
    let t1 = c.follow.new.told.items in
    let t2 = c.happen_once.new.told.items in
    let t3 = c.follow-2.new.told.items in
    let t4 = c.stop_all.new.told.items in
    let none : List Said = [] in
    let rest : take (length events - i) (drop i events) ≡ drop i events = take_all (length events - i) (drop i events) (omega (arith, length-drop i events)) in
    let late = subst (λ (l : List Event). HappenOn config l k2 k3 t2 t3) rest c.in_ok-follow-2.ensures in
    let first = subst (λ (l : List Said). HappenOn config (take i events) old k1 l t1) c.new-told.ensures.items c.in_ok-follow.ensures in
    let two = on config (take i events) (change ∷ []) old k1 k2 none t1 t2 first c.in_ok-happen_once.ensures in
    let all = on config (take i events ++ change ∷ []) (drop i events) old k2 k3 none t2 t3 two late in
    let stop = c.in_ok-stop_all.ensures in
    let is : (take i events ++ change ∷ []) ++ drop i events ≡ changed events i change = append_assoc (take i events) (change ∷ []) (drop i events) in
    let said : c.deref.result.now ≡ all.0 ++ stop.0 = c.deref.ensures.value ∙ stop.2 ∙ ap (λ (l : List Said). l ++ stop.0) all.2 in
    IfOk-weaker c.end.result _ _
    (λ (end : End) ends.
    record {
      old = old;
      now = k3;
      stopped = k4;
      new = c.end.new.cluster;
      told = all.0;
      more = stop.0;
      first = record { shape = c.in_ok-cluster.ensures.shape; hosts = c.in_ok-cluster.ensures.hosts; leads = c.in_ok-cluster.ensures.leads };
      happen = subst (λ (l : List Event). Happen config l old k3 all.0) is all.1;
      stop = stop.1;
      ends = subst (λ (l : List Said). EndsSo config l k4 c.end.new.cluster end) said ends;
    })
    c.end.ensures.ends
