use Rattle.std.specs.Prelude.{All}
use Rattle.std.proofs.Common.{◌+◌, ◌<◌, ◌≤◌, ◌≡◌, ◌∙◌, List, [], ◌∷◌, length, drop, subst, sym, ap, arith}
use Rattle.std.proofs.Math.ListN.{drop_of_length-le}
use Rattle.std.proofs.lemmas.List.Elements.{All-nil}
use Rattle.lock_script.specs.declared.event.Event.{Event}
use Rattle.epoch_player.proofs.Parts.{next_of}
use Rattle.epoch_sweep.specs.declared.tally.End.{End}
use Rattle.epoch_sweep.specs.Sweeping.{AllEnd, changes}
use Rattle.epoch_sweep.proofs.Running.{SoFar, none_so_far, one_so_far, all_so_far}
use Rattle.epoch_sweep.proofs.sweeping.ends.Goals as goal

pub loop-place-init : goal.loop-place-init
loop-place-init c =
    let none = c.new-ends.ensures.items in
    let few : End → Type 0 = λ end. end.recovered ≤ 2 in
    let k = c.in_ok-cluster.cluster in
    record {
      few = omega (arith, ap (λ (l : List End). length l) none);
      each = subst (All few) (sym none) (All-nil few);
      so_far = subst (λ (l : List End). SoFar c.args.config c.args.events.now 0 k k l) (sym none) (none_so_far c.args.config c.args.events.now k);
    }

pub loop-place-preserved : goal.loop-place-preserved
loop-place-preserved c =
    let at = c.loop-place in
    let events = c.args.events.now in
    let event = c.index-events-place.result in
    let within : at.place < length events = omega arith in
    let put = c.in_ok-changes.changes.items in
    let listed : List Event = c.deref.result.now in
    let ended : AllEnd c.args.config events at.place (changes at.cluster event) at.ends.items c.end_each.new.ends.items =
    subst (λ (l : List Event). AllEnd c.args.config events at.place l at.ends.items c.end_each.new.ends.items) (c.deref.ensures.value ∙ c.in_ok-changes.ensures.changes) c.in_ok-end_each.ensures.ended in
    record {
      few = omega (arith, at.invariant.few, c.in_ok-end_each.ensures.few, c.in_ok-changes.ensures.few, ap (λ (l : List Event). length l) c.deref.ensures.value);
      each = c.in_ok-end_each.ensures.each at.invariant.each;
      so_far =
          one_so_far c.args.config events at.place event c.in_ok-cluster.cluster at.cluster c.happen.new.cluster c.in_ok-happen.field-0 at.ends.items c.end_each.new.ends.items
          (next_of events at.place event within c.index-events-place.is) at.invariant.so_far ended c.in_ok-happen.ensures;
    }

pub returns-clause-swept : goal.returns-clause-swept
returns-clause-swept c =
    let at = c.loop-place in
    let events = c.args.events.now in
    let none : List Event = [] in
    let none_left : drop at.place events ≡ none = drop_of_length-le events (omega arith) in
    record {
      old = c.in_ok-cluster.cluster;
      first = record { shape = c.in_ok-cluster.ensures.shape; hosts = c.in_ok-cluster.ensures.hosts; leads = c.in_ok-cluster.ensures.leads };
      swept = all_so_far c.args.config events at.place c.in_ok-cluster.cluster at.cluster at.ends.items none_left at.invariant.so_far;
    }
