use Rattle.std.specs.Prelude.{All}
use Rattle.std.proofs.Common.{◌≤◌, ◌∙◌, List, length, ap, sym, subst, arith}
use Rattle.lock_script.specs.declared.event.Event.{Event}
use Rattle.epoch_sweep.specs.declared.tally.End.{End}
use Rattle.epoch_sweep.specs.Counting.{counted}
use Rattle.epoch_sweep.specs.Sweeping.{HasSwept}
use Rattle.epoch_sweep.proofs.sweeping.sweep_epochs.Goals as goal

pub count-requires-clause-few : goal.count-requires-clause-few
count-requires-clause-few c =
    omega (arith, c.in_ok-ends.ensures.few, ap (λ (l : List End). length l) c.deref-2.ensures.value, ap (λ (l : List Event). length l) (c.deref.ensures.value ∙ c.in_ok-events.ensures))

pub count-requires-clause-each : goal.count-requires-clause-each
count-requires-clause-each c = subst (All (λ (end : End). end.recovered ≤ 2)) (sym c.deref-2.ensures.value) c.in_ok-ends.ensures.each

pub returns : goal.returns
returns c =
    let script = c.args.script.now in
    let ends = c.in_ok-ends.ends.items in
    record {
      ends = ends;
      has = subst (λ (l : List Event). HasSwept script.config l ends) (c.deref.ensures.value ∙ c.in_ok-events.ensures) c.in_ok-ends.ensures.swept;
      counts = c.count.ensures ∙ ap counted c.deref-2.ensures.value;
    }
