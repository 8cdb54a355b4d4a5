use Rattle.std.specs.Prelude.{sum_by}
use Rattle.std.proofs.Common.{◌+◌, List, length, ap, ◌∙◌, subst, arith}
use Rattle.lock_command.specs.declared.command.Command.{Command}
use Rattle.lock_script.specs.declared.event.Event as code
use Rattle.world.specs.Entry.{Filled}
use Rattle.world.specs.Opening.{Opening}
use Rattle.simulator.specs.Events.{event_of, events_of}
use Rattle.fault_sweep.specs.Sweeping.{changed, recovered_behind}
use Rattle.simulator.specs.Kept.{Kept, LeadsTo, Brings}
use Rattle.fault_sweep.proofs.Counting.{one_swept}
use Rattle.fault_sweep.proofs.sweeping.sweep.Goals as goal

pub loop-place-preserved : goal.loop-place-preserved
loop-place-preserved c =
    let o : Opening = record { shape = c.args.script.now.config; moved = c.args.script.now.log.items } in
    let events : List code.Event = c.in_ok-events.events.items in
    let event = c.index-event.result.now in
    let old = c.loop-place.cluster in
    let put : List code.Event = c.in_ok-changes.changes.items in
    record {
      swept =
          one_swept o events c.loop-place.place event old c.event.new.self put c.loop-place.sweep c.sweep_place.new.sweep c.in_ok-event.field-0
          (omega (arith, c.loop-place-test.true, c.len-place-end.ensures)) c.index-event.ensures c.loop-place.invariant.swept c.in_ok-changes.ensures.changes c.in_ok-changes.ensures.few
          (c.in_ok-sweep_place.ensures.runs ∙ ap (λ (l : List code.Event). c.loop-place.sweep.runs + length l) c.deref-in-loop-place-3.ensures.value)
          (c.in_ok-sweep_place.ensures.recovered
          ∙ ap (λ (l : List Command). c.loop-place.sweep.recovered
          + sum_by (λ change. recovered_behind (record { shape = c.args.script.now.config; moved = l }) (changed (events_of c.deref-in-loop-place-2.result.now) c.loop-place.place (event_of change))) c.deref-in-loop-place-3.result.now)
          c.deref-in-loop-place.ensures.value
          ∙ ap (λ (l : List code.Event). c.loop-place.sweep.recovered
          + sum_by (λ change. recovered_behind o (changed (events_of l) c.loop-place.place (event_of change))) c.deref-in-loop-place-3.result.now) c.deref-in-loop-place-2.ensures.value
          ∙ ap (λ (l : List code.Event). c.loop-place.sweep.recovered
          + sum_by (λ change. recovered_behind o (changed (events_of events) c.loop-place.place (event_of change))) l) c.deref-in-loop-place-3.ensures.value)
          c.in_ok-sweep_place.ensures.counted c.in_ok-sweep_place.ensures.right
          (subst (λ (k : Kept). (log : List Filled) → LeadsTo log k → Brings log (event_of event) k c.event.new.self c.in_ok-event.field-0) c.in_ok-changes.ensures.unchanged c.in_ok-event.ensures.brings);
      kept = c.in_ok-sweep_place.ensures.kept;
    }
