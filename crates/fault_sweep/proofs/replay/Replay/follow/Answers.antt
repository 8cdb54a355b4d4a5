use Rattle.std.specs.Prelude.{take, drop}
use Rattle.std.proofs.Common.{◌-◌, ◌≡◌, List, length, ap, subst, arith}
use Rattle.std.proofs.lemmas.List.{take_all, length-drop}
use Rattle.lock_script.specs.declared.event.Event.{Event}
use Rattle.simulator.specs.Events.{events_of}
use Rattle.fault_sweep.specs.Replayed.{GoesOn}
use Rattle.fault_sweep.proofs.Replaying.{goes_further}
use Rattle.fault_sweep.proofs.Following.{events_further}
use Rattle.fault_sweep.proofs.replay.Replay.follow.Goals as goal

pub loop-from-preserved : goal.loop-from-preserved
loop-from-preserved c =
    let at = c.loop-from in
    let k = at.from in
    let m = c.in_ok-from.field-0 in
    let start = c.args.self.now in
    let events = c.args.events.now in
    let rest : take (length events - k) (drop k events) ≡ drop k events = take_all (length events - k) (drop k events) (omega (arith, length-drop k events)) in
    let more = subst (λ (l : List Event). GoesOn at.self c.follow_first.new.self (events_of (take m l))) rest c.in_ok-from.ensures.happened in
    record {
      within = omega (arith, c.in_ok-from.ensures.many.1);
      counted = omega (arith, c.in_ok-from.ensures.counted);
      happened =
          subst (GoesOn start c.follow_first.new.self) (events_further k m events)
          (goes_further start at.self c.follow_first.new.self (events_of (take k events)) (events_of (take m (drop k events))) at.invariant.happened more);
    }

pub returns-clause-happened : goal.returns-clause-happened
returns-clause-happened c =
    let events = c.args.events.now in
    let all = take_all c.loop-from.from events (omega (arith, c.loop-from-test.false)) in
    subst (GoesOn c.args.self.now c.loop-from.self) (ap events_of all) c.loop-from.invariant.happened
