use Rattle.std.proofs.Common.{◌+◌, ◌<◌, ◌≡◌, ◌++◌, ◌∷◌, ◌∙◌, List, [], length, take, subst, sym, ap, arith}
use Rattle.std.proofs.lemmas.List.{take_all, take_more}
use Rattle.lock_script.specs.declared.event.Event.{Event}
use Rattle.epoch_sweep.specs.Sweeping.{HappenOn}
use Rattle.epoch_sweep.proofs.Running.{nothing, on}
use Rattle.epoch_sweep.proofs.ending.follow.Goals as goal

pub loop-event-init : goal.loop-event-init
loop-event-init c = nothing c.args.config c.args.cluster.now c.args.told.now.items

pub loop-event-preserved : goal.loop-event-preserved
loop-event-preserved c =
    let at = c.loop-event in
    let events = c.args.events.now in
    let event = c.event-item.result in
    let within : at.event-index < length events = omega arith in
    let grown : take at.event-index events ++ event ∷ [] ≡ take (at.event-index + 1) events =
    ap (λ (e : Event). take at.event-index events ++ e ∷ []) c.event-item.is ∙ sym (take_more events at.event-index event within) in
    subst (λ (l : List Event). HappenOn c.args.config l c.args.cluster.now c.happen_once.new.cluster c.args.told.now.items c.happen_once.new.told.items) grown
    (on c.args.config (take at.event-index events) (event ∷ []) c.args.cluster.now at.cluster c.happen_once.new.cluster c.args.told.now.items at.told.items c.happen_once.new.told.items at.invariant c.in_ok-happen_once.ensures)

pub returns : goal.returns
returns c =
    let at = c.loop-event in
    let events = c.args.events.now in
    let all : take at.event-index events ≡ events = take_all at.event-index events (omega arith) in
    subst (λ (l : List Event). HappenOn c.args.config l c.args.cluster.now at.cluster c.args.told.now.items at.told.items) all at.invariant
