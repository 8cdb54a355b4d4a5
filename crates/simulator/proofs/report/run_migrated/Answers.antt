use Rattle.std.proofs.Common.{◌+◌, ◌++◌, ◌∷◌, [], List, Option, Some, take, ap, ◌∙◌, sym, subst, arith}
use Rattle.world.specs.Entry.{Filled}
use Rattle.world.specs.Opening.{Opening, run_of}
use Rattle.simulator.specs.declared.answer.Answer.{Answer}
use Rattle.simulator.specs.declared.simulated_cluster.Said.{Said}
use Rattle.simulator.specs.Events.{event_of, events_of}
use Rattle.simulator.specs.Kept.{LeadsTo, Brings}
use Rattle.simulator.proofs.Lines.{speaker_runs}
use Rattle.simulator.proofs.Opened.{run_is_run}
use Rattle.simulator.proofs.Listing.{HasListed, lists, lists_nothing, all_listed}
use Rattle.simulator.proofs.Telling.{tells}
use Rattle.simulator.proofs.Learning.{only_learning}
use Rattle.simulator.proofs.report.run_migrated.Goals as goal
use Rattle.simulator.proofs.report.run_migrated.Goals.{in-Some, in_default}

pub listed-requires-clause-room : goal.listed-requires-clause-room
listed-requires-clause-room c =
    let log = run_of (record { shape = c.args.config; moved = c.args.log.now }) (events_of (take c.loop-place.place c.args.events.now)) in
    let event = c.index-events-place.result in
    let brings : Brings log (event_of event) c.loop-place.cluster c.event.new.self (Some c.in-Some.said) =
    subst (Brings log (event_of event) c.loop-place.cluster c.event.new.self) c.in-Some.is (c.in_ok-said.ensures.brings log c.loop-place.invariant.leads) in
    λ tells. c.in_ok-prepare.ensures (only_learning log (event_of event) c.loop-place.cluster c.event.new.self c.in-Some.said brings tells)

pub listed-requires-clause-runs : goal.listed-requires-clause-runs
listed-requires-clause-runs c =
    let log = run_of (record { shape = c.args.config; moved = c.args.log.now }) (events_of (take c.loop-place.place c.args.events.now)) in
    let event = c.index-events-place.result in
    let brings : Brings log (event_of event) c.loop-place.cluster c.event.new.self (Some c.in-Some.said) =
    subst (Brings log (event_of event) c.loop-place.cluster c.event.new.self) c.in-Some.is (c.in_ok-said.ensures.brings log c.loop-place.invariant.leads) in
    speaker_runs log (event_of event) c.loop-place.cluster c.event.new.self c.in-Some.said brings

pub loop-place-preserved : goal.loop-place-preserved
loop-place-preserved c =
    let o : Opening = record { shape = c.args.config; moved = c.args.log.now } in
    let at = c.loop-place in
    let event = c.index-events-place.result in
    let events = c.args.events.now in
    let Listed = HasListed o events (at.place + 1) c.event.new.self in
    let Says : Option Said → Type 0 = λ o. (log : List Filled) → LeadsTo log at.cluster → Brings log (event_of event) at.cluster c.event.new.self o in
    elim c.match-branch-5.branch [
      | in-Some w ↦
          (let items = ap (λ v. v.items) w.answers-is ∙ w.push_reserved.ensures.items ∙ ap (λ (l : List Answer). l ++ w.listed.result ∷ []) c.reserve.ensures.items in
          subst Listed (sym items)
          (lists o events at.place event at.cluster c.event.new.self at.answers.items c.loop-place-test.true c.index-events-place.is at.invariant w.in-Some.said
          w.listed.result
          (subst Says w.in-Some.is c.in_ok-said.ensures.brings) w.listed.ensures.line w.listed.ensures.picture))
      | in_default w ↦
          (let items = ap (λ v. v.items) w.answers-is ∙ c.reserve.ensures.items in
          subst Listed (sym items)
          (lists_nothing o events at.place event at.cluster c.event.new.self at.answers.items c.loop-place-test.true c.index-events-place.is at.invariant
          (subst Says w.in_default.is c.in_ok-said.ensures.brings)))
    ]

pub returns-clause-one_log : goal.returns-clause-one_log
returns-clause-one_log c =
    let before = c.loop-place.invariant in
    let o : Opening = record { shape = c.args.config; moved = c.args.log.now } in
    tells o (events_of c.args.events.now) (run_is_run o (events_of c.args.events.now) c.in_ok-cluster.ensures.can) c.loop-place.answers.items
    (all_listed o c.args.events.now c.loop-place.place c.loop-place.cluster c.loop-place.answers.items c.loop-place-test.false before) before.pictures

pub returns-clause-alone : goal.returns-clause-alone
returns-clause-alone c =
    let o : Opening = record { shape = c.args.config; moved = c.args.log.now } in
    let disks = c.disks-disks.ensures in
    let events = events_of c.args.events.now in
    c.alone_submissions_are_served.ensures.runs c.args.config (run_of o events) (omega (arith, disks.value, disks.range.0)) (run_is_run o events c.in_ok-cluster.ensures.can)
