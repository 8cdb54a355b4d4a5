use Rattle.std.proofs.Common.{◌≡◌, ◌∙◌, ◌++◌, ◌∷◌, [], ℕ, ◌+◌, List, length, take, get_or, ◌<◌, sym, subst, ap}
use Rattle.std.proofs.lemmas.List.{take_all, take_more, map-append}
use Rattle.migration.specs.Events.{Event, run}
use Rattle.migration.specs.Kept.{setup_by}
use Rattle.migration.specs.Running.{LeadsTo, events_of, event_of}
use Rattle.migration.specs.declared.event.MigrationEvent as code
use Rattle.migration.proofs.Happening.{runs_migrate}
use Rattle.migration.proofs.Stepping.{all_or_nothing_in}
use Rattle.migration.proofs.run.migrate_run.Goals as goal

pub loop-event-init : goal.loop-event-init
loop-event-init c = c.in_ok-running.ensures

pub happen-requires : goal.happen-requires
happen-requires c = record {
  setup = setup_by c.args.config c.args.cluster c.args.log.items;
  events = events_of (take c.loop-event.event-index c.args.events.now);
  leads = c.loop-event.invariant;
}

-- one event more
more_events : (events : List code.MigrationEvent) (i : ℕ) (e : code.MigrationEvent) → i < length events → e ≡ get_or events i e → events_of (take (i + 1) events) ≡ events_of (take i events) ++ event_of e ∷ []
more_events events i e within is =
    ap events_of (take_more events i e within ∙ ap (λ (x : code.MigrationEvent). take i events ++ x ∷ []) (sym is))
    ∙ map-append event_of (take i events) (e ∷ [])

pub loop-event-preserved : goal.loop-event-preserved
loop-event-preserved c =
    let s = setup_by c.args.config c.args.cluster c.args.log.items in
    let before = events_of (take c.loop-event.event-index c.args.events.now) in
    subst (λ (events : List Event). LeadsTo s events c.happen.new.self.migrator c.happen.new.self.disks.items)
    (sym (more_events c.args.events.now c.loop-event.event-index c.event-item.result c.loop-event-test.true c.event-item.is))
    (c.happen.ensures s before c.loop-event.invariant)

-- all events have happened
led : (c : goal.Joined-running) → LeadsTo (setup_by c.args.config c.args.cluster c.args.log.items) (events_of c.args.events.now) c.loop-event.running.migrator c.loop-event.running.disks.items
led c =
    let s = setup_by c.args.config c.args.cluster c.args.log.items in
    subst (λ (events : List code.MigrationEvent). LeadsTo s (events_of events) c.loop-event.running.migrator c.loop-event.running.disks.items)
    (take_all c.loop-event.event-index c.args.events.now (let all = c.loop-event-test.false in all)) c.loop-event.invariant

pub returns-clause-disks : goal.returns-clause-disks
returns-clause-disks c = (led c).shows

pub returns-clause-all_or_nothing : goal.returns-clause-all_or_nothing
returns-clause-all_or_nothing c =
    let s = setup_by c.args.config c.args.cluster c.args.log.items in
    let all = led c in
    all_or_nothing_in s (run s (events_of c.args.events.now)) c.loop-event.running.disks.items all.shows (runs_migrate s all.fits (events_of c.args.events.now))
