use Rattle.std.specs.Prelude.{take, drop, IfSome, Option}
use Rattle.std.proofs.Common.{◌≡◌, ◌-◌, Some, [], List, length, length-drop, ◌∙◌, subst, arith}
use Rattle.std.proofs.lemmas.List.{take_all, length-take}
use Rattle.std.proofs.lemmas.Result.{IfOk-weaker, on_ok_weaker}
use Rattle.lock_script.specs.declared.event.Event as code
use Rattle.world.specs.Opening.{Opening}
use Rattle.simulator.specs.Events.{event_of, events_of}
use Rattle.simulator.specs.Past.{Past}
use Rattle.fault_sweep.specs.Replayed.{GoesOn, IsOf, Played}
use Rattle.fault_sweep.specs.Sweeping.{changed}
use Rattle.fault_sweep.proofs.Counting.{variant_goes}
use Rattle.fault_sweep.proofs.sweeping.run_variant.Goals as goal

-- nothing has happened yet to a replay that begins
none_yet : (o : Opening) (kept : Option Played) (replay : Played) → kept ≡ Some replay → IfSome kept (IsOf (record { opening = o; events = [] })) → replay.place ≡ 0
none_yet o kept replay is fresh = (subst (λ (r : Option Played). IfSome r (IsOf (record { opening = o; events = [] }))) is fresh).many

pub follow-requires : goal.follow-requires
follow-requires c =
    let none = none_yet (record { shape = c.args.config; moved = c.args.log.now }) c.begin.new.kept c.in-Some.replay c.in-Some.is c.in_ok-begin.ensures.fresh in
    omega (arith, none, length-take {A = code.Event})

pub happen-requires : goal.happen-requires
happen-requires c =
    let none = none_yet (record { shape = c.args.config; moved = c.args.log.now }) c.begin.new.kept c.in-Some.replay c.in-Some.is c.in_ok-begin.ensures.fresh in
    omega (arith, none, length-take {A = code.Event}, c.in_ok-follow.ensures.counted)

pub follow-requires-2 : goal.follow-requires-2
follow-requires-2 c =
    let none = none_yet (record { shape = c.args.config; moved = c.args.log.now }) c.begin.new.kept c.in-Some.replay c.in-Some.is c.in_ok-begin.ensures.fresh in
    omega (arith, none, length-take {A = code.Event}, length-drop {A = code.Event}, c.in_ok-follow.ensures.counted, c.in_ok-happen.ensures.counted)

pub end-requires : goal.end-requires
end-requires c =
    let none = none_yet (record { shape = c.args.config; moved = c.args.log.now }) c.begin.new.kept c.in-Some.replay c.in-Some.is c.in_ok-begin.ensures.fresh in
    omega (arith, none, length-take {A = code.Event}, length-drop {A = code.Event}, c.in_ok-follow.ensures.counted, c.in_ok-happen.ensures.counted, c.in_ok-follow-2.ensures.counted)

-- the replay is of the variant
goes : (c : goal.After-end)
    → IsOf (record { opening = record { shape = c.args.config; moved = c.args.log.now }; events = changed (events_of c.args.events.now) c.args.place (event_of c.args.change.now) }) c.follow-2.new.self
goes c =
    let events : List code.Event = c.args.events.now in
    let put = c.happen.new.self in
    let p : Past = record { opening = record { shape = c.args.config; moved = c.args.log.now }; events = [] } in
    let fresh : IsOf p c.in-Some.replay = subst (λ (o : Option Played). IfSome o (IsOf p)) c.in-Some.is c.in_ok-begin.ensures.fresh in
    let rest : take (length events - c.args.place) (drop c.args.place events) ≡ drop c.args.place events =
    take_all (length events - c.args.place) (drop c.args.place events) (omega (arith, length-drop c.args.place events)) in
    variant_goes p.opening events c.args.place c.args.change.now c.in-Some.replay c.follow.new.self put c.follow-2.new.self fresh c.in_ok-follow.ensures.happened c.in_ok-happen.ensures.happened
    (subst (λ (l : List code.Event). GoesOn put c.follow-2.new.self (events_of l)) rest c.in_ok-follow-2.ensures.happened)

pub returns-clause-recovered : goal.returns-clause-recovered
returns-clause-recovered c =
    IfOk-weaker c.end.result _ _ (λ end recovered. recovered _ (goes c)) c.end.ensures.recovered

pub returns-clause-kept : goal.returns-clause-kept
returns-clause-kept c =
    on_ok_weaker c.end.result (λ same. same ∙ (goes c).own) c.end.ensures.shape
