use Rattle.std.specs.Prelude.{IsSome, None, slice_index_or}
use Rattle.std.proofs.Common.{ℕ, ◌≡◌, ◌+◌, ◌-◌, List, [], ◌∷◌, ◌++◌, refl, sym, subst, arith}
use Rattle.world.specs.Opening.{run_of}
use Rattle.simulator.specs.declared.answer.Answer.{Answer}
use Rattle.simulator.specs.Answers.{AddsAnswer}
use Rattle.simulator.specs.Events.{event_of}
use Rattle.simulator.specs.Kept.{Brings}
use Rattle.simulator.proofs.Learning.{only_learning}
use Rattle.fault_sweep.specs.Replayed.{IsOf, GoesOn}
use Rattle.fault_sweep.proofs.Following.{once, says, last_runs, goes_quietly, goes_spoken, still_played}
use Rattle.fault_sweep.proofs.replay.Replay.happen.Goals as goal
use Rattle.fault_sweep.proofs.replay.Replay.happen.Goals.{In-Some}

pub list-requires-clause-room : goal.list-requires-clause-room
list-requires-clause-room c =
    let s = c.self.inside in
    let event = event_of c.args.event.now in
    let was = c.self.invariant.1 in
    let log = run_of was.past.opening was.past.events in
    let brings = subst (Brings log event s.cluster c.event.new.self) c.in-Some.is (c.in_ok-said.ensures.brings log was.is.leads) in
    λ tells. c.in_ok-prepare.ensures (only_learning log event s.cluster c.event.new.self c.in-Some.said brings tells)

-- the host of what is said is kept then
runs : (c : goal.In-Some) → IsSome (slice_index_or c.event.new.self.hosts c.in-Some.said.host None)
runs c =
    let s = c.self.inside in
    let event = event_of c.args.event.now in
    let was = c.self.invariant.1 in
    last_runs was.past (event ∷ []) 1 refl (record { cluster = s.cluster; place = s.place; report = s.answers.items }) c.event.new.self was.is c.in_ok-said.said
    (once event s.cluster c.event.new.self c.in_ok-said.said c.in_ok-said.ensures.brings) (omega arith) c.in-Some.said c.in-Some.is

pub list-requires-clause-runs : goal.list-requires-clause-runs
list-requires-clause-runs c = runs (goal.at.list-requires-clause-runs c).In-Some

one_behind : (n : ℕ) → n ≡ n + 1 - 1
one_behind n = omega arith

-- the event happens, where something is said
then_said : (c : goal.After-list) → GoesOn (record { cluster = c.self.inside.cluster; place = c.self.inside.place; report = c.self.inside.answers.items })
    (record { cluster = c.event.new.self; place = c.self.inside.place + 1; report = c.list.new.answers.items }) (event_of c.args.event.now ∷ [])
then_said c p is =
    let s = c.self.inside in
    let event = event_of c.args.event.now in
    let new = c.event.new.self in
    let report : List Answer = c.list.new.answers.items in
    let adds : AddsAnswer new s.place c.in-Some.said s.answers.items report = subst (λ (l : List Answer). AddsAnswer new s.place c.in-Some.said l report) c.reserve.ensures.items c.list.ensures in
    goes_spoken p (event ∷ []) 1 refl (record { cluster = s.cluster; place = s.place; report = s.answers.items }) new is c.in_ok-said.said
    (once event s.cluster new c.in_ok-said.said c.in_ok-said.ensures.brings) (omega arith) c.in-Some.said c.in-Some.is report
    (subst (λ (n : ℕ). AddsAnswer new n c.in-Some.said s.answers.items report) (one_behind s.place) adds)

-- and where nothing is
then_nothing : (c : goal.In-None) → GoesOn (record { cluster = c.self.inside.cluster; place = c.self.inside.place; report = c.self.inside.answers.items })
    (record { cluster = c.event.new.self; place = c.self.inside.place + 1; report = c.reserve.new.self.items }) (event_of c.args.event.now ∷ [])
then_nothing c p is =
    let s = c.self.inside in
    let event = event_of c.args.event.now in
    let new = c.event.new.self in
    subst (λ (l : List Answer). IsOf (record p { events = p.events ++ event ∷ [] }) (record { cluster = new; place = s.place + 1; report = l })) (sym c.reserve.ensures.items)
    (goes_quietly p (event ∷ []) 1 refl (record { cluster = s.cluster; place = s.place; report = s.answers.items }) new is c.in_ok-said.said
    (once event s.cluster new c.in_ok-said.said c.in_ok-said.ensures.brings) c.in-None.is)

pub invariant_of-self-in-Some : goal.invariant_of-self-in-Some
invariant_of-self-in-Some c = still_played c.self.inside.config (event_of c.args.event.now ∷ []) _ _ (then_said c) c.self.invariant

pub invariant_of-self-in-None : goal.invariant_of-self-in-None
invariant_of-self-in-None c = still_played c.self.inside.config (event_of c.args.event.now ∷ []) _ _ (then_nothing c) c.self.invariant

pub returns-in-Some-clause-happened : goal.returns-in-Some-clause-happened
returns-in-Some-clause-happened c = λ p is. then_said c p (subst (IsOf p) (sym c.self.view_is) is)

pub returns-in-Some-clause-said : goal.returns-in-Some-clause-said
returns-in-Some-clause-said c =
    let s = c.self.inside in
    let event = event_of c.args.event.now in
    λ p is.
    says p (event ∷ []) 1 refl (record { cluster = s.cluster; place = s.place; report = s.answers.items }) c.event.new.self (subst (IsOf p) (sym c.self.view_is) is) c.in_ok-said.said
    (once event s.cluster c.event.new.self c.in_ok-said.said c.in_ok-said.ensures.brings) (omega arith) _ c.in-Some.is

pub returns-in-Some-clause-runs : goal.returns-in-Some-clause-runs
returns-in-Some-clause-runs c = runs (goal.at.returns-in-Some-clause-runs c).In-Some

pub returns-in-None-clause-happened : goal.returns-in-None-clause-happened
returns-in-None-clause-happened c = λ p is. then_nothing c p (subst (IsOf p) (sym c.self.view_is) is)

pub returns-in-None-clause-said : goal.returns-in-None-clause-said
returns-in-None-clause-said c =
    let s = c.self.inside in
    let event = event_of c.args.event.now in
    λ p is.
    says p (event ∷ []) 1 refl (record { cluster = s.cluster; place = s.place; report = s.answers.items }) c.event.new.self (subst (IsOf p) (sym c.self.view_is) is) c.in_ok-said.said
    (once event s.cluster c.event.new.self c.in_ok-said.said c.in_ok-said.ensures.brings) (omega arith) _ c.in-None.is
