use Rattle.std.specs.Prelude.{IsSome, None, replicate, slice_index_or}
use Rattle.std.proofs.Common.{◌+◌, ◌-◌, List, refl, sym, subst}
use Rattle.std.proofs.lemmas.List.{length-replicate}
use Rattle.world.specs.Happens.{Step}
use Rattle.simulator.specs.declared.answer.Answer.{Answer}
use Rattle.simulator.specs.Answers.{AddsAnswer}
use Rattle.fault_sweep.specs.Replayed.{later, IsOf, GoesOn}
use Rattle.fault_sweep.proofs.Following.{says, last_runs, goes_quietly, goes_spoken, still_played}
use Rattle.fault_sweep.proofs.replay.Replay.happen_steps.Goals as goal
use Rattle.fault_sweep.proofs.replay.Replay.happen_steps.Goals.{In-Some}

pub list-requires-clause-room : goal.list-requires-clause-room
list-requires-clause-room c = λ tells. c.in_ok-prepare.ensures refl

-- the host of what is said is kept then
runs : (c : goal.In-Some) → IsSome (slice_index_or c.steps-made.new.self.hosts c.in-Some.said.host None)
runs c =
    let s = c.self.inside in
    let made = c.steps-made in
    let was = c.self.invariant.1 in
    last_runs was.past (replicate made.result.0 (Step c.args.host)) made.result.0 (length-replicate made.result.0 (Step c.args.host))
    (record { cluster = s.cluster; place = s.place; report = s.answers.items }) made.new.self was.is made.result.1 made.ensures.brings (made.ensures.some c.requires.some) c.in-Some.said c.in-Some.is

pub list-requires-clause-runs : goal.list-requires-clause-runs
list-requires-clause-runs c = runs (goal.at.list-requires-clause-runs c).In-Some

-- the steps happen, where something is said
then_said : (c : goal.After-list) → GoesOn (record { cluster = c.self.inside.cluster; place = c.self.inside.place; report = c.self.inside.answers.items })
    (record { cluster = c.steps-made.new.self; place = c.self.inside.place + c.steps-made.result.0; report = c.list.new.answers.items })
    (replicate c.steps-made.result.0 (Step c.args.host))
then_said c p is =
    let s = c.self.inside in
    let made = c.steps-made in
    let report : List Answer = c.list.new.answers.items in
    goes_spoken p (replicate made.result.0 (Step c.args.host)) made.result.0 (length-replicate made.result.0 (Step c.args.host))
    (record { cluster = s.cluster; place = s.place; report = s.answers.items }) made.new.self is made.result.1 made.ensures.brings (made.ensures.some c.requires.some) c.in-Some.said c.in-Some.is
    report (subst (λ (l : List Answer). AddsAnswer made.new.self (s.place + made.result.0 - 1) c.in-Some.said l report) c.reserve.ensures.items c.list.ensures)

-- and where nothing is
then_nothing : (c : goal.In-None) → GoesOn (record { cluster = c.self.inside.cluster; place = c.self.inside.place; report = c.self.inside.answers.items })
    (record { cluster = c.steps-made.new.self; place = c.self.inside.place + c.steps-made.result.0; report = c.reserve.new.self.items })
    (replicate c.steps-made.result.0 (Step c.args.host))
then_nothing c p is =
    let s = c.self.inside in
    let made = c.steps-made in
    let steps = replicate made.result.0 (Step c.args.host) in
    subst (λ (l : List Answer). IsOf (later p steps) (record { cluster = made.new.self; place = s.place + made.result.0; report = l })) (sym c.reserve.ensures.items)
    (goes_quietly p steps made.result.0 (length-replicate made.result.0 (Step c.args.host)) (record { cluster = s.cluster; place = s.place; report = s.answers.items })
    made.new.self is made.result.1 made.ensures.brings c.in-None.is)

pub invariant_of-self-in-Some : goal.invariant_of-self-in-Some
invariant_of-self-in-Some c = still_played c.self.inside.config (replicate c.steps-made.result.0 (Step c.args.host)) _ _ (then_said c) c.self.invariant

pub invariant_of-self-in-None : goal.invariant_of-self-in-None
invariant_of-self-in-None c = still_played c.self.inside.config (replicate c.steps-made.result.0 (Step c.args.host)) _ _ (then_nothing c) c.self.invariant

pub returns-in-Some-clause-happened : goal.returns-in-Some-clause-happened
returns-in-Some-clause-happened c = λ p is. then_said c p (subst (IsOf p) (sym c.self.view_is) is)

pub returns-in-Some-clause-said : goal.returns-in-Some-clause-said
returns-in-Some-clause-said c =
    let s = c.self.inside in
    let made = c.steps-made in
    λ p is.
    says p (replicate made.result.0 (Step c.args.host)) made.result.0 (length-replicate made.result.0 (Step c.args.host)) (record { cluster = s.cluster; place = s.place; report = s.answers.items })
    made.new.self (subst (IsOf p) (sym c.self.view_is) is) made.result.1 made.ensures.brings (made.ensures.some c.requires.some) _ c.in-Some.is

pub returns-in-Some-clause-runs : goal.returns-in-Some-clause-runs
returns-in-Some-clause-runs c = runs (goal.at.returns-in-Some-clause-runs c).In-Some

pub returns-in-None-clause-happened : goal.returns-in-None-clause-happened
returns-in-None-clause-happened c = λ p is. then_nothing c p (subst (IsOf p) (sym c.self.view_is) is)

pub returns-in-None-clause-said : goal.returns-in-None-clause-said
returns-in-None-clause-said c =
    let s = c.self.inside in
    let made = c.steps-made in
    λ p is.
    says p (replicate made.result.0 (Step c.args.host)) made.result.0 (length-replicate made.result.0 (Step c.args.host)) (record { cluster = s.cluster; place = s.place; report = s.answers.items })
    made.new.self (subst (IsOf p) (sym c.self.view_is) is) made.result.1 made.ensures.brings (made.ensures.some c.requires.some) _ c.in-None.is
