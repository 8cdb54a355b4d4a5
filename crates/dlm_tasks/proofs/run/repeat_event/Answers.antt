use Rattle.std.specs.Prelude.{replicate}
use Rattle.std.proofs.Common.{ℕ, ◌+◌, ◌-◌, ◌≡◌, subst, arith}
use Rattle.simulator.specs.Events.{event_of}
use Rattle.dlm_tasks.specs.Printed.{WritesAnswers}
use Rattle.dlm_tasks.proofs.Answering.{none, more, once}
use Rattle.dlm_tasks.proofs.run.repeat_event.Goals as goal

pub loop-place-init : goal.loop-place-init
loop-place-init g c = λ log leads.
    let none_yet : 0 ≡ c.args.first - c.args.first = omega arith in
    subst (λ (n : ℕ). WritesAnswers log (replicate n (event_of c.args.event.now)) c.args.first c.args.cluster.now c.args.cluster.now (g.O.Write.contents c.args.out.now) (g.O.Write.contents c.args.out.now)) none_yet
    (none log c.args.first c.args.cluster.now (g.O.Write.contents c.args.out.now) leads)

pub loop-place-preserved : goal.loop-place-preserved
loop-place-preserved g c = λ log leads.
    let first = c.args.first in
    let at = c.loop-place in
    let e = event_of c.args.event.now in
    let start = c.args.cluster.now in
    let new = c.happen.new.cluster in
    let before = g.O.Write.contents c.args.out.now in
    let mid = g.O.Write.contents at.out in
    let after = g.O.Write.contents c.happen.new.out in
    let made = at.place - first in
    let here : at.place ≡ first + made = omega arith in
    let next : made + 1 ≡ at.place + 1 - first = omega arith in
    subst (λ (n : ℕ). WritesAnswers log (replicate n e) first start new before after) next
    (more log e made 1 first start at.cluster new before mid after (at.invariant log leads)
    (λ log' leads'.
    subst (λ (n : ℕ). WritesAnswers log' (replicate 1 e) n at.cluster new mid after) here
    (once log' c.args.event.now at.place at.cluster new mid after (c.in_ok-happen.ensures.written log' leads'))))

pub returns-clause-written : goal.returns-clause-written
returns-clause-written g c = λ log leads.
    let all : c.loop-place.place - c.args.first ≡ c.args.times = omega arith in
    subst (λ (n : ℕ). WritesAnswers log (replicate n (event_of c.args.event.now)) c.args.first c.args.cluster.now c.loop-place.cluster (g.O.Write.contents c.args.out.now) (g.O.Write.contents c.loop-place.out)) all
    (c.loop-place.invariant log leads)
