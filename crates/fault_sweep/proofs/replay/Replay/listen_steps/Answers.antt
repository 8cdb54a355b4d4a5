use Rattle.std.specs.Prelude.{replicate}
use Rattle.std.proofs.Common.{length, refl, ◌≤◌, subst, arith}
use Rattle.std.proofs.lemmas.List.{length-replicate}
use Rattle.world.specs.Happens.{Step}
use Rattle.simulator.specs.Past.{Past}
use Rattle.fault_sweep.specs.Replayed.{later, Says}
use Rattle.fault_sweep.proofs.Covering.{kept_last, kept_still}
use Rattle.fault_sweep.proofs.Replaying.{hears_other, hears_recovery}
use Rattle.fault_sweep.proofs.replay.Replay.listen_steps.Goals as goal

pub returns-in_ok-learned_by-clause-heard : goal.returns-in_ok-learned_by-clause-heard
returns-in_ok-learned_by-clause-heard c =
    let made = c.in_ok-made in
    let steps = replicate made.made (Step c.args.host) in
    λ start p is heard.
    hears_recovery start p (later p steps) _ _ c.in-Some.said c.in-Recovered.length c.in-Recovered.is
    (subst (Says p (later p steps)) c.in-Some.is (made.ensures.said p is)).answered heard

pub returns-in_ok-learned_by-clause-kept : goal.returns-in_ok-learned_by-clause-kept
returns-in_ok-learned_by-clause-kept c =
    let made = c.in_ok-made in
    let steps = replicate made.made (Step c.args.host) in
    λ start p is kept.
    let now : Past = later p steps in
    let on = made.ensures.happened p is in
    let some : 1 ≤ length steps = omega (arith, made.ensures.made.0, length-replicate made.made (Step c.args.host)) in
    kept_last start p now on.can steps c.in-Some.said c.in-Recovered.length c.in_ok-learned_by.field-0.items _ some
    refl (subst (Says p now) c.in-Some.is (made.ensures.said p is)) c.in-Recovered.is (c.in_ok-learned_by.ensures now on) kept

pub returns-in_default-answer-clause-heard : goal.returns-in_default-answer-clause-heard
returns-in_default-answer-clause-heard c =
    let made = c.in_ok-made in
    let steps = replicate made.made (Step c.args.host) in
    λ start p is heard.
    hears_other start p (later p steps) _ _ c.in-Some.said c.in_default-answer.not-Recovered (subst (Says p (later p steps)) c.in-Some.is (made.ensures.said p is)).answered heard

pub returns-in_default-answer-clause-kept : goal.returns-in_default-answer-clause-kept
returns-in_default-answer-clause-kept c =
    let steps = replicate c.in_ok-made.made (Step c.args.host) in
    λ start p is kept. kept_still start p (later p steps) steps _ refl kept

pub returns-in_default-clause-kept : goal.returns-in_default-clause-kept
returns-in_default-clause-kept c =
    let steps = replicate c.in_ok-made.made (Step c.args.host) in
    λ start p is kept. kept_still start p (later p steps) steps _ refl kept
