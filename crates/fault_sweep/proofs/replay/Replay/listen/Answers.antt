use Rattle.std.proofs.Common.{◌∷◌, [], refl, subst, arith}
use Rattle.simulator.specs.Events.{event_of}
use Rattle.simulator.specs.Past.{Past}
use Rattle.fault_sweep.specs.Replayed.{later, Says}
use Rattle.fault_sweep.proofs.Covering.{kept_last, kept_still}
use Rattle.fault_sweep.proofs.Replaying.{hears_other, hears_recovery}
use Rattle.fault_sweep.proofs.replay.Replay.listen.Goals as goal

pub returns-in_ok-learned_by-clause-heard : goal.returns-in_ok-learned_by-clause-heard
returns-in_ok-learned_by-clause-heard c =
    let e = event_of c.args.event.now in
    λ start p is heard.
    hears_recovery start p (later p (e ∷ [])) _ _ c.in-Some.said c.in-Recovered.length c.in-Recovered.is
    (subst (Says p (later p (e ∷ []))) c.in-Some.is (c.in_ok-said.ensures.said p is)).answered heard

pub returns-in_ok-learned_by-clause-kept : goal.returns-in_ok-learned_by-clause-kept
returns-in_ok-learned_by-clause-kept c =
    let e = event_of c.args.event.now in
    λ start p is kept.
    let now : Past = later p (e ∷ []) in
    let on = c.in_ok-said.ensures.happened p is in
    kept_last start p now on.can (e ∷ []) c.in-Some.said c.in-Recovered.length c.in_ok-learned_by.field-0.items _ (omega arith)
    refl (subst (Says p now) c.in-Some.is (c.in_ok-said.ensures.said p is)) c.in-Recovered.is (c.in_ok-learned_by.ensures now on) kept

pub returns-in_default-answer : goal.returns-in_default-answer
returns-in_default-answer c =
    let e = event_of c.args.event.now in
    record {
      counted = c.in_ok-said.ensures.counted;
      happened = c.in_ok-said.ensures.happened;
      heard = λ start p is heard.
          hears_other start p (later p (e ∷ [])) _ _ c.in-Some.said c.in_default-answer.not-Recovered
          (subst (Says p (later p (e ∷ []))) c.in-Some.is (c.in_ok-said.ensures.said p is)).answered heard;
      kept = λ start p is kept. kept_still start p (later p (e ∷ [])) (e ∷ []) _ refl kept;
    }

pub returns-in_default-clause-kept : goal.returns-in_default-clause-kept
returns-in_default-clause-kept c =
    λ start p is kept. kept_still start p (later p (event_of c.args.event.now ∷ [])) (event_of c.args.event.now ∷ []) _ refl kept
