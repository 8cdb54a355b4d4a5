use Rattle.std.proofs.Common.{◌≡◌, subst, arith}
use Rattle.std.proofs.lemmas.Bool.{false≢true}
use Rattle.standings.proofs.TwoReadings.{Sofar, all_clear, all_shown}
use Rattle.standings.proofs.reading.shown.Goals as goal

pub returns : goal.returns
returns c =
    let e = c.args.epoch.now in
    let first = c.args.first.now in
    let second = c.args.second.now in
    let end : c.loop-host.host ≡ 16 = omega arith in
    let sofar = subst (Sofar e first second c.loop-host.shown) end c.loop-host.invariant in
    (all_clear e first second (λ passed. false≢true (c.if-has_passed.ensures.1 passed)) c.loop-host.shown sofar, all_shown e first second c.loop-host.shown sofar)
