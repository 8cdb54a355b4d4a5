use Rattle.std.proofs.Common.{◌≡◌, ◌<◌, ◌++◌, ◌∷◌, [], ℕ, length, Some, sym, ap, subst, arith}
use Rattle.disk.specs.Disk.{Answer, Attach, Booted}
use Rattle.attempt.specs.DeviceCalls.{device_answer}
use Rattle.standings.specs.Past.{made}
use Rattle.window.specs.declared.outcome.Outcome.TheVariants.{AsHeard}
use Rattle.window.specs.Calls.{length_of, sight_of}
use Rattle.window.specs.Hearing.{SeesOn}
use Rattle.window.specs.Knows.{KnowsOf, sight_in}
use Rattle.window.specs.Sights.{IsKnownUnder}
use Rattle.window.proofs.Following.{changed, changed_here, changed_others}
use Rattle.window.proofs.Hearing.{attach_fault_hears, attach_hears, fits_same}
use Rattle.window.proofs.window.Window.hear_attach.Goals as goal

pub returns-in-Booted : goal.returns-in-Booted
returns-in-Booted c =
    let w = c.args.self.now in
    let n = length_of w in
    let i = c.from-disk.result in
    let s = Some c.attached-sight.result in
    let told = device_answer c.args.heard.now in
    let is : told ≡ Booted c.in-Booted.boot.number = ap device_answer c.in-Booted.is in
    let same : i ≡ c.args.disk = omega arith in
    let room : i < length w.sights = omega arith in
    let here = sym (changed_here w.sights c.args.disk i s same room) in
    attach_hears w c.args.disk told (changed w.sights c.args.disk i s same) (fits_same Attach c.args.heard.now c.requires.fits)
    (λ past known.
    subst (λ (a : Answer). KnowsOf n w.standpoint.epoch w.standpoint.host (past ++ made Attach a ∷ []) (sight_in (changed w.sights c.args.disk i s same) c.args.disk)) (sym is)
    (subst (KnowsOf n w.standpoint.epoch w.standpoint.host (past ++ made Attach (Booted c.in-Booted.boot.number) ∷ [])) here
    (c.attached-sight.ensures.knows n w.standpoint.host w.standpoint.epoch past (subst (λ (k : ℕ). KnowsOf n w.standpoint.epoch w.standpoint.host past (sight_in w.sights k)) (sym same) known))))
    (changed_others w.sights c.args.disk i s same)
    (subst (λ (a : Answer). SeesOn w.standpoint.only_looks Attach a (Some AsHeard) (sight_of w c.args.disk) (sight_in (changed w.sights c.args.disk i s same) c.args.disk)) (sym is)
    (subst (SeesOn w.standpoint.only_looks Attach (Booted c.in-Booted.boot.number) (Some AsHeard) (sight_of w c.args.disk)) here (c.attached-sight.ensures.under, λ known. c.attached-sight.ensures.known (subst (λ (k : ℕ). IsKnownUnder c.in-Booted.boot.number (sight_in w.sights k)) (sym same) known))))

pub returns-in_default : goal.returns-in_default
returns-in_default c = attach_fault_hears c.args.self.now c.args.disk c.args.heard.now c.requires.fits c.in_default.not-Booted
