use Rattle.std.proofs.Common.{◌≡◌, ◌<◌, ◌++◌, ◌∷◌, [], ℕ, length, Some, sym, ap, subst, arith}
use Rattle.disk.specs.Disk.{Answer, Sync, Done}
use Rattle.attempt.specs.DeviceCalls.{device_answer}
use Rattle.standings.specs.Past.{made}
use Rattle.window.specs.declared.outcome.Outcome.TheVariants.{AsHeard}
use Rattle.window.specs.Calls.{length_of, sight_of}
use Rattle.window.specs.Hearing.{SeesOn}
use Rattle.window.specs.Knows.{KnowsOf, sight_in}
use Rattle.window.proofs.Following.{changed, changed_here, changed_others}
use Rattle.window.proofs.Hearing.{sync_fault_hears, sync_hears, fits_same}
use Rattle.window.proofs.window.Window.hear_sync.Goals as goal

pub returns-in-Done : goal.returns-in-Done
returns-in-Done c =
    let w = c.args.self.now in
    let n = length_of w in
    let b = c.args.boot.number in
    let i = c.from-disk.result in
    let s = c.synced-sight.result in
    let told = device_answer c.args.heard.now in
    let is : told ≡ Done = ap device_answer c.in-Done.is in
    let same : i ≡ c.args.disk = omega arith in
    let room : i < length w.sights = omega arith in
    let here = sym (changed_here w.sights c.args.disk i s same room) in
    sync_hears w c.args.disk told b (changed w.sights c.args.disk i s same) (fits_same (Sync b) c.args.heard.now c.requires.fits)
    (λ past known.
    subst (λ (a : Answer). KnowsOf n w.standpoint.epoch w.standpoint.host (past ++ made (Sync b) a ∷ []) (sight_in (changed w.sights c.args.disk i s same) c.args.disk)) (sym is)
    (subst (KnowsOf n w.standpoint.epoch w.standpoint.host (past ++ made (Sync b) Done ∷ [])) here
    (c.synced-sight.ensures.knows n w.standpoint.host w.standpoint.epoch past (subst (λ (k : ℕ). KnowsOf n w.standpoint.epoch w.standpoint.host past (sight_in w.sights k)) (sym same) known))))
    (changed_others w.sights c.args.disk i s same)
    (subst (λ (a : Answer). SeesOn w.standpoint.only_looks (Sync b) a (Some AsHeard) (sight_of w c.args.disk) (sight_in (changed w.sights c.args.disk i s same) c.args.disk)) (sym is)
    (subst (SeesOn w.standpoint.only_looks (Sync b) Done (Some AsHeard) (sight_of w c.args.disk)) here
    (subst (λ (k : ℕ). SeesOn w.standpoint.only_looks (Sync b) Done (Some AsHeard) (sight_in w.sights k) s) same (c.synced-sight.ensures.keeps, c.synced-sight.ensures.synced))))

pub returns-in_default : goal.returns-in_default
returns-in_default c = sync_fault_hears c.args.self.now c.args.disk c.args.heard.now c.args.boot.number c.requires.fits c.in_default.not-Done
