use Rattle.std.proofs.Common.{ℕ, ◌≡◌, ◌<◌, ◌∙◌, ◌++◌, ◌∷◌, [], length, sym, subst, ap, arith, true, true≢false}
use Rattle.std.proofs.Math.ListN.{set}
use Rattle.disk.specs.Simulated.{SimState, crashed}
use Rattle.migration.specs.Events.{DiskCrash, run}
use Rattle.migration.specs.Running.{LeadsTo}
use Rattle.std.proofs.lemmas.Bool.{eqb-true}
use Rattle.migration.proofs.Stepping.{brings_none, no_crash, disk_is, some_bytes, crashes_so}
use Rattle.migration.proofs.running.Running.crash.Goals as goal

pub returns-then-at-len : goal.returns-then-at-len
returns-then-at-len c s events leads =
    let old = c.args.self.now in
    brings_none s events (DiskCrash c.args.disk c.args.given.now) old.migrator old.disks.items
    (no_crash s (run s events) c.args.disk c.args.given.now (λ may. absurd (let below = may.below in let n = leads.shows.count in omega (arith, below, n, c.if-at-len.true, c.len.ensures, c.from-at.ensures)))) leads

pub returns-then-is_empty : goal.returns-then-is_empty
returns-then-is_empty c s events leads =
    let old = c.args.self.now in
    let none = eqb-true (length c.args.given.now) 0 (sym c.is_empty.ensures ∙ c.if-is_empty.true) in
    brings_none s events (DiskCrash c.args.disk c.args.given.now) old.migrator old.disks.items
    (no_crash s (run s events) c.args.disk c.args.given.now (λ may. absurd (let some = may.some in omega (arith, some, none)))) leads

pub returns-then-not-may_crash : goal.returns-then-not-may_crash
returns-then-not-may_crash c s events leads =
    let old = c.args.self.now in
    let w = run s events in
    brings_none s events (DiskCrash c.args.disk c.args.given.now) old.migrator old.disks.items
    (no_crash s w c.args.disk c.args.given.now (λ may.
    let stood = disk_is s w old.disks.items c.args.disk c.from-at.result c.index.result.now leads.shows c.from-at.ensures may.below c.index.ensures in
    let may_it : c.may_crash.result ≡ true = c.may_crash.ensures.1 (ap (λ (x : SimState). x.disk.gone) stood ∙ may.gone, (let b = may.boot in omega (arith, b, ap (λ (x : SimState). x.disk.boot) stood))) in
    absurd (true≢false (sym may_it ∙ c.if-not-may_crash.true)))) leads

pub returns : goal.returns
returns c s events leads =
    let old = c.args.self.now in
    let w = run s events in
    let given = c.args.given.now in
    let below : c.args.disk < s.disks = let n = leads.shows.count in omega (arith, n, c.if-at-len.false, c.len.ensures, c.from-at.ensures) in
    let stood = disk_is s w old.disks.items c.args.disk c.from-at.result c.index_mut.result.now leads.shows c.from-at.ensures below c.index_mut.ensures.value in
    let looked = disk_is s w old.disks.items c.args.disk c.from-at.result c.index.result.now leads.shows c.from-at.ensures below c.index.ensures in
    let may = c.may_crash.ensures.0 c.if-not-may_crash.false in
    subst (λ (k : ℕ). LeadsTo s (events ++ DiskCrash c.args.disk given ∷ []) old.migrator (set old.disks.items k c.crash.new.self)) (sym c.from-at.ensures)
    (crashes_so s events old.migrator old.disks.items leads c.args.disk below given (some_bytes given (sym c.is_empty.ensures ∙ c.if-is_empty.false))
    (ap (λ (x : SimState). x.disk.gone) (sym looked) ∙ may.0) (let b = may.1 in omega (arith, b, ap (λ (x : SimState). x.disk.boot) looked))
    c.crash.new.self (c.crash.ensures.exact ∙ ap (λ (x : SimState). record x { disk = crashed x.disk given }) stood))
