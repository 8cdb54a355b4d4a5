use Rattle.std.proofs.Common.{ℕ, ◌<◌, ◌∙◌, ◌++◌, ◌∷◌, [], sym, subst, ap, arith, true≢false}
use Rattle.std.proofs.Math.ListN.{set}
use Rattle.disk.specs.Disk.{lost}
use Rattle.disk.specs.Simulated.{SimState}
use Rattle.migration.specs.Events.{DiskGone, run}
use Rattle.migration.specs.Running.{LeadsTo}
use Rattle.migration.proofs.Stepping.{brings_none, no_loss, disk_is, loses_so}
use Rattle.migration.proofs.running.Running.lose.Goals as goal

pub returns-then-at-len : goal.returns-then-at-len
returns-then-at-len c s events leads =
    let old = c.args.self.now in
    brings_none s events (DiskGone c.args.disk) old.migrator old.disks.items
    (no_loss s (run s events) c.args.disk (λ below gone. absurd (let n = leads.shows.count in omega (arith, below, n, c.if-at-len.true, c.len.ensures, c.from-at.ensures)))) leads

pub returns-then-is_lost : goal.returns-then-is_lost
returns-then-is_lost c s events leads =
    let old = c.args.self.now in
    let w = run s events in
    brings_none s events (DiskGone c.args.disk) old.migrator old.disks.items
    (no_loss s w c.args.disk (λ below gone.
    let stood = disk_is s w old.disks.items c.args.disk c.from-at.result c.index.result.now leads.shows c.from-at.ensures below c.index.ensures in
    absurd (true≢false (sym c.if-is_lost.true ∙ c.is_lost.ensures ∙ ap (λ (x : SimState). x.disk.gone) stood ∙ gone)))) leads

pub returns : goal.returns
returns c s events leads =
    let old = c.args.self.now in
    let w = run s events in
    let below : c.args.disk < s.disks = let n = leads.shows.count in omega (arith, n, c.if-at-len.false, c.len.ensures, c.from-at.ensures) in
    let stood = disk_is s w old.disks.items c.args.disk c.from-at.result c.index_mut.result.now leads.shows c.from-at.ensures below c.index_mut.ensures.value in
    let looked = disk_is s w old.disks.items c.args.disk c.from-at.result c.index.result.now leads.shows c.from-at.ensures below c.index.ensures in
    subst (λ (k : ℕ). LeadsTo s (events ++ DiskGone c.args.disk ∷ []) old.migrator (set old.disks.items k c.lose.new.self)) (sym c.from-at.ensures)
    (loses_so s events old.migrator old.disks.items leads c.args.disk below (ap (λ (x : SimState). x.disk.gone) (sym looked) ∙ sym c.is_lost.ensures ∙ c.if-is_lost.false)
    c.lose.new.self (c.lose.ensures ∙ ap (λ (x : SimState). record x { disk = lost x.disk }) stood))
