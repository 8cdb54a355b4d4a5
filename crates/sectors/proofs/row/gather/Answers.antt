use Rattle.std.proofs.Common.{◌≡◌, ◌∙◌, ◌+◌, ◌*◌, ◌-◌, ◌<◌, ℕ, List, sym, ap, subst, arith}
use Rattle.disk.specs.Disk.{put_at}
use Rattle.torn_block.specs.Layout.{cluster_version}
use Rattle.torn_block.specs.Damage as row
use Rattle.paxos_block.specs.Saying.{zeros}
use Rattle.sectors.specs.Row.{IsRowOf, sector_in}
use Rattle.sectors.specs.Sector.{block_of}
use Rattle.sectors.proofs.RowLaws.{put_next, gathered}
use Rattle.sectors.proofs.row.gather.Goals as goal

pub loop-host-preserved : goal.loop-host-preserved
loop-host-preserved c = (
  c.put_block.array_long,
  subst
      (λ (l : List ℕ). (k : ℕ) → k < c.loop-host.host + 1 → row.block_of cluster_version k l ≡ block_of (sector_in c.args.geometry.now k c.args.sectors.now))
      (sym c.put_block.ensures)
      (put_next c.args.geometry.now c.args.sectors.now c.loop-host.row c.block_of.result.now c.loop-host.host c.loop-host.invariant.0 c.block_of.ensures.long
      (omega (arith, c.loop-host-test.true, c.from-hosts.ensures, c.requires.shape.hosts.1)) c.block_of.ensures.block c.loop-host.invariant.1),
)

pub returns : goal.returns
returns c =
    let cleared = c.clear_from.ensures ∙ ap (λ (n : ℕ). put_at c.loop-host.row (256 * n) (zeros (4096 - 256 * n))) c.from-hosts.ensures in
    subst (IsRowOf c.args.geometry.now c.args.sectors.now) (sym cleared)
    (gathered c.args.geometry.now c.requires.shape c.args.sectors.now c.loop-host.row c.loop-host.invariant.0
    (λ host below. c.loop-host.invariant.1 host (omega (arith, below, c.loop-host-test.false, c.from-hosts.ensures))))
