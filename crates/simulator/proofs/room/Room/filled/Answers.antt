use Rattle.std.proofs.Common.{◌≡◌, ℕ, Some, None, slice_index_or, sym, subst}
use Rattle.lock_table.specs.Apply.{table_after}
use Rattle.lock_table.specs.Picture.{IsPictureOf, Shown}
use Rattle.host.specs.Host.{Host, learned_of}
use Rattle.host.specs.Kept.{Kept}
use Rattle.world.specs.World.{world}
use Rattle.simulator.specs.Kept.{IsHost}
use Rattle.simulator.proofs.Shown.{running_by}
use Rattle.simulator.proofs.room.Room.filled.Goals as goal

pub returns : goal.returns
returns c log leads =
    let cluster = c.args.cluster.now in
    let host = (world cluster.shape log).host c.args.host in
    let core : Kept = c.in-Some.core.now in
    let there : slice_index_or cluster.hosts c.args.host None ≡ Some core =
    subst (λ (n : ℕ). slice_index_or cluster.hosts n None ≡ Some core) c.get.ensures.value (sym c.in-Some.ensures) in
    let runs = running_by cluster.shape c.args.host host core (subst (IsHost cluster.shape c.args.host host) there (leads.shows.hosts c.args.host)) in
    subst (λ (w : Host). IsPictureOf c.fill.new.self (table_after (learned_of w))) (sym runs.1)
    (subst (λ (p : Shown). IsPictureOf p (table_after runs.0.learned)) (sym c.fill.ensures.shown) (c.table.ensures.known cluster.shape c.args.host runs.0 runs.2))
