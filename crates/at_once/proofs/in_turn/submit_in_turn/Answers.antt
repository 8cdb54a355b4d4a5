use Rattle.std.proofs.Common.{◌≡◌, ◌≤◌, ℕ, List, Some, length, slice_get, sym, subst}
use Rattle.disk.specs.Simulated.{SimState}
use Rattle.torn_block.specs.Layout.{cluster_version}
use Rattle.paxos_block.specs.Places.{image_length}
use Rattle.at_once.specs.Images.{HoldsNothing}
use Rattle.at_once.proofs.InTurn.{submitted_apart, zeros_blank, zeros_large}
use Rattle.at_once.proofs.in_turn.submit_in_turn.Goals as goal

pub submit_alone-requires-clause-large : goal.submit_alone-requires-clause-large
submit_alone-requires-clause-large c =
    subst (λ (ds : List SimState). (k : ℕ) (d : SimState) → slice_get ds k ≡ Some d → image_length cluster_version c.args.config.slots ≤ length d.disk.bytes) (sym c.in_ok-disks.ensures)
    (zeros_large c.args.config c.args.config.disks)

pub returns : goal.returns
returns c =
    let blank =
    subst (λ (ds : List SimState). (k : ℕ) (d : SimState) → slice_get ds k ≡ Some d → HoldsNothing c.args.config.slots d.disk) (sym c.in_ok-disks.ensures)
    (zeros_blank c.args.config c.args.config.disks) in
    record {
      apart = submitted_apart c.args.config c.args.first c.args.second c.args.tries c.in_ok-disks.disks.items c.in_ok-one.one.disks.items c.in_ok-other.other.disks.items
          c.in_ok-one.one.done c.in_ok-other.other.done c.requires.hosts blank c.in_ok-one.ensures.submitted c.in_ok-other.ensures.submitted;
    }
