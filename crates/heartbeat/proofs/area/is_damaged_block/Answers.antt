use Rattle.std.proofs.Common.{◌∙◌, ℕ, List, ap}
use Rattle.torn_block.specs.Layout.{cluster_version}
use Rattle.torn_block.specs.Damage.{first_of, is_damaged}
use Rattle.heartbeat.specs.Beat.{is_beat}
use Rattle.heartbeat.proofs.area.is_damaged_block.Goals as goal

pub returns : goal.returns
returns c =
    c.is_damaged.ensures
    ∙ ap (λ (l : List ℕ). is_damaged is_beat l c.split_at.result.1.now) c.split_at.ensures.front
    ∙ ap (is_damaged is_beat (first_of cluster_version c.args.bytes.now)) c.split_at.ensures.back
