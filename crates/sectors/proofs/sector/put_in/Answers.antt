use Rattle.std.proofs.Common.{◌+◌, ◌++◌, ◌∙◌, ℕ, List, drop, ap}
use Rattle.std.proofs.lemmas.List.{drop-drop}
use Rattle.disk.specs.Disk.{put_at}
use Rattle.torn_block.specs.Block.{number_bytes}
use Rattle.sectors.proofs.sector.put_in.Goals as goal

pub returns-clause-put : goal.returns-clause-put
returns-clause-put c =
    let block = c.put_bytes.ensures ∙ ap (λ (l : List ℕ). put_at l c.args.offset c.args.from.now) c.split_at_mut-block.ensures.front in
    let stamp = c.put_number.ensures ∙ ap number_bytes (c.in-Some.ensures.1 ∙ ap (λ (n : ℕ). n + 1) c.stamp_in.ensures) in
    let rest = c.split_at_mut-number.ensures.back ∙ ap (drop 8) c.split_at_mut-block.ensures.back ∙ drop-drop 8 256 c.args.sector.now in
    λ i. block i ++ (stamp i ++ rest i)
