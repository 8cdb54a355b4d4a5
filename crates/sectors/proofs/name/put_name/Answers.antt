use Rattle.std.proofs.Common.{◌+◌, ◌++◌, ◌∙◌, ℕ, drop, ap}
use Rattle.std.proofs.lemmas.List.{drop-drop}
use Rattle.torn_block.specs.Block.{number_bytes}
use Rattle.sectors.proofs.name.put_name.Goals as goal

pub returns-clause-put : goal.returns-clause-put
returns-clause-put c =
    let block = c.split_at_mut-rest.ensures.front in
    let stamp = c.put_number.ensures ∙ ap number_bytes (c.in-Some.ensures.1 ∙ ap (λ (n : ℕ). n + 1) c.stamp_in.ensures) in
    let behind = c.split_at_mut-number.ensures.back ∙ ap (drop 8) c.split_at_mut-rest.ensures.back ∙ drop-drop 8 256 c.args.sector.now in
    let rest = c.split_at_mut-named.ensures.back ∙ ap (drop 16) behind ∙ drop-drop 16 264 c.args.sector.now in
    λ i. block i ++ (stamp i ++ (c.copy_from_slice.ensures.after i ++ rest i))
