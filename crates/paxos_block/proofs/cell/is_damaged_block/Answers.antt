use Rattle.std.proofs.Common.{◌∙◌, ℕ, List, ap, take, drop}
use Rattle.torn_block.specs.Damage.{first_of, is_damaged}
use Rattle.paxos_block.specs.Row.{is_sound}
use Rattle.paxos_block.proofs.cell.is_damaged_block.Goals as goal

pub returns : goal.returns
returns g c =
    let v = g.L.Layout.version in
    let bytes = c.args.bytes.now in
    let copy = c.COPY_LENGTH.ensures ∙ g.met.L.Layout.copy_is in
    c.is_damaged.ensures
    ∙ ap (λ (l : List ℕ). is_damaged (is_sound v c.args.host) l c.split_at.result.1.now) (c.split_at.ensures.front ∙ ap (λ (n : ℕ). take n bytes) copy)
    ∙ ap (is_damaged (is_sound v c.args.host) (first_of v bytes)) (c.split_at.ensures.back ∙ ap (λ (n : ℕ). drop n bytes) copy)
