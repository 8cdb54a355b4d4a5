use Rattle.std.proofs.Common.{◌∙◌, ℕ, sym, ap, take, drop}
use Rattle.std.proofs.lemmas.Bool.{not-true}
use Rattle.torn_block.specs.Block.{is_open}
use Rattle.paxos_block.proofs.RowLemmas.{shut_is_blank}
use Rattle.paxos_block.proofs.cell.is_blank.Goals as goal

pub returns-then-not-is_open : goal.returns-then-not-is_open
returns-then-not-is_open g c = λ shut host.
    let bytes = c.args.bytes.now in
    let copy = c.COPY_LENGTH.ensures ∙ g.met.L.Layout.copy_is in
    let first = ap is_open (sym (c.split_at.ensures.front ∙ ap (λ (n : ℕ). take n bytes) copy)) ∙ sym c.is_open.ensures ∙ c.if-not-is_open.true in
    let second = ap is_open (sym (c.split_at.ensures.back ∙ ap (λ (n : ℕ). drop n bytes) copy)) ∙ sym c.is_open-then-not-is_open.ensures ∙ not-true c.is_open-then-not-is_open.result shut in
    shut_is_blank g.L.Layout.version g.L.Layout.spelled host bytes first second
