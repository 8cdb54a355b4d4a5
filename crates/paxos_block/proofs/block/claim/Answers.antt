use Rattle.std.proofs.Common.{◌≡◌, ◌∙◌, ◌+◌, ◌-◌, ℕ, take, drop, ap, arith}
use Rattle.torn_block.specs.Layout.{value_length}
use Rattle.paxos_block.proofs.SayingLemmas.{claim_voted, claim_blank, number_behind}
use Rattle.paxos_block.proofs.block.claim.Goals as goal

pub returns-then-front-eq1 : goal.returns-then-front-eq1
returns-then-front-eq1 g c =
    let v = g.L.Layout.version in
    let back = c.args.back.now in
    let many : (16 + c.VALUE_LENGTH.result) - 16 ≡ value_length v = omega (arith, c.VALUE_LENGTH.ensures ∙ g.met.L.Layout.value_is) in
    claim_voted v c.args.front.now back c.requires.front c.requires.back (λ i. omega (arith, c.type_inv.back i)) g.L.Layout.spelled c.number_in-mbal.result c.number_in-bal.result c.value_in-value.result c.if-front-eq1.true c.number_in-mbal.ensures (c.number_in-bal.ensures ∙ number_behind v c.args.front.now back c.requires.front c.requires.back (λ i. omega (arith, c.type_inv.back i))) (c.value_in-value.ensures ∙ ap (λ (n : ℕ). take n (drop 16 back)) many)

pub returns-else-front-eq1 : goal.returns-else-front-eq1
returns-else-front-eq1 g c =
    claim_blank g.L.Layout.version c.args.front.now c.args.back.now c.requires.front c.requires.back (λ i. omega (arith, c.type_inv.back i)) g.L.Layout.spelled c.number_in-mbal.result c.number_in-bal.result c.if-front-eq1.false c.number_in-mbal.ensures (c.number_in-bal.ensures ∙ number_behind g.L.Layout.version c.args.front.now c.args.back.now c.requires.front c.requires.back (λ i. omega (arith, c.type_inv.back i)))
