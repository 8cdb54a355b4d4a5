use Rattle.std.proofs.Common.{◌∙◌, ℕ, List, sym, ap, arith, drop}
use Rattle.std.specs.Prelude.{◌==◌, if◌then◌else◌}
use Rattle.std.specs.List.{list_all}
use Rattle.std.proofs.lemmas.Bool.{both_ways}
use Rattle.std.proofs.lemmas.List.{take_rest}
use Rattle.torn_block.specs.Layout.{value_length}
use Rattle.paxos_block.specs.Ballot.{may_promise}
use Rattle.paxos_block.specs.Saying.{number_at}
use Rattle.paxos_block.proofs.SayingLemmas.{said_filled, not_said_unheaded, not_said_unfilled, filled_tells, filled_since, number_behind}
use Rattle.paxos_block.proofs.block.is_said.Goals as goal

pub returns-in-None : goal.returns-in-None
returns-in-None g c =
    sym (not_said_unheaded g.L.Layout.version c.args.front.now c.args.back.now c.requires.front c.requires.back (λ i. omega (arith, c.type_inv.back i)) c.args.host c.in-None.ensures)

pub returns-then-has_zeros : goal.returns-then-has_zeros
returns-then-has_zeros g c =
    let v = g.L.Layout.version in
    let back = c.args.back.now in
    let voted = c.in-Some.voted in
    let end_is = ap (λ (l : List ℕ). list_all (λ b. b == 0) (if voted then drop (value_length v) l else l)) (sym (take_rest back 16)) in
    let filled = filled_tells v c.args.front.now back c.requires.front c.requires.back (λ i. omega (arith, c.type_inv.back i)) voted (end_is ∙ sym c.has_zeros.ensures ∙ c.if-has_zeros.true) in
    c.may_promise.ensures
    ∙ ap (λ (m : ℕ). may_promise v c.args.host m c.number_in-then-has_zeros.result voted) c.number_in.ensures
    ∙ ap (λ (b : ℕ). may_promise v c.args.host (number_at 0 back) b voted) (c.number_in-then-has_zeros.ensures ∙ number_behind v c.args.front.now back c.requires.front c.requires.back (λ i. omega (arith, c.type_inv.back i)))
    ∙ sym (said_filled v c.args.front.now back c.requires.front c.requires.back (λ i. omega (arith, c.type_inv.back i)) c.args.host voted c.in-Some.ensures.0 c.in-Some.ensures.1 c.in-Some.ensures.2 filled)

pub returns-else-has_zeros : goal.returns-else-has_zeros
returns-else-has_zeros g c =
    let v = g.L.Layout.version in
    let back = c.args.back.now in
    let voted = c.in-Some.voted in
    let end_is = ap (λ (l : List ℕ). list_all (λ b. b == 0) (if voted then drop (value_length v) l else l)) (take_rest back 16) in
    c.if-has_zeros.false
    ∙ sym (not_said_unfilled v c.args.front.now back c.requires.front c.requires.back (λ i. omega (arith, c.type_inv.back i)) c.args.host voted c.in-Some.ensures.0 c.in-Some.ensures.2 (λ filled.
    both_ways c.has_zeros.result c.if-has_zeros.false (c.has_zeros.ensures ∙ end_is ∙ filled_since v c.args.front.now back c.requires.front c.requires.back (λ i. omega (arith, c.type_inv.back i)) voted filled)))
