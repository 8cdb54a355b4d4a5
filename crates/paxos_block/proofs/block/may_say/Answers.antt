use Rattle.std.proofs.Common.{◌≡◌, ◌∙◌, List, ℕ, Option, Some, None, refl, sym, ap}
use Rattle.std.specs.Prelude.{is_some}
use Rattle.std.specs.Option.{option_map}
use Rattle.std.proofs.lemmas.Bool.{and_parts, and_from, both_ways}
use Rattle.paxos_block.specs.Ballot.{may_promise}
use Rattle.paxos_block.specs.Saying.{Said, said_as, may_mark}
use Rattle.paxos_block.proofs.SayingLemmas.{may_say_tells, may_say_since}
use Rattle.paxos_block.proofs.block.may_say.Goals as goal

some_mapped : {V : Type 0} (f : V → List ℕ) (o : Option V) → is_some o ≡ is_some (option_map f o)
some_mapped f None = refl
some_mapped f (Some x) = refl

pub returns-then-may_promise : goal.returns-then-may_promise
returns-then-may_promise g c =
    let v = g.L.Layout.version in
    let h = c.args.host in
    let b : Said = said_as g.L.Layout.spelled c.args.block.now in
    let voted = c.is_some-voted.ensures ∙ some_mapped g.L.Layout.spelled c.args.block.now.inp in
    let promise = ap (may_promise v h b.mbal b.bal) (sym voted) ∙ sym c.may_promise.ensures ∙ c.if-may_promise.true in
    let mark = c.may_mark.ensures ∙ ap (may_mark b.mark) voted in (
      (λ t. may_say_tells v h b (and_from (may_promise v h b.mbal b.bal (is_some b.inp)) (may_mark b.mark (is_some b.inp)) promise (sym mark ∙ t))),
      (λ may. mark ∙ (and_parts (may_promise v h b.mbal b.bal (is_some b.inp)) (may_mark b.mark (is_some b.inp)) (may_say_since v h b may)).1),
    )

pub returns-else-may_promise : goal.returns-else-may_promise
returns-else-may_promise g c =
    let v = g.L.Layout.version in
    let h = c.args.host in
    let b : Said = said_as g.L.Layout.spelled c.args.block.now in
    let voted = c.is_some-voted.ensures ∙ some_mapped g.L.Layout.spelled c.args.block.now.inp in
    let promise = c.may_promise.ensures ∙ ap (may_promise v h b.mbal b.bal) voted in (
      (λ t. absurd (both_ways c.may_promise.result c.if-may_promise.false t)),
      (λ may. promise ∙ (and_parts (may_promise v h b.mbal b.bal (is_some b.inp)) (may_mark b.mark (is_some b.inp)) (may_say_since v h b may)).0),
    )
