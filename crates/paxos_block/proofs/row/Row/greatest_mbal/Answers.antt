use Rattle.std.proofs.Common.{◌≡◌, ◌∙◌, ◌<◌, ℕ, sym, ap, arith, max, get_or}
use Rattle.torn_block.specs.declared.layout.TheConstants.{HOSTS_ROOM}
use Rattle.paxos_block.specs.Saying.{Said}
use Rattle.paxos_block.specs.Votes.{says_in, greatest}
use Rattle.paxos_block.proofs.VoteLemmas.{greatest_next, max_is, greatest_rest, says_rest}
use Rattle.torn_block.specs.Layout.{hosts_in}
use Rattle.torn_block.proofs.LayoutLaws.{few_hosts}
use Rattle.paxos_block.proofs.row.Row.greatest_mbal.Goals as goal

pub loop-g-preserved : goal.loop-g-preserved
loop-g-preserved g c =
    λ v spelled seen are.
    let below : c.loop-g.g < HOSTS_ROOM = omega (arith, c.loop-g-test.true) in
    let here : (get_or c.args.self.now.cells c.loop-g.g c.index-self-g.result).says.mbal ≡ (says_in seen c.loop-g.g).mbal =
    ap (λ (s : Said). s.mbal) (are.cells c.loop-g.g below c.index-self-g.result).says in
    let before = c.loop-g.invariant v spelled seen are in
    c.max-greatest.ensures
    ∙ max_is c.loop-g.greatest (get_or c.args.self.now.cells c.loop-g.g c.index-self-g.result).says.mbal
    ∙ ap (λ (n : ℕ). max n (get_or c.args.self.now.cells c.loop-g.g c.index-self-g.result).says.mbal) before
    ∙ ap (λ (n : ℕ). max (greatest c.loop-g.g (λ k. (says_in seen k).mbal)) n) here
    ∙ sym (greatest_next c.loop-g.g (λ k. (says_in seen k).mbal))

pub returns : goal.returns
returns g c =
    λ v spelled seen are.
    let all : c.loop-g.g ≡ HOSTS_ROOM = omega (arith, c.loop-g-test.false) in
    let mbal : ℕ → ℕ = λ k. (says_in seen k).mbal in
    c.loop-g.invariant v spelled seen are
    ∙ ap (λ (n : ℕ). greatest n mbal) all
    ∙ greatest_rest mbal (hosts_in v) HOSTS_ROOM (few_hosts v) (λ k from below. ap (λ (s : Said). s.mbal) (says_rest v seen are.count k from below))
