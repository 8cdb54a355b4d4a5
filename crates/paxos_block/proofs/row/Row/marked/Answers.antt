use Rattle.std.proofs.Common.{◌≡◌, ◌∙◌, ◌<◌, ℕ, List, Option, Some, None, sym, ap, arith, get_or}
use Rattle.std.specs.Option.{option_map, option_or}
use Rattle.torn_block.specs.declared.layout.TheConstants.{HOSTS_ROOM}
use Rattle.torn_block.specs.Layout.{hosts_in}
use Rattle.torn_block.proofs.LayoutLaws.{few_hosts}
use Rattle.paxos_block.specs.Saying.{said_as}
use Rattle.paxos_block.specs.Votes.{says_in, marked, marked_below}
use Rattle.paxos_block.proofs.VoteLemmas.{first_marked, marked_next, marked_rest, says_rest}
use Rattle.paxos_block.proofs.row.Row.marked.Goals as goal

pub loop-g-preserved : goal.loop-g-preserved
loop-g-preserved g c =
    λ v spelled seen are.
    let below : c.loop-g.g < HOSTS_ROOM = omega (arith, c.loop-g-test.true) in
    let here : said_as spelled (get_or c.args.self.now.cells c.loop-g.g c.index-self-g.result).says ≡ says_in seen c.loop-g.g = (are.cells c.loop-g.g below c.index-self-g.result).says in
    let is : marked (says_in seen c.loop-g.g) ≡ None = ap marked (sym here) ∙ sym (c.marked.ensures spelled) ∙ ap (option_map spelled) c.in_default.is in
    marked_next seen c.loop-g.g ∙ ap (λ (o : Option (List ℕ)). option_or o (marked (says_in seen c.loop-g.g))) (c.loop-g.invariant v spelled seen are) ∙ is

pub returns-in-Some : goal.returns-in-Some
returns-in-Some g c =
    λ v spelled seen are.
    let below : c.loop-g.g < HOSTS_ROOM = omega (arith, c.loop-g-test.true) in
    let here : said_as spelled (get_or c.args.self.now.cells c.loop-g.g c.index-self-g.result).says ≡ says_in seen c.loop-g.g = (are.cells c.loop-g.g below c.index-self-g.result).says in
    let is : marked (says_in seen c.loop-g.g) ≡ Some (spelled c.in-Some.value) = ap marked (sym here) ∙ sym (c.marked.ensures spelled) ∙ ap (option_map spelled) c.in-Some.is in
    sym (sym (marked_rest seen (hosts_in v) HOSTS_ROOM (few_hosts v) (says_rest v seen are.count)) ∙ first_marked seen c.loop-g.g HOSTS_ROOM (spelled c.in-Some.value) below (c.loop-g.invariant v spelled seen are) is)

pub returns : goal.returns
returns g c =
    λ v spelled seen are.
    let all : c.loop-g.g ≡ HOSTS_ROOM = omega (arith, c.loop-g-test.false) in
    sym (sym (marked_rest seen (hosts_in v) HOSTS_ROOM (few_hosts v) (says_rest v seen are.count)) ∙ ap (marked_below seen) (sym all) ∙ c.loop-g.invariant v spelled seen are)
