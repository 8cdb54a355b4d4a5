use Rattle.std.proofs.Common.{◌≡◌, ◌∙◌, ◌<◌, ℕ, sym, ap, arith, get_or}
use Rattle.torn_block.specs.declared.layout.TheConstants.{HOSTS_ROOM}
use Rattle.paxos_block.specs.Saying.{Said, said_as}
use Rattle.paxos_block.specs.Votes.{says_in, latest_below, later_of}
use Rattle.paxos_block.proofs.VoteLemmas.{latest_own, latest_other, latest_rest, says_rest}
use Rattle.torn_block.specs.Layout.{hosts_in}
use Rattle.torn_block.proofs.LayoutLaws.{few_hosts}
use Rattle.paxos_block.proofs.row.Row.latest_vote.Goals as goal
use Rattle.paxos_block.proofs.row.Row.latest_vote.Goals.{then-g-from, else-g-from}

pub loop-g-preserved : goal.loop-g-preserved
loop-g-preserved g c =
    λ v spelled seen are.
    let below : c.loop-g.g < HOSTS_ROOM = omega (arith, c.loop-g-test.true) in
    let before = c.loop-g.invariant v spelled seen are in
    elim c.if-g-from.branch [
      | then-g-from w ↦
          (let here : said_as spelled (get_or c.args.self.now.cells c.loop-g.g w.index-self-g.result).says ≡ says_in seen c.loop-g.g =
          (are.cells c.loop-g.g below w.index-self-g.result).says in
          ap (said_as spelled) w.best-is
          ∙ w.or_later-best.ensures spelled
          ∙ ap (λ (s : Said). later_of s (said_as spelled (get_or c.args.self.now.cells c.loop-g.g w.index-self-g.result).says)) before
          ∙ ap (later_of (latest_below c.args.host seen c.loop-g.g (said_as spelled c.args.best))) here
          ∙ sym (latest_other c.args.host seen c.loop-g.g (said_as spelled c.args.best) (λ same. w.if-g-from.true (same ∙ sym c.from.ensures))))
      | else-g-from w ↦
          ap (said_as spelled) w.best-is ∙ before ∙ sym (latest_own c.args.host seen c.loop-g.g (said_as spelled c.args.best) (w.if-g-from.false ∙ c.from.ensures))
    ]

pub returns : goal.returns
returns g c =
    λ v spelled seen are.
    let all : c.loop-g.g ≡ HOSTS_ROOM = omega (arith, c.loop-g-test.false) in
    c.loop-g.invariant v spelled seen are
    ∙ ap (λ (n : ℕ). latest_below c.args.host seen n (said_as spelled c.args.best)) all
    ∙ latest_rest c.args.host seen (said_as spelled c.args.best) (hosts_in v) HOSTS_ROOM (few_hosts v) (says_rest v seen are.count)
