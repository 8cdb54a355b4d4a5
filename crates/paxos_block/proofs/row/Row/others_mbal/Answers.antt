use Rattle.std.proofs.Common.{◌≡◌, ◌∙◌, ◌<◌, ℕ, List, Bool, true, false, refl, sym, ap, arith, max, get_or}
use Rattle.std.specs.Prelude.{◌==◌, if◌then◌else◌}
use Rattle.torn_block.specs.declared.layout.TheConstants.{HOSTS_ROOM}
use Rattle.paxos_block.specs.Saying.{Said}
use Rattle.paxos_block.specs.Row.{DecodedBlock, blank}
use Rattle.paxos_block.specs.Votes.{says_in, greatest}
use Rattle.paxos_block.proofs.VoteLemmas.{max_is, other_mbal, others_own, others_other, greatest_rest, says_rest}
use Rattle.torn_block.specs.Layout.{hosts_in}
use Rattle.torn_block.proofs.LayoutLaws.{few_hosts}
use Rattle.paxos_block.proofs.row.Row.others_mbal.Goals as goal
use Rattle.paxos_block.proofs.row.Row.others_mbal.Goals.{then-other-from, else-other-from}

pub loop-other-preserved : goal.loop-other-preserved
loop-other-preserved g c =
    λ v spelled seen are.
    let below : c.loop-other.other < HOSTS_ROOM = omega (arith, c.loop-other-test.true) in
    let before = c.loop-other.invariant v spelled seen are in
    elim c.if-other-from.branch [
      | then-other-from w ↦
          (let here : (get_or c.args.self.now.cells c.loop-other.other w.index-self-other.result).says.mbal ≡ (says_in seen c.loop-other.other).mbal =
          ap (λ (s : Said). s.mbal) (are.cells c.loop-other.other below w.index-self-other.result).says in
          w.top-is
          ∙ w.max-top.ensures
          ∙ max_is c.loop-other.top (get_or c.args.self.now.cells c.loop-other.other w.index-self-other.result).says.mbal
          ∙ ap (λ (n : ℕ). max n (get_or c.args.self.now.cells c.loop-other.other w.index-self-other.result).says.mbal) before
          ∙ ap (λ (n : ℕ). max (greatest c.loop-other.other (other_mbal c.args.host seen)) n) here
          ∙ sym (others_other c.args.host seen c.loop-other.other (λ same. w.if-other-from.true (same ∙ sym c.from.ensures))))
      | else-other-from w ↦
          w.top-is ∙ before ∙ sym (others_own c.args.host seen c.loop-other.other (w.if-other-from.false ∙ c.from.ensures))
    ]

own_rest : (host : ℕ) (row : List DecodedBlock) (k : ℕ) (t : Bool) → says_in row k ≡ blank → (if t then 0 else (says_in row k).mbal) ≡ 0
own_rest host row k true is = refl
own_rest host row k false is = ap (λ (s : Said). s.mbal) is

pub returns : goal.returns
returns g c =
    λ v spelled seen are.
    let all : c.loop-other.other ≡ HOSTS_ROOM = omega (arith, c.loop-other-test.false) in
    c.loop-other.invariant v spelled seen are
    ∙ ap (λ (n : ℕ). greatest n (other_mbal c.args.host seen)) all
    ∙ greatest_rest (other_mbal c.args.host seen) (hosts_in v) HOSTS_ROOM (few_hosts v) (λ k from below. own_rest c.args.host seen k (k == c.args.host) (says_rest v seen are.count k from below))
